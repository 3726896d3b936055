use Rattle.std.proofs.Common.{◌≡◌}
use Rattle.link_rules.specs.Hierarchy.{supers}
use Rattle.link_resolution.specs.Tables.{tabulate}
use Rattle.link_resolution.proofs.hierarchy.all_supers.Given as goal

abbrev pub invariant-loop-c : goal.invariant-loop-c
invariant-loop-c l = l.supers.items ≡ tabulate (supers l.classes) l.c
