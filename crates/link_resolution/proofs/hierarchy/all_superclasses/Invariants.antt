use Rattle.std.proofs.Common.{◌≡◌}
use Rattle.link_rules.specs.Hierarchy.{superclasses}
use Rattle.link_resolution.specs.Tables.{tabulate}
use Rattle.link_resolution.proofs.hierarchy.all_superclasses.Given as goal

abbrev pub invariant-loop-c : goal.invariant-loop-c
invariant-loop-c l = l.superclasses.items ≡ tabulate (superclasses l.classes) l.c
