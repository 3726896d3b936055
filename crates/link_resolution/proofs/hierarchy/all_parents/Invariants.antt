use Rattle.std.proofs.Common.{◌≡◌}
use Rattle.link_rules.specs.Hierarchy.{parent_of}
use Rattle.link_resolution.specs.Tables.{tabulate}
use Rattle.link_resolution.proofs.hierarchy.all_parents.Given as goal

abbrev pub invariant-loop-c : goal.invariant-loop-c
invariant-loop-c l = l.parents.items ≡ tabulate (parent_of l.classes) l.c
