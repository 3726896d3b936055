use Rattle.std.proofs.Common.{◌≡◌, ◌+◌, reverse}
use Rattle.link_rules.specs.Hierarchy.{directs, edges}
use Rattle.link_resolution.specs.Tables.{tabulate}
use Rattle.link_resolution.proofs.hierarchy.all_directs.Given as goal

abbrev pub invariant-loop-c : goal.invariant-loop-c
invariant-loop-c l = (l.stacked.items ≡ tabulate (λ c. reverse (directs l.classes c)) l.c) × (l.visits ≡ edges l.classes l.c + 1)
