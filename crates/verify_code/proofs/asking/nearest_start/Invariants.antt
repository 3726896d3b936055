use Rattle.std.proofs.Common.{◌≡◌, length}
use Rattle.std.specs.Prelude.{map}
use Rattle.verify_code.specs.Guards.{guard_in}
use Rattle.verify_code.specs.Handlers.{next_start}
use Rattle.verify_code.proofs.asking.nearest_start.Given as goal

abbrev pub invariant-loop-guard : goal.invariant-loop-guard
invariant-loop-guard l = next_start l.pc 65536 (map guard_in l.guards) ≡ next_start l.pc l.next (map guard_in l.rest)

abbrev pub decreases-loop-guard : goal.decreases-loop-guard
decreases-loop-guard l = length l.rest
