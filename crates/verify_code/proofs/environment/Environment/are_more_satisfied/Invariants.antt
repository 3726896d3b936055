-- What is left of the handlers is kept where all are, and the last is satisfied.
use Rattle.std.proofs.Common.{◌≡◌, length}
use Rattle.std.specs.Prelude.{map}
use Rattle.std.specs.List.{list_all}
use Rattle.verify_code.specs.Guards.{guard_in}
use Rattle.verify_frames.specs.KnownStates.{type_state}
use Rattle.verify_code.specs.Handlers.{IsCatcher, keeps_more}
use Rattle.verify_code.proofs.environment.Environment.are_more_satisfied.Given as goal

abbrev pub invariant-loop-guard : goal.invariant-loop-guard
invariant-loop-guard g l =
    (list_all (keeps_more l.self l.twice l.pc (type_state l.s)) (map guard_in l.guards) ≡ list_all (keeps_more l.self l.twice l.pc (type_state l.s)) (map guard_in l.rest))
    × IsCatcher l.self (type_state l.s) l.last

abbrev pub decreases-loop-guard : goal.decreases-loop-guard
decreases-loop-guard g l = length l.rest
