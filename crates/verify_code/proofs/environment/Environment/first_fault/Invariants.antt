-- What is left of the instructions has the first fault of all, and is in order.
use Rattle.std.proofs.Common.{◌≡◌, ℕ, length}
use Rattle.link_model.specs.Resolutions.{meanings}
use Rattle.verify_types.specs.Environment.{with_resolutions}
use Rattle.verify_code.specs.Environments.{AreInOrder}
use Rattle.verify_frames.specs.KnownStates.{AllHold, going}
use Rattle.verify_code.specs.Satisfied.{AllTaken}
use Rattle.verify_code.specs.Walks.{entry_of, fault_from, walk_fault}
use Rattle.verify_code.proofs.environment.Environment.first_fault.Given as goal

abbrev pub invariant-loop-i : goal.invariant-loop-i
invariant-loop-i g l =
    (fault_from l.self (entry_of l.is_entry (going l.before)) (going l.before) (with_resolutions l.rest (meanings l.resolutions)) ≡ walk_fault l.self)
    × (pc : ℕ) × AreInOrder pc (with_resolutions l.rest (meanings l.resolutions)) × AllHold l.self l.before.known × AllTaken l.self l.stores

abbrev pub decreases-loop-i : goal.decreases-loop-i
decreases-loop-i g l = length l.rest
