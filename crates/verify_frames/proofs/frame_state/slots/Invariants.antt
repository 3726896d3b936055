use Rattle.std.proofs.Common.{◌≡◌, ◌++◌, length}
use Rattle.instruction_rows.specs.Contents.{slot_types}
use Rattle.verify_frames.proofs.frame_state.slots.Given as goal

abbrev pub invariant-loop-t : goal.invariant-loop-t
invariant-loop-t l = l.slots.items ++ slot_types l.rest ≡ slot_types l.types

abbrev pub decreases-loop-t : goal.decreases-loop-t
decreases-loop-t l = length l.rest
