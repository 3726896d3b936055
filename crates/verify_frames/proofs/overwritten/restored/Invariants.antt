use Rattle.std.proofs.Common.{length}
use Rattle.verify_instructions.specs.Views.{state_in}
use Rattle.verify_frames.proofs.OverwriteLaws.{Restoring}
use Rattle.verify_frames.proofs.overwritten.restored.Given as goal

abbrev pub invariant-loop-o : goal.invariant-loop-o
invariant-loop-o l = Restoring l.overwritten l.rest (state_in l.initial.state) (state_in l.state)

abbrev pub decreases-loop-o : goal.decreases-loop-o
decreases-loop-o l = length l.rest
