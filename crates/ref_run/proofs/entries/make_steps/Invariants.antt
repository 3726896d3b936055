use Rattle.std.proofs.Common.{◌≡◌, ◌≤◌, ◌-◌, Some}
use Rattle.frame_soundness.specs.TypedStates.{IsTypedState}
use Rattle.invocation.specs.InvocationCache.{AreSelected}
use Rattle.ref_run.specs.States.{state_of}
use Rattle.ref_run.specs.Steps.{made_steps}
use Rattle.ref_run.proofs.entries.make_steps.Given as goal

abbrev pub invariant-loop-made : goal.invariant-loop-made
invariant-loop-made l = record {
  steps : made_steps l.program l.made (state_of l.fn.state) l.t ≡ Some (state_of l.state);
  few : l.made ≤ l.count;
  typed : IsTypedState l.program (state_of l.state);
  selected : AreSelected l.program l.cache;
}

abbrev pub decreases-loop-made : goal.decreases-loop-made
decreases-loop-made l = l.count - l.made
