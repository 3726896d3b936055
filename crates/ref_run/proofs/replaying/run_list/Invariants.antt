use Rattle.std.proofs.Common.{◌≡◌, Some, take}
use Rattle.history.specs.Java.{java}
use Rattle.frame_soundness.specs.TypedStates.{IsTypedState}
use Rattle.invocation.specs.InvocationCache.{AreSelected}
use Rattle.ref_model.specs.Opening.{opening}
use Rattle.ref_model.specs.Run.{run}
use Rattle.ref_model.specs.Setting.{Setting}
use Rattle.ref_run.specs.States.{state_of}
use Rattle.ref_run.proofs.replaying.run_list.Given as goal

abbrev pub invariant-loop-i : goal.invariant-loop-i
invariant-loop-i l = record {
  runs : (p : Setting) → p.world ≡ l.program → opening p ≡ Some (state_of l.fn.state) → run p (java (take l.i l.list)) ≡ Some (state_of l.state);
  typed : IsTypedState l.program (state_of l.state);
  selected : AreSelected l.program l.cache;
}
