use Rattle.std.proofs.Common.{◌-◌, ◌≡◌, ◌≤◌, Some}
use Rattle.ref_model.specs.LocalRows.{rows}
use Rattle.frame_soundness.specs.Typed.{Typed}
use Rattle.invocation.specs.InvocationCache.{AreSelected}
use Rattle.carrier_turns.proofs.local.run_local.Given as goal

abbrev pub invariant-loop-steps : goal.invariant-loop-steps
invariant-loop-steps l = record {
  few : l.steps ≤ 10001;
  rows : rows l.program l.steps l.fn.mounted.stack.frames ≡ Some l.mounted.stack.frames;
  typed : Typed l.program l.mounted.stack.frames;
  thread : l.mounted.thread ≡ l.fn.mounted.thread;
  selected : AreSelected l.program l.cache;
}

abbrev pub decreases-loop-steps : goal.decreases-loop-steps
decreases-loop-steps l = 10001 - l.steps
