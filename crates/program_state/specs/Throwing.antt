-- The step of a thread that throws.
use Rattle.std.specs.Prelude.{◌≡◌, ℕ}
use Rattle.vthread_state.specs.declared.phase.Phase.TheVariants.{Throwing}
use Rattle.link_model.specs.World.{World}
use Rattle.continuation.specs.Continuation.{Continuation}
use Rattle.schedule_soundness.specs.PutLaws.{OthersStay}
use Rattle.thread_steps.specs.States.{memory_of}
use Rattle.thread_steps.specs.Returning.{ThrowsFrom}
use Rattle.thread_steps.specs.declared.throwing.MonitorThrow.{MonitorThrow}
use Rattle.thread_steps.specs.declared.throwing.Thrown.{Thrown}
use Rattle.thread_steps.specs.declared.throwing.Thrown.TheVariants.{Stepped, Holds}
use Rattle.program_state.specs.declared.state.ProgramState.{ProgramState}
use Rattle.program_state.specs.Steps.{StepsTo}

-- The step leaves a frame with its monitor, and the state and the frames are as they were.
pub record HoldsMonitor (w : World) (q : MonitorThrow) (o : ℕ) (old : ProgramState) (m : Continuation) (new : ProgramState) (n : Continuation) : Type 0 where
  pub throws : ThrowsFrom w q o (memory_of old.memory) m.stack.frames
  pub state : new ≡ old
  pub frames : n.stack.frames ≡ m.stack.frames

-- What became of the step of the mounted thread, which throws an object: it was made, or the thread leaves a monitor first.
abbrev pub IsThrown : World → ℕ → Thrown → ProgramState → Continuation → ProgramState → Continuation → Type 0
IsThrown w o Stepped old m new n = StepsTo w (OthersStay m.thread) (Throwing o) m.thread old m.stack.frames new n.stack.frames
IsThrown w o (Holds q) old m new n = HoldsMonitor w q o old m new n
