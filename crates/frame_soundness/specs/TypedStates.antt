-- What it means that a state keeps to the typing of its program: its values have the kinds of their fields and elements, and the frames of
-- each thread are such as its status asks for.
use Rattle.std.specs.Prelude.{◌≡◌, ℕ, List, Some, slice_get}
use Rattle.vthread_state.specs.declared.phase.Phase.{Phase}
use Rattle.vthread_state.specs.declared.phase.Phase.TheVariants.{Throwing}
use Rattle.vthread_state.specs.declared.thread.Status.{Status}
use Rattle.vthread_state.specs.declared.thread.Status.TheVariants.{New, Live, Done}
use Rattle.link_model.specs.World.{World}
use Rattle.state_model.specs.Frames.{Frame}
use Rattle.ref_model.specs.State.{JavaThread, State}
use Rattle.frame_soundness.specs.Typed.{Typed, Thrown}
use Rattle.frame_soundness.specs.StateKinds.{MemoryFits}

-- ---- one thread

-- the frames of a live thread: one that waits is at its instruction, as one that runs
abbrev pub AreOfPhase : World → List Frame → Phase → Type 0
AreOfPhase w frames (Throwing o) = Thrown w frames
AreOfPhase w frames phase = Typed w frames

abbrev pub AreOfStatus : World → List Frame → Status → Type 0
AreOfStatus w frames New = Unit {0}
AreOfStatus w frames (Live phase) = AreOfPhase w frames phase
AreOfStatus w frames Done = Unit {0}

abbrev pub IsTypedThread : World → JavaThread → Type 0
IsTypedThread w x = AreOfStatus w x.frames x.thread.status

-- ---- all threads, and the values

pub record IsTypedState (w : World) (r : State) : Type 0 where
  pub values : MemoryFits w r.memory
  pub threads : (t : ℕ) (x : JavaThread) → slice_get r.threads t ≡ Some x → IsTypedThread w x
