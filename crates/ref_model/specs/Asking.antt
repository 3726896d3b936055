-- An instruction that asks something, and how its thread goes on.
use Rattle.std.specs.Prelude.{ℕ, Bool, false, List, ◌∷◌, Option, Some}
use Rattle.items.specs.Options.{◌>>=◌}
use Rattle.instruction_rows.specs.declared.value.Value.{Value}
use Rattle.instruction_rows.specs.declared.value.Slot.{Slot}
use Rattle.instruction_rows.specs.SlotEffect.{pushed}
use Rattle.vthread_state.specs.declared.phase.Phase.{Phase}
use Rattle.vthread_state.specs.declared.phase.Phase.TheVariants.{Run}
use Rattle.vthread_state.specs.declared.thread.Status.TheVariants.{Live}
use Rattle.link_model.specs.World.{World}
use Rattle.state_model.specs.Frames.{Frame}
use Rattle.ref_model.specs.declared.exception.Exception.TheVariants as exceptions
use Rattle.ref_model.specs.State.{State, with_frames, with_status, with_interrupt}
use Rattle.ref_model.specs.Frames.{behind}
use Rattle.ref_model.specs.ObjectNatives.{boolean}
use Rattle.ref_model.specs.Throwing.{raised}

-- The frame that is at the instruction, and those below it; the pc of the next instruction, and the operand stack with which the frame goes
-- on, but for what comes back.
pub record Asking : Type 0 where
  pub frame : Frame
  pub below : List Frame
  pub next : ℕ
  pub stack : List Slot

-- ---- how the thread goes on

-- with the next instruction
abbrev pub goes : State → ℕ → Asking → Option State
goes r t a = behind a.frame a.next a.stack >>= λ g. Some (with_frames r t (g ∷ a.below))

-- the same with a value on the operand stack
abbrev pub gives_back : State → ℕ → Asking → Value → Option State
gives_back r t a v = behind a.frame a.next (pushed v a.stack) >>= λ g. Some (with_frames r t (g ∷ a.below))

abbrev pub tells : State → ℕ → Asking → Bool → Option State
tells r t a b = gives_back r t a (boolean b)

-- in the frame of a method that it calls; its own frame stays at the call
abbrev pub goes_into : State → ℕ → Asking → Frame → Option State
goes_into r t a g = Some (with_frames r t (g ∷ record a.frame { stack = a.stack } ∷ a.below))

-- not yet: it waits in this phase, at the instruction, and its frames stay as they are
abbrev pub waits : State → ℕ → Phase → Option State
waits r t phase = Some (with_status r t (Live phase))

-- its wait is over
abbrev pub with_run : State → ℕ → State
with_run r t = with_status r t (Live Run)

-- its interrupt status is cleared, and it throws InterruptedException
abbrev pub thrown_interrupted : World → State → ℕ → Option State
thrown_interrupted w r t = raised w (with_interrupt r t false) t exceptions.InterruptedException
