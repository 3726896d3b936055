-- Returns and exceptions on their way, as steps of a thread.
use Rattle.std.specs.Prelude.{◌≡◌, ℕ, zero, suc, List, ◌∷◌, Option, Some, None}
use Rattle.items.specs.Options.{◌>>=◌}
use Rattle.opcodes.specs.declared.op.ValueKind.{ValueKind}
use Rattle.instruction_rows.specs.Rows.{Row, returns}
use Rattle.instruction_rows.specs.Table.{row as row_of}
use Rattle.vthread_state.specs.declared.thread.Status.{Status}
use Rattle.vthread_state.specs.declared.thread.Status.TheVariants.{Done}
use Rattle.link_model.specs.World.{World}
use Rattle.verify_types.specs.Environment.{Instruction}
use Rattle.state_model.specs.Frames.{Frame}
use Rattle.ref_model.specs.Fetch.{fetched}
use Rattle.ref_model.specs.declared.exception.Exception.TheVariants as exceptions
use Rattle.ref_model.specs.Memory.{Memory}
use Rattle.ref_model.specs.State.{State}
use Rattle.ref_model.specs.Throwing.{exception_made, frame_dropped, frame_with_monitor_left, thrown_below, throwing_step, uncaught}
use Rattle.ref_model.specs.Step.{frame_returned, root_left}
use Rattle.thread_steps.specs.declared.parts.Parts.{Parts}
use Rattle.thread_steps.specs.declared.throwing.MonitorThrow.{MonitorThrow}
use Rattle.thread_steps.specs.declared.throwing.Thrown.{Thrown}
use Rattle.thread_steps.specs.declared.throwing.Thrown.TheVariants.{Stepped, Holds}
use Rattle.thread_steps.specs.States.{Stage, memory_of, state_of, IsRunStep}

-- the kind of what a return gives back, where the row is that of a return
abbrev pub returned_kind : Row → Option (Option ValueKind)
returned_kind (returns kind) = Some kind
returned_kind r = None

-- the status of a thread that has this number of frames left
abbrev pub status_left : ℕ → Status → Status
status_left zero status = Done
status_left (suc n) status = status

-- a root frame was left
abbrev pub LeavesRoot : Parts → List Frame → Parts → List Frame → Type 0
LeavesRoot a frames b after = (stage : Stage) (f : Frame) (below : List Frame) → frames ≡ f ∷ below →
    root_left (state_of stage a (f ∷ below)) stage.number below ≡ state_of stage b after

-- The top frame, where it is at such a return, was left.
abbrev pub ReturnSteps : World → Option ValueKind → Parts → List Frame → Parts → List Frame → Type 0
ReturnSteps w kind a frames b after = (stage : Stage) (f : Frame) (below : List Frame) (i : Instruction) → frames ≡ f ∷ below →
    fetched w f ≡ Some i → row_of i.instr.op ≡ returns kind →
    IsRunStep w stage.number (state_of stage a frames) frames (state_of stage b after)

-- The stage has the thread of this number, whose name is this String.
pub record IsThread (stage : Stage) (t name : ℕ) : Type 0 where
  pub number : stage.number ≡ t
  pub named : stage.thread.thread.name ≡ name

-- what the phase Throwing of an object makes of such a thread
abbrev pub ThrowingSteps : World → ℕ → ℕ → ℕ → Parts → List Frame → Parts → List Frame → Type 0
ThrowingSteps w t name o a frames b after = (stage : Stage) → IsThread stage t name →
    throwing_step w (state_of stage a frames) stage.number o frames ≡ Some (state_of stage b after)

-- an object of a class was thrown, and nothing in such a thread caught it
abbrev pub EndsUncaught : World → ℕ → ℕ → ℕ → Parts → Parts → List Frame → Type 0
EndsUncaught w t name class a b after = (stage : Stage) (frames : List Frame) → IsThread stage t name →
    uncaught w (state_of stage a frames) stage.number class ≡ Some (state_of stage b after)

-- ---- where the thread has left the monitor that the top frame holds, or doesn't own it

-- The top frame was left by a return.
abbrev pub UnlockedReturns : World → Option ValueKind → Parts → List Frame → Parts → List Frame → Type 0
UnlockedReturns w kind a frames b after = (stage : Stage) (f : Frame) (below : List Frame) → frames ≡ f ∷ below →
    frame_returned w (state_of stage a frames) stage.number kind f below ≡ Some (state_of stage b after)

-- What the thread throws, an object of this class, left the top frame.
abbrev pub UnlockedDrops : World → ℕ → ℕ → ℕ → Parts → List Frame → Parts → List Frame → Type 0
UnlockedDrops w t name class a frames b after = (stage : Stage) (f : Frame) (below : List Frame) → IsThread stage t name → frames ≡ f ∷ below →
    frame_dropped w (state_of stage a frames) stage.number class f below ≡ Some (state_of stage b after)

-- IllegalMonitorStateException left it, in place of what the thread threw.
abbrev pub UnownedThrows : World → ℕ → ℕ → Parts → List Frame → Parts → List Frame → Type 0
UnownedThrows w t name a frames b after = (stage : Stage) (f : Frame) (below : List Frame) → IsThread stage t name → frames ≡ f ∷ below →
    (exception_made w (memory_of a) exceptions.IllegalMonitorStateException >>= thrown_below w (state_of stage a frames) stage.number f below)
    ≡ Some (state_of stage b after)

-- In every state with this memory the step of a thread that throws an object leaves the frame with its monitor: nothing catches the object,
-- which is of this class.
abbrev pub ThrowsFrom : World → MonitorThrow → ℕ → Memory → List Frame → Type 0
ThrowsFrom w q o memory frames = (r : State) (t : ℕ) (f : Frame) (below : List Frame) → r.memory ≡ memory → frames ≡ f ∷ below →
    throwing_step w r t o frames ≡ frame_with_monitor_left w r t q.class f below q.monitor

-- the step was made, or the thread leaves a monitor first, and parts and frames stay
abbrev pub ThrowProceeds : World → ℕ → ℕ → ℕ → Thrown → Parts → List Frame → Parts → List Frame → Type 0
ThrowProceeds w t name o Stepped a frames b after = ThrowingSteps w t name o a frames b after
ThrowProceeds w t name o (Holds q) a frames b after = ThrowsFrom w q o (memory_of a) frames × (b ≡ a) × (after ≡ frames)
