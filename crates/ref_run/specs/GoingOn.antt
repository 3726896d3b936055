-- A thread that goes on at its next instruction, or in a method that it calls, and a step that may be undefined.
use Rattle.std.specs.Prelude.{◌≡◌, ◌≤◌, ℕ, List, ◌∷◌, Option, Some, None, Result, Ok, Err, drop, length}
use Rattle.instruction_rows.specs.SlotEffect.{pushed}
use Rattle.instruction_rows.specs.declared.value.Slot.{Slot}
use Rattle.instruction_rows.specs.declared.value.Value.{Value}
use Rattle.state_model.specs.Frames.{Frame}
use Rattle.invocation.specs.declared.synchronized_calls.SynchronizedCall.{SynchronizedCall}
use Rattle.invocation.specs.Targets.{callee_frame}
use Rattle.frames.specs.Frames.{at_pc, top_room, top_stack, with_stack}
use Rattle.ref_model.specs.Asking.{Asking}
use Rattle.ref_model.specs.Monitors.{with_monitor}
use Rattle.ref_model.specs.State.{State}
use Rattle.thread_steps.specs.Asking.{asking_of}
use Rattle.thread_steps.specs.declared.progress.PendingRequest.{PendingRequest}
use Rattle.ref_run.specs.declared.fault.Fault.{Fault}
use Rattle.ref_run.specs.declared.fault.Fault.TheVariants as faults
use Rattle.ref_run.specs.declared.state.RefState.{RefState}
use Rattle.ref_run.specs.States.{frames_of, state_of}

-- ---- frames

-- the top frame goes on with the next instruction, with this operand stack, for which it has room
pub record GoesOn (next : ℕ) (stack : List Slot) (before after : List Frame) : Type 0 where
  pub room : length stack ≤ top_room before
  pub frames : after ≡ at_pc next (with_stack stack before)

-- The top frame goes on without the operands of the request.
abbrev pub GoesOnWithout : PendingRequest → List Frame → List Frame → Type 0
GoesOnWithout q before after = GoesOn q.next (drop q.operands (top_stack before)) before after

-- It goes on with a value in their place.
abbrev pub GoesOnWith : PendingRequest → Value → List Frame → List Frame → Type 0
GoesOnWith q v before after = GoesOn q.next (pushed v (drop q.operands (top_stack before))) before after

-- A synchronized method began: its frame, which holds the monitor, lies over the caller's, which has the operands that are left.
abbrev pub HasBegun : SynchronizedCall → List Frame → List Frame → Type 0
HasBegun call before after = (g : Frame) → callee_frame call.callee (top_stack before) ≡ Some g →
    after ≡ with_monitor g call.monitor ∷ with_stack (drop call.callee.slots (top_stack before)) before

-- ---- states

-- With what thread t, whose instruction asks this, goes on, the definitions lead from one state to the other.
abbrev pub LeadsTo : (State → Asking → Option State) → ℕ → PendingRequest → State → State → Type 0
LeadsTo act t q r s = (f : Frame) (below : List Frame) → frames_of r t ≡ Some (f ∷ below) → act r (asking_of q f below) ≡ Some s

-- how a thread goes on that calls this in a frame, whose next instruction is at a pc
abbrev pub asking_call : SynchronizedCall → Frame → List Frame → ℕ → Asking
asking_call call f below next = record { frame = f; below = below; next = next; stack = drop call.callee.slots f.stack }

-- With what thread t, whose instruction calls this, goes on, and the frame that is to begin, the definitions lead from one state to the other.
abbrev pub CallsTo : (State → Asking → Frame → Option State) → ℕ → SynchronizedCall → State → State → Type 0
CallsTo act t call r s = (f g : Frame) (below : List Frame) (next : ℕ) → frames_of r t ≡ Some (f ∷ below) → callee_frame call.callee f.stack ≡ Some g →
    act r (asking_call call f below next) (with_monitor g call.monitor) ≡ Some s

-- With the top frame of thread t, which is left, and those below it the definitions lead from one state to the other.
abbrev pub LeavesTo : (State → Frame → List Frame → Option State) → ℕ → State → State → Type 0
LeavesTo act t r s = (f : Frame) (below : List Frame) → frames_of r t ≡ Some (f ∷ below) → act r f below ≡ Some s

-- What the definitions have here leads to this state; or they have nothing.
abbrev pub Comes : Option State → Result (Unit {0}) Fault → RefState → Type 0
Comes made (Ok x) a = made ≡ Some (state_of a)
Comes made (Err faults.NoStep) a = made ≡ None
Comes made (Err faults.NoMemory) a = Unit {0}

-- So it is of what the definitions make of thread t, whose instruction asks this.
abbrev pub Makes : (State → Asking → Option State) → ℕ → PendingRequest → State → Result (Unit {0}) Fault → RefState → Type 0
Makes act t q r result a = (f : Frame) (below : List Frame) → frames_of r t ≡ Some (f ∷ below) → Comes (act r (asking_of q f below)) result a
