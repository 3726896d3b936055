-- The steps of a thread, and what is known of the program that it runs.
use Rattle.std.specs.Prelude.{◌≡◌, ◌<◌, ◌≤◌, ℕ, zero, suc, Bool, true, false, List, ◌∷◌, Option, Some, None, Result, Ok, Err, if◌then◌else◌}
use Rattle.items.specs.Options.{◌>>=◌}
use Rattle.history.specs.declared.entry.What.{What}
use Rattle.history.specs.declared.entry.What.TheVariants.{Mount, Unmount, Step, Clock}
use Rattle.vthread_state.specs.declared.phase.Phase.{Phase}
use Rattle.vthread_state.specs.declared.phase.Phase.TheVariants.{Run}
use Rattle.vthread_state.specs.declared.thread.Status.{Status}
use Rattle.vthread_state.specs.declared.thread.Status.TheVariants.{New, Live, Done}
use Rattle.opcodes.specs.declared.op.ValueKind.{ValueKind}
use Rattle.link_model.specs.World.{World}
use Rattle.state_model.specs.Frames.{Frame}
use Rattle.frame_soundness.specs.Typed.{Typed}
use Rattle.frames.specs.Frames.{top_stack}
use Rattle.ref_model.specs.declared.exception.Exception.TheVariants as exceptions
use Rattle.ref_model.specs.Enabled.{enabled}
use Rattle.ref_model.specs.LocalRows.{row}
use Rattle.ref_model.specs.Monitors.{with_monitor}
use Rattle.ref_model.specs.Operands.{HasOperands}
use Rattle.ref_model.specs.Requests.{calls, request_of}
use Rattle.ref_model.specs.Resuming.{asking_in}
use Rattle.ref_model.specs.State.{State}
use Rattle.ref_model.specs.Step.{picking_step, row_or_event, thread_step}
use Rattle.ref_model.specs.Throwing.{exception_made, frame_with_monitor_left, thrown_below, throwing_step}
use Rattle.ref_model.specs.Waiting.{at_time}
use Rattle.invocation.specs.declared.synchronized_calls.SynchronizedCall.{SynchronizedCall}
use Rattle.invocation.specs.FrameSteps.{returned_kinds}
use Rattle.invocation.specs.Targets.{callee_frame}
use Rattle.thread_steps.specs.Asking.{IsReturning, asking_of}
use Rattle.thread_steps.specs.declared.progress.MonitorReturn.{MonitorReturn}
use Rattle.thread_steps.specs.declared.progress.PendingRequest.{PendingRequest}
use Rattle.thread_steps.specs.declared.progress.Progress.{Progress}
use Rattle.thread_steps.specs.declared.progress.Progress.TheVariants.{Stepped, Asks, Calls, Returns}
use Rattle.thread_steps.specs.declared.throwing.MonitorThrow.{MonitorThrow}
use Rattle.thread_steps.specs.declared.throwing.Thrown.{Thrown}
use Rattle.thread_steps.specs.declared.throwing.Thrown.TheVariants as thrown
use Rattle.ref_run.specs.declared.fault.Fault.{Fault}
use Rattle.ref_run.specs.declared.fault.Fault.TheVariants as faults
use Rattle.ref_run.specs.declared.state.RefState.{RefState}
use Rattle.ref_run.specs.GoingOn.{Comes, asking_call}
use Rattle.ref_run.specs.States.{frames_of, state_of}

-- ---- the program

-- the frames of thread t are at an instruction, and keep to the typing
abbrev pub HasTyped : World → State → ℕ → Type 0
HasTyped w r t = (frames : List Frame) → frames_of r t ≡ Some frames → Typed w frames

-- ---- the instruction at hand

-- The next instruction of these frames asks this, and is no local one.
pub record IsPending (w : World) (r : State) (q : PendingRequest) (frames : List Frame) : Type 0 where
  pub frame : Frame
  pub below : List Frame
  pub top : frames ≡ frame ∷ below
  pub asks : asking_in w r.memory frames ≡ Some (request_of q.request, asking_of q frame below)
  pub event : row w frames ≡ None

-- It calls this synchronized method, whose frame is to begin, and is no local one.
pub record IsCallPending (w : World) (r : State) (call : SynchronizedCall) (frames : List Frame) : Type 0 where
  pub frame : Frame
  pub below : List Frame
  pub top : frames ≡ frame ∷ below
  pub callee : Frame
  pub begins : callee_frame call.callee frame.stack ≡ Some callee
  pub next : ℕ
  pub asks : asking_in w r.memory frames ≡ Some (calls call.monitor (with_monitor callee call.monitor), asking_call call frame below next)
  pub event : row w frames ≡ None

-- It is this return, which leaves a monitor.
pub record IsReturnPending (w : World) (q : MonitorReturn) (frames : List Frame) : Type 0 where
  pub frame : Frame
  pub below : List Frame
  pub top : frames ≡ frame ∷ below
  pub returns : IsReturning w q frame below

-- the instruction of these frames of thread t leads to this state, and asks nothing
pub record HasStepped (w : World) (r : State) (t : ℕ) (frames : List Frame) (s : State) : Type 0 where
  pub step : row_or_event w r t frames (row w frames) ≡ Some s
  pub quiet : asking_in w r.memory frames ≡ None

-- The instruction at hand of thread t leads to this state; or it asks this, calls this method or is this return, and nothing has changed.
abbrev pub IsProgress : World → State → ℕ → Progress → State → Type 0
IsProgress w r t Stepped s = (frames : List Frame) → frames_of r t ≡ Some frames → HasStepped w r t frames s
IsProgress w r t (Asks q) s = ((frames : List Frame) → frames_of r t ≡ Some frames → IsPending w r q frames) × (s ≡ r)
IsProgress w r t (Calls call) s = ((frames : List Frame) → frames_of r t ≡ Some frames → IsCallPending w r call frames) × (s ≡ r)
IsProgress w r t (Returns q) s = ((frames : List Frame) → frames_of r t ≡ Some frames → IsReturnPending w q frames) × (s ≡ r)

-- what thread t gives back, where it is at such a return, lies on its operand stack
abbrev pub HasResult : Option ValueKind → State → ℕ → Type 0
HasResult kind r t = (frames : List Frame) → frames_of r t ≡ Some frames → HasOperands (returned_kinds kind) 0 (top_stack frames)

-- ---- an object that is thrown

-- Nothing in the top frame catches it, and that is left with its monitor.
pub record IsHeld (w : World) (r : State) (t o : ℕ) (q : MonitorThrow) (frames : List Frame) : Type 0 where
  pub frame : Frame
  pub below : List Frame
  pub top : frames ≡ frame ∷ below
  pub throws : throwing_step w r t o frames ≡ frame_with_monitor_left w r t q.class frame below q.monitor

-- The step of thread t that throws it leads to this state; or the thread leaves a monitor first, and nothing has changed.
abbrev pub IsThrown : World → State → ℕ → ℕ → Thrown → State → Type 0
IsThrown w r t o thrown.Stepped s = (frames : List Frame) → frames_of r t ≡ Some frames → throwing_step w r t o frames ≡ Some s
IsThrown w r t o (thrown.Holds q) s = ((frames : List Frame) → frames_of r t ≡ Some frames → IsHeld w r t o q frames) × (s ≡ r)

-- IllegalMonitorStateException takes the place of what thread t throws, and leaves the top frame.
abbrev pub left_unowned : World → State → ℕ → Frame → List Frame → Option State
left_unowned w r t f below = exception_made w r.memory exceptions.IllegalMonitorStateException >>= thrown_below w r t f below

-- ---- acts

-- What an act on the frames of thread t makes of the state.
abbrev pub Acts : (List Frame → Option State) → State → ℕ → Result (Unit {0}) Fault → RefState → Type 0
Acts act r t result a = (frames : List Frame) → frames_of r t ≡ Some frames → Comes (act frames) result a

-- ---- steps

-- a step of a thread, as the definitions have it for every setting with this world
abbrev pub stepped : World → State → ℕ → Option ℕ → Option State
stepped w r t (Some pick) = if enabled r t then picking_step w r t pick else None
stepped w r t None = if enabled r t then thread_step w r t else None

-- whether a thread runs
abbrev pub is_run_phase : Phase → Bool
is_run_phase Run = true
is_run_phase phase = false

abbrev pub is_running_status : Status → Bool
is_running_status New = false
is_running_status (Live phase) = is_run_phase phase
is_running_status Done = false

-- so many steps, each of which picks none
abbrev pub made_steps : World → ℕ → State → ℕ → Option State
made_steps w zero r t = Some r
made_steps w (suc n) r t = made_steps w n r t >>= λ q. stepped w q t None

-- the same, of which the last may pick a thread
abbrev pub made_entry : World → State → ℕ → ℕ → Option ℕ → Option State
made_entry w r t zero pick = None
made_entry w r t (suc n) pick = made_steps w n r t >>= λ q. stepped w q t pick

-- what an entry makes of the state: a mount and an unmount make nothing
abbrev pub entry_after : World → State → What → Option State
entry_after w r (Mount t) = Some r
entry_after w r (Unmount t) = Some r
entry_after w r (Step t n pick) = made_entry w r t n pick
entry_after w r (Clock now) = at_time r now

-- at least one step, and at most so many; or the first one isn't defined
abbrev pub IsAdvance : World → State → ℕ → ℕ → Result ℕ Fault → RefState → Type 0
IsAdvance w r t most (Ok n) a = (0 < n) × (n ≤ most) × (made_steps w n r t ≡ Some (state_of a))
IsAdvance w r t most (Err faults.NoStep) a = stepped w r t None ≡ None
IsAdvance w r t most (Err faults.NoMemory) a = Unit {0}
