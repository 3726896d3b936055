-- Instructions that ask something of the threads: nothing has changed then.
use Rattle.std.specs.Prelude.{◌≡◌, ◌≤◌, ℕ, suc, List, ◌∷◌, Option, Some, None, drop, length}
use Rattle.opcodes.specs.declared.op.ValueKind.{ValueKind}
use Rattle.instruction_rows.specs.declared.value.Slot.{Slot}
use Rattle.link_model.specs.World.{World}
use Rattle.verify_types.specs.Environment.{Instruction}
use Rattle.state_model.specs.Frames.{Frame}
use Rattle.continuation.specs.Continuation.{Continuation}
use Rattle.ref_model.specs.Asking as model
use Rattle.ref_model.specs.Effects.{Effect, asks}
use Rattle.ref_model.specs.Fetch.{fetched}
use Rattle.ref_model.specs.LocalRows.{row}
use Rattle.ref_model.specs.Monitors.{with_monitor}
use Rattle.ref_model.specs.Operands.{HasOperands}
use Rattle.ref_model.specs.Memory.{Memory}
use Rattle.ref_model.specs.Requests.{calls, request_of}
use Rattle.ref_model.specs.Resuming.{asking_in}
use Rattle.ref_model.specs.State.{State}
use Rattle.ref_model.specs.Step.{monitor_returned, row_or_event}
use Rattle.invocation.specs.declared.synchronized_calls.SynchronizedCall.{SynchronizedCall}
use Rattle.invocation.specs.declared.target.Callee.{Callee}
use Rattle.invocation.specs.FrameSteps.{HoldsMonitor, returned_kinds}
use Rattle.invocation.specs.SynchronizedCalls.{AsksForMonitor}
use Rattle.invocation.specs.Targets.{begins_synchronized, callee_frame}
use Rattle.heap_instructions.specs.declared.outcome.Outcome.{Outcome}
use Rattle.heap_instructions.specs.declared.outcome.Outcome.TheVariants as outcomes
use Rattle.thread_steps.specs.declared.parts.Parts.{Parts}
use Rattle.thread_steps.specs.declared.progress.MonitorReturn.{MonitorReturn}
use Rattle.thread_steps.specs.declared.progress.PendingRequest.{PendingRequest}
use Rattle.thread_steps.specs.declared.progress.Progress.{Progress}
use Rattle.thread_steps.specs.declared.progress.Progress.TheVariants.{Stepped, Asks, Calls, Returns}
use Rattle.thread_steps.specs.States.{memory_of}
use Rattle.thread_steps.specs.Concluding.{Concludes, EffectSteps, Steps}
use Rattle.thread_steps.specs.Returning.{ReturnSteps}

-- ---- what an instruction asks

-- how the thread goes on that asked this in a frame, but for what comes back
abbrev pub asking_of : PendingRequest → Frame → List Frame → model.Asking
asking_of q f below = record { frame = f; below = below; next = q.next; stack = drop q.operands f.stack }

-- The instruction of these frames, of which the first is the one on top, asks this, and is no local one.
pub record IsAsking (w : World) (q : PendingRequest) (a : Parts) (frames : List Frame) (f : Frame) (below : List Frame) : Type 0 where
  pub asking : asking_in w (memory_of a) frames ≡ Some (request_of q.request, asking_of q f below)
  pub takes : q.operands ≤ length f.stack
  pub event : row w frames ≡ None

-- The instruction at the top frame's pc, where it is this one, asks this.
abbrev pub AsksAt : World → Instruction → PendingRequest → Parts → List Frame → Type 0
AsksAt w i q a frames = (f : Frame) (below : List Frame) → frames ≡ f ∷ below → fetched w f ≡ Some i → IsAsking w q a frames f below

-- ---- a call of a synchronized method

-- It asks for its monitor, with the frame that is to begin, for which there is room.
pub record IsCalling (w : World) (call : SynchronizedCall) (a : Parts) (frames : List Frame) (f : Frame) (below : List Frame) : Type 0 where
  pub callee : Frame
  pub begins : callee_frame call.callee f.stack ≡ Some callee
  pub next : ℕ
  pub asking : asking_in w (memory_of a) frames ≡ Some (
    calls call.monitor (with_monitor callee call.monitor),
    record { frame = f; below = below; next = next; stack = drop call.callee.slots f.stack },
  )
  pub takes : call.callee.slots ≤ length f.stack
  pub event : row w frames ≡ None

-- The instruction at the top frame's pc, where it is this one, is this call.
abbrev pub CallsAt : World → Instruction → SynchronizedCall → Parts → List Frame → Type 0
CallsAt w i call a frames = (f : Frame) (below : List Frame) → frames ≡ f ∷ below → fetched w f ≡ Some i → IsCalling w call a frames f below

-- ---- a return that leaves a monitor

-- In every state it is such a return, and it asks nothing. What it gives back lies on the operand stack.
pub record IsReturning (w : World) (q : MonitorReturn) (f : Frame) (below : List Frame) : Type 0 where
  pub step : (r : State) (t : ℕ) →
      row_or_event w r t (f ∷ below) (row w (f ∷ below)) ≡ monitor_returned w r t q.kind f below q.monitor
  pub quiet : (memory : Memory) → asking_in w memory (f ∷ below) ≡ None
  pub operands : HasOperands (returned_kinds q.kind) 0 f.stack

abbrev pub ReturnsAt : World → Instruction → MonitorReturn → List Frame → Type 0
ReturnsAt w i q frames = (f : Frame) (below : List Frame) → frames ≡ f ∷ below → fetched w f ≡ Some i → IsReturning w q f below

-- ---- what becomes of an instruction

-- it leads from these parts and frames to those; or it asks something, or leaves a monitor, and parts and frames stay
abbrev pub IsProgress : World → Instruction → Progress → Parts → List Frame → Parts → List Frame → Type 0
IsProgress w i Stepped a frames b after = Steps w i a frames b after
IsProgress w i (Asks q) a frames b after = AsksAt w i q a frames × (b ≡ a) × (after ≡ frames)
IsProgress w i (Calls call) a frames b after = CallsAt w i call a frames × (b ≡ a) × (after ≡ frames)
IsProgress w i (Returns q) a frames b after = ReturnsAt w i q frames × (b ≡ a) × (after ≡ frames)

-- the whole continuation stays, unless the instruction made its step
abbrev pub StaysIfAsked : Progress → Continuation → Continuation → Type 0
StaysIfAsked Stepped old new = Unit {0}
StaysIfAsked (Asks q) old new = new ≡ old
StaysIfAsked (Calls call) old new = new ≡ old
StaysIfAsked (Returns q) old new = new ≡ old

-- ---- parts of it

-- the effect of an instruction in a frame asks this
pub record AsksSo (q : PendingRequest) (f : Frame) (effect : Option Effect) : Type 0 where
  pub is : effect ≡ Some (asks (request_of q.request) (drop q.operands f.stack))
  pub takes : q.operands ≤ length f.stack

-- What is done by the top frame, as a function of the memory, of the number of frames and of its operand stack, asks this.
abbrev pub EffectAsks : (Memory → ℕ → List Slot → Option Effect) → PendingRequest → Parts → List Frame → Type 0
EffectAsks act q a frames = (f : Frame) (below : List Frame) → frames ≡ f ∷ below → AsksSo q f (act (memory_of a) (suc (length below)) f.stack)

-- it leads from these parts and frames to those, or asks something
abbrev pub EffectProceeds : World → ℕ → (Memory → ℕ → List Slot → Option Effect) → Progress → Parts → List Frame → Parts → List Frame → Type 0
EffectProceeds w next act Stepped a frames b after = EffectSteps w next act a frames b after
EffectProceeds w next act (Asks q) a frames b after = EffectAsks act q a frames × (q.next ≡ next) × (b ≡ a) × (after ≡ frames)
EffectProceeds w next act (Calls call) a frames b after = ⊥
EffectProceeds w next act (Returns q) a frames b after = ⊥

-- an outcome asks this, in a frame whose next instruction is at a pc
pub record IsPending (next : ℕ) (outcome : Outcome) (q : PendingRequest) : Type 0 where
  pub asks : outcome ≡ outcomes.Asks q.request q.operands
  pub goes_on : q.next ≡ next

-- what an outcome makes of a thread whose next instruction is at a pc
abbrev pub Proceeds : World → ℕ → Outcome → Progress → Parts → Continuation → Parts → Continuation → Type 0
Proceeds w next outcome Stepped a m b n = Concludes w next outcome a m.stack.frames b n.stack.frames
Proceeds w next outcome (Asks q) a m b n = IsPending next outcome q × (b ≡ a) × (n ≡ m)
Proceeds w next outcome (Calls call) a m b n = ⊥
Proceeds w next outcome (Returns q) a m b n = ⊥

-- an invocation of a synchronized method makes a step, where it throws, or asks for its monitor in a frame
abbrev pub CallProceeds : World → Callee → Progress → Continuation → Parts → Parts → Type 0
CallProceeds w c Stepped m a b =
    (next : ℕ) → EffectSteps w next (λ r depth stack. begins_synchronized w depth c stack) a m.stack.frames b m.stack.frames
CallProceeds w c (Calls call) m a b = AsksForMonitor w c m call × (b ≡ a)
CallProceeds w c progress m a b = ⊥

-- a return makes its step, or leaves a monitor
abbrev pub ReturnProceeds : World → Option ValueKind → Progress → Parts → List Frame → Parts → List Frame → Type 0
ReturnProceeds w kind Stepped a frames b after = ReturnSteps w kind a frames b after
ReturnProceeds w kind (Returns q) a frames b after = (q.kind ≡ kind) × HoldsMonitor w frames q.monitor × (b ≡ a) × (after ≡ frames)
ReturnProceeds w kind progress a frames b after = ⊥
