-- What is answered to requests.
use Rattle.std.specs.Prelude.{◌≡◌, ◌≤◌, ℕ, Bool, true, List, ◌∷◌, Option, Some, drop, length, map, slice_get}
use Rattle.instruction_rows.specs.SlotEffect.{pushed}
use Rattle.instruction_rows.specs.declared.value.Slot.{Slot}
use Rattle.instruction_rows.specs.declared.value.Value.{Value}
use Rattle.vthread_state.specs.declared.phase.Phase.TheVariants.{Run}
use Rattle.vthread_state.specs.Threads.{Threads}
use Rattle.state_model.specs.Frames.{Frame}
use Rattle.link_model.specs.World.{World}
use Rattle.frames.specs.Frames.{at_pc, top_room, top_stack, with_stack}
use Rattle.ref_model.specs.Asking.{Asking, goes, gives_back, waits}
use Rattle.ref_model.specs.Requesting.{asked}
use Rattle.ref_model.specs.Requests.{request_of}
use Rattle.ref_model.specs.declared.request.ThreadRequest.{ThreadRequest}
use Rattle.ref_model.specs.State.{JavaThread, State}
use Rattle.ref_model.specs.Throwing.{raised}
use Rattle.schedule_soundness.specs.PutLaws.{OthersStay}
use Rattle.thread_steps.specs.Asking.{asking_of}
use Rattle.thread_steps.specs.declared.progress.PendingRequest.{PendingRequest}
use Rattle.program_state.specs.declared.reply.Reply.{Reply}
use Rattle.program_state.specs.declared.reply.Reply.TheVariants as replies
use Rattle.program_state.specs.declared.state.ProgramState.{ProgramState}
use Rattle.program_state.specs.States.{IsInPhase, IsState}
use Rattle.program_state.specs.Steps.{Leads}

-- ---- a reply

-- what it makes of the thread that asked
abbrev pub replied : World → State → ℕ → Asking → Reply → Option State
replied w r t a replies.Goes = goes r t a
replied w r t a (replies.Gives v) = gives_back r t a v
replied w r t a (replies.Throws e) = raised w r t e
replied w r t a (replies.Waits phase) = waits r t phase

-- A reply was concluded, of what these frames asked.
abbrev pub Concludes : World → PendingRequest → ℕ → Reply → ProgramState → List Frame → ProgramState → List Frame → Type 0
Concludes w q t reply old before new after = (r : State) (out : ℕ → Bool) (f : Frame) (below : List Frame) → IsState old r out →
    out t ≡ true → IsInPhase r t Run before → before ≡ f ∷ below →
    Leads (λ s. replied w s t (asking_of q f below) reply) (OthersStay t) new t after r out

-- the top frame goes on with the next instruction, with this operand stack, for which it has room
pub record GoesOn (next : ℕ) (stack : List Slot) (before after : List Frame) : Type 0 where
  pub room : length stack ≤ top_room before
  pub frames : after ≡ at_pc next (with_stack stack before)

-- The top frame goes on without the operands of the request.
abbrev pub GoesOnWithout : PendingRequest → List Frame → List Frame → Type 0
GoesOnWithout q before after = GoesOn q.next (drop q.operands (top_stack before)) before after

-- It goes on with a value in their place.
abbrev pub GoesOnWith : PendingRequest → Value → List Frame → List Frame → Type 0
GoesOnWith q v before after = GoesOn q.next (pushed v (drop q.operands (top_stack before))) before after

-- ---- the answer to a request

-- What a request of thread t comes to in a state: the reply, given in a state whose parts are these.
pub record HasReply (w : World) (request : ThreadRequest) (leaves : State → State → Type 0) (t : ℕ) (frames : List Frame) (r : State) (out : ℕ → Bool) (new : ProgramState) (reply : Reply) : Type 0 where
  pub state : State
  pub same : (a : Asking) → asked w r t a (request_of request) ≡ replied w state t a reply
  pub is : IsState new state out
  pub runs : IsInPhase state t Run frames
  pub others : leaves r state

-- So it is in each state whose parts were the old ones, in which the thread runs.
abbrev pub Answers : World → ThreadRequest → (State → State → Type 0) → ℕ → ProgramState → ProgramState → Reply → Type 0
Answers w request leaves t old new reply = (r : State) (out : ℕ → Bool) (frames : List Frame) → IsState old r out →
    IsInPhase r t Run frames → HasReply w request leaves t frames r out new reply

-- A request is answered by the table alone, and nothing has changed.
abbrev pub IsTold : World → ThreadRequest → ℕ → Threads → Reply → Type 0
IsTold w request t table reply = (r : State) (x : JavaThread) (a : Asking) → table.threads ≡ map (λ y. y.thread) r.threads →
    slice_get r.threads t ≡ Some x → asked w r t a (request_of request) ≡ replied w r t a reply
