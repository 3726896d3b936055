-- What a thread asks of other threads, and what becomes of it in its step.
use Rattle.std.specs.Prelude.{◌≡◌, ◌&&◌, ℕ, Bool, true, false, not, List, ◌∷◌}
use Rattle.vthread_state.specs.declared.phase.Phase.TheVariants.{Run}
use Rattle.state_model.specs.Frames.{Frame}
use Rattle.link_model.specs.World.{World}
use Rattle.continuation.specs.Continuation.{Continuation}
use Rattle.ref_model.specs.Looks.{is_create}
use Rattle.ref_model.specs.Requests.{request_of}
use Rattle.ref_model.specs.Starting.{may_create}
use Rattle.ref_model.specs.State.{State}
use Rattle.ref_model.specs.declared.request.ThreadRequest.{ThreadRequest}
use Rattle.thread_steps.specs.Asking.{IsAsking}
use Rattle.thread_steps.specs.declared.parts.Parts.{Parts}
use Rattle.thread_steps.specs.declared.progress.PendingRequest.{PendingRequest}
use Rattle.program_state.specs.declared.requests.RequestOutcome.{RequestOutcome}
use Rattle.program_state.specs.declared.requests.RequestOutcome.TheVariants as outcomes
use Rattle.program_state.specs.declared.state.ProgramState.{ProgramState}
use Rattle.program_state.specs.Creating.{has_room}
use Rattle.program_state.specs.States.{IsState}
use Rattle.program_state.specs.Steps.{PutsNobody, Starts, StepsTo, Wakes}

-- The next instruction of these frames asks this.
pub record IsPending (w : World) (q : PendingRequest) (memory : Parts) (frames : List Frame) : Type 0 where
  pub frame : Frame
  pub below : List Frame
  pub top : frames ≡ frame ∷ below
  pub asks : IsAsking w q memory frames frame below

-- whether a request makes a thread where there may be no more
abbrev pub lacks_room : ProgramState → ThreadRequest → Bool
lacks_room a request = is_create (request_of request) && not (has_room a)

-- A thread was to be made where there may be no more, and nothing has changed.
pub record LacksThreads (q : PendingRequest) (old : ProgramState) (m : Continuation) (new : ProgramState) (n : Continuation) : Type 0 where
  pub creates : is_create (request_of q.request) ≡ true
  pub full : (r : State) (out : ℕ → Bool) → IsState old r out → may_create r ≡ false
  pub state : new ≡ old
  pub mounted : n ≡ m

-- what became of a request of the mounted thread, which runs
abbrev pub IsRequestMade : World → PendingRequest → RequestOutcome → ProgramState → Continuation → ProgramState → Continuation → Type 0
IsRequestMade w q outcomes.Done old m new n = StepsTo w (PutsNobody m.thread) Run m.thread old m.stack.frames new n.stack.frames
IsRequestMade w q (outcomes.Starts u) old m new n = StepsTo w (Starts m.thread u) Run m.thread old m.stack.frames new n.stack.frames
IsRequestMade w q (outcomes.Wakes u) old m new n = StepsTo w (Wakes m.thread u) Run m.thread old m.stack.frames new n.stack.frames
IsRequestMade w q outcomes.LacksThreads old m new n = LacksThreads q old m new n
