-- What is answered to a thread that asks something of a monitor (JLS 17.1, 17.2).
use Rattle.std.specs.Prelude.{◌≡◌, ℕ, Bool, true, List, Option, Some, slice_get}
use Rattle.vthread_state.specs.declared.phase.Phase.TheVariants.{Run}
use Rattle.link_model.specs.World.{World}
use Rattle.state_model.specs.Frames.{Frame}
use Rattle.monitors.specs.Monitors.{Monitors, monitor_of}
use Rattle.ref_model.specs.Asking.{Asking, goes}
use Rattle.ref_model.specs.Requesting.{asked, asked_with}
use Rattle.ref_model.specs.Requests.{Request}
use Rattle.ref_model.specs.State.{State}
use Rattle.ref_model.specs.Throwing.{raised}
use Rattle.ref_model.specs.declared.exception.Exception.{Exception}
use Rattle.schedule_soundness.specs.PutLaws.{OthersStay}
use Rattle.thread_steps.specs.declared.progress.PendingRequest.{PendingRequest}
use Rattle.program_state.specs.declared.state.ProgramState.{ProgramState}
use Rattle.program_state.specs.Monitors.{ListsMove}
use Rattle.program_state.specs.States.{HasFrames, IsInPhase, IsState}
use Rattle.program_state.specs.Replies.{GoesOnWithout}
use Rattle.program_state.specs.Replying.{IsRaised}
use Rattle.program_state.specs.Steps.{PutsNobody}
use Rattle.monitor_steps.specs.declared.outcome.MonitorOutcome.{MonitorOutcome}
use Rattle.monitor_steps.specs.declared.outcome.MonitorOutcome.TheVariants as outcomes
use Rattle.monitor_steps.specs.declared.reply.MonitorReply.{MonitorReply}
use Rattle.monitor_steps.specs.declared.reply.MonitorReply.TheVariants as replies
use Rattle.monitor_steps.specs.Outcomes.{Frees}

-- what an outcome of a request on monitor o leaves of others
abbrev pub LeavesOthers : ℕ → ℕ → MonitorOutcome → State → State → Type 0
LeavesOthers t o outcomes.Done = PutsNobody t
LeavesOthers t o (outcomes.Frees first) = Frees t o
LeavesOthers t o (outcomes.Notifies u) = PutsNobody t

-- who is the first in line for the monitor afterwards, or was the first that waited on it
abbrev pub TellsFirst : ℕ → MonitorOutcome → Monitors → Monitors → Type 0
TellsFirst o outcomes.Done old new = Unit {0}
TellsFirst o (outcomes.Frees first) old new = first ≡ slice_get (monitor_of new o).entry_list 0
TellsFirst o (outcomes.Notifies u) old new = slice_get (monitor_of old o).wait_list 0 ≡ Some u

-- what a request of thread t makes of a state, where it picks the thread that it notifies
abbrev pub asked_of : World → Request → MonitorOutcome → ℕ → State → Asking → Option State
asked_of w request (outcomes.Notifies u) t r a = asked_with r t a u request
asked_of w request outcome t r a = asked w r t a request

-- Thread t goes on from a state whose parts are these, with this outcome.
pub record GoesFrom (w : World) (request : Request) (outcome : MonitorOutcome) (t o : ℕ) (frames : List Frame) (r : State) (out : ℕ → Bool) (new : ProgramState) : Type 0 where
  pub state : State
  pub same : (a : Asking) → asked_of w request outcome t r a ≡ goes state t a
  pub is : IsState new state out
  pub runs : IsInPhase state t Run frames
  pub others : (q : State) → OthersStay t state q → LeavesOthers t o outcome r q

-- It throws a new exception in a state whose parts are these.
pub record ThrowsFrom (w : World) (request : Request) (e : Exception) (t : ℕ) (frames : List Frame) (r : State) (out : ℕ → Bool) (new : ProgramState) : Type 0 where
  pub state : State
  pub same : (a : Asking) → asked w r t a request ≡ raised w state t e
  pub is : IsState new state out
  pub runs : IsInPhase state t Run frames
  pub others : OthersStay t r state

-- It waits, in a state whose parts are these, with this outcome.
pub record WaitsFrom (w : World) (request : Request) (outcome : MonitorOutcome) (t o : ℕ) (frames : List Frame) (r : State) (out : ℕ → Bool) (new : ProgramState) : Type 0 where
  pub state : State
  pub same : (a : Asking) → asked_of w request outcome t r a ≡ Some state
  pub is : IsState new state out
  pub has : HasFrames state t frames
  pub others : LeavesOthers t o outcome r state

abbrev pub IsReply : World → Request → MonitorReply → ℕ → ℕ → List Frame → State → (ℕ → Bool) → ProgramState → Type 0
IsReply w request (replies.Goes outcome) t o frames r out new = GoesFrom w request outcome t o frames r out new
IsReply w request (replies.Throws e) t o frames r out new = ThrowsFrom w request e t frames r out new
IsReply w request (replies.Waits outcome) t o frames r out new = WaitsFrom w request outcome t o frames r out new

abbrev pub ReplyTells : ℕ → MonitorReply → Monitors → Monitors → Type 0
ReplyTells o (replies.Goes outcome) old new = TellsFirst o outcome old new
ReplyTells o (replies.Throws e) old new = Unit {0}
ReplyTells o (replies.Waits outcome) old new = TellsFirst o outcome old new

-- What a request of thread t on monitor o is answered, in each state whose parts were the old ones, in which the thread runs.
pub record Answers (request : Request) (t o : ℕ) (old new : ProgramState) (reply : MonitorReply) : Type 0 where
  pub first : ReplyTells o reply old.monitors new.monitors
  pub is : (w : World) (r : State) (out : ℕ → Bool) (frames : List Frame) → IsState old r out → out t ≡ true → IsInPhase r t Run frames →
      IsReply w request reply t o frames r out new

-- ---- a reply was given to the thread that asked, whose step it is then

abbrev pub IsConcluded : World → PendingRequest → ℕ → MonitorReply → MonitorOutcome → ProgramState → List Frame → ProgramState → List Frame → Type 0
IsConcluded w q t (replies.Goes made) outcome old before new after = (outcome ≡ made) × (new ≡ old) × GoesOnWithout q before after
IsConcluded w q t (replies.Throws e) outcome old before new after =
    (outcome ≡ outcomes.Done) × IsRaised w e t old new × (new.monitors ≡ old.monitors) × (after ≡ before)
IsConcluded w q t (replies.Waits made) outcome old before new after = (outcome ≡ made) × (new ≡ old) × (after ≡ before)

-- a request of thread t was answered, on some monitor
pub record AnswersSo (request : Request) (t : ℕ) (old new : ProgramState) (reply : MonitorReply) : Type 0 where
  pub monitor : ℕ
  pub answers : Answers request t monitor old new reply
  pub lists : ListsMove old.monitors new.monitors
