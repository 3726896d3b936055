-- From what a request on a monitor is answered to the step of the thread that asked.
use Rattle.std.proofs.Common.{◌≡◌, ℕ, Bool, true, List, Option, Some, Result, Ok, Err, refl, ap, sym, subst, ◌∙◌}
use Rattle.std.specs.Prelude.{IfOk, OnOk, slice_get}
use Rattle.items.proofs.Binds.{bind_is}
use Rattle.vthread_state.specs.declared.phase.Phase.TheVariants.{Run}
use Rattle.link_model.specs.World.{World}
use Rattle.state_model.specs.Frames.{Frame}
use Rattle.monitors.specs.Monitors.{Monitors}
use Rattle.ref_model.specs.Asking.{Asking}
use Rattle.ref_model.specs.Requesting.{asked_with}
use Rattle.ref_model.specs.Requests.{Request, request_of}
use Rattle.ref_model.specs.Resuming.{asking_at, asking_in}
use Rattle.ref_model.specs.State.{JavaThread, State, frames_at, running_frames}
use Rattle.ref_model.specs.Step.{phase_step, picking_step}
use Rattle.ref_model.specs.declared.exception.Exception.{Exception}
use Rattle.thread_steps.specs.declared.progress.PendingRequest.{PendingRequest}
use Rattle.thread_steps.specs.Asking.{asking_of}
use Rattle.thread_steps.specs.States.{memory_of}
use Rattle.program_state.specs.declared.state.ProgramState.{ProgramState}
use Rattle.program_state.specs.Monitors.{ListsMove}
use Rattle.program_state.specs.Replies.{GoesOnWithout}
use Rattle.program_state.specs.Replying.{IsRaised}
use Rattle.program_state.specs.Requests.{IsPending}
use Rattle.program_state.specs.States.{IsInPhase, IsState}
use Rattle.program_state.specs.Steps.{Leads, PutsNobody, StepsTo, leaves_others}
use Rattle.program_state.proofs.ReplyLaws.{goes_concluded}
use Rattle.program_state.proofs.RequestLaws.{pending_step}
use Rattle.program_state.proofs.StateLaws.{others_then}
use Rattle.monitor_steps.specs.declared.outcome.MonitorOutcome.{MonitorOutcome}
use Rattle.monitor_steps.specs.declared.outcome.MonitorOutcome.TheVariants as outcomes
use Rattle.monitor_steps.specs.declared.reply.MonitorReply.{MonitorReply}
use Rattle.monitor_steps.specs.declared.reply.MonitorReply.TheVariants as replies
use Rattle.monitor_steps.specs.Outcomes.{IsMade}
use Rattle.monitor_steps.specs.Replies.{Answers, AnswersSo, IsConcluded, LeavesOthers, TellsFirst, asked_of}

-- ---- the step that is asked for

-- what a step of a thread that runs makes of a state, where it notifies a thread and picks it, and else
abbrev pub step_of : World → MonitorOutcome → ℕ → List Frame → State → Option State
step_of w (outcomes.Notifies u) t frames s = picking_step w s t u
step_of w outcome t frames s = phase_step w s t frames Run

frames_run : (r : State) (t : ℕ) (frames : List Frame) → IsInPhase r t Run frames → frames_at r t ≡ Some frames
frames_run r t frames at =
    bind_is (slice_get r.threads t) (λ (x : JavaThread). running_frames x.frames x.thread.status) at.thread (Some frames) at.at
    (ap (running_frames at.thread.frames) at.status ∙ ap (λ fs. Some fs) at.has)

picks : (w : World) (q : PendingRequest) (a : ProgramState) (frames : List Frame) (r : State) (t u : ℕ) (p : IsPending w q a.memory frames) → memory_of a.memory ≡ r.memory → IsInPhase r t Run frames
    → picking_step w r t u ≡ asked_with r t (asking_of q p.frame p.below) u (request_of q.request)
picks w q a frames r t u p same at =
    let asking : Request × Asking = (request_of q.request, asking_of q p.frame p.below) in
    let here : asking_at w r t ≡ Some asking =
    bind_is (frames_at r t) (asking_in w r.memory) frames (Some asking) (frames_run r t frames at) (ap (λ m. asking_in w m frames) (sym same) ∙ p.asks.asking) in
    bind_is (asking_at w r t) (λ (x : Request × Asking). asked_with r t x.1 u x.0) asking (asked_with r t asking.1 u asking.0) here refl

step_is : (w : World) (q : PendingRequest) (a : ProgramState) (frames : List Frame) (outcome : MonitorOutcome) (r : State) (out : ℕ → Bool) (t : ℕ) (p : IsPending w q a.memory frames) → IsState a r out
    → IsInPhase r t Run frames → step_of w outcome t frames r ≡ asked_of w (request_of q.request) outcome t r (asking_of q p.frame p.below)
step_is w q a frames outcomes.Done r out t p is at = pending_step w q a.memory frames r t p is.memory
step_is w q a frames (outcomes.Frees first) r out t p is at = pending_step w q a.memory frames r t p is.memory
step_is w q a frames (outcomes.Notifies u) r out t p is at = picks w q a frames r t u p is.memory at

-- ---- what it leads to

-- such a step of the thread leads from each state to one whose parts are the new ones
abbrev pub LeadsBy : World → MonitorOutcome → ℕ → ℕ → ProgramState → List Frame → ProgramState → List Frame → Type 0
LeadsBy w outcome t o old before new after = (r : State) (out : ℕ → Bool) → IsState old r out → out t ≡ true → IsInPhase r t Run before →
    Leads (step_of w outcome t before) (LeavesOthers t o outcome) new t after r out

made_by : (w : World) (outcome : MonitorOutcome) (t o : ℕ) (old new : ProgramState) (before after : List Frame) → TellsFirst o outcome old.monitors new.monitors
    → LeadsBy w outcome t o old before new after → IsMade w outcome Run t old before new after
made_by w outcomes.Done t o old new before after first leads = leads
made_by w (outcomes.Frees u) t o old new before after first leads = record { monitor = o; steps = leads; first_is = first }
made_by w (outcomes.Notifies u) t o old new before after first leads = (refl, record { monitor = o; steps = leads; first_is = first })

goes_by : (w : World) (q : PendingRequest) (t o : ℕ) (outcome : MonitorOutcome) (old new : ProgramState) (before after : List Frame) → IsPending w q old.memory before
    → Answers (request_of q.request) t o old new (replies.Goes outcome) → GoesOnWithout q before after → LeadsBy w outcome t o old before new after
goes_by w q t o outcome old new before after p answers goes_on r out is here at =
    let g = answers.is w r out before is here at in
    let l = goes_concluded w q t new before after goes_on g.state out p.frame p.below g.is here g.runs p.top in
    record {
      next = l.next;
      makes = step_is w q old before outcome r out t p is at ∙ g.same (asking_of q p.frame p.below) ∙ l.makes;
      is = l.is;
      has = l.has;
      others = g.others l.next l.others;
    }

waits_by : (w : World) (q : PendingRequest) (t o : ℕ) (outcome : MonitorOutcome) (old new : ProgramState) (before : List Frame) → IsPending w q old.memory before
    → Answers (request_of q.request) t o old new (replies.Waits outcome) → LeadsBy w outcome t o old before new before
waits_by w q t o outcome old new before p answers r out is here at =
    let g = answers.is w r out before is here at in
    record {
      next = g.state;
      makes = step_is w q old before outcome r out t p is at ∙ g.same (asking_of q p.frame p.below);
      is = g.is;
      has = g.has;
      others = g.others;
    }

throws_by : (w : World) (q : PendingRequest) (t o : ℕ) (e : Exception) (old mid new : ProgramState) (before : List Frame) → IsPending w q old.memory before
    → Answers (request_of q.request) t o old mid (replies.Throws e) → IsRaised w e t mid new → StepsTo w (PutsNobody t) Run t old before new before
throws_by w q t o e old mid new before p answers raises r out is here at =
    let g = answers.is w r out before is here at in
    let l = raises g.state out before g.is here g.runs in
    record {
      next = l.next;
      makes = pending_step w q old.memory before r t p is.memory ∙ g.same (asking_of q p.frame p.below) ∙ l.makes;
      is = l.is;
      has = l.has;
      others = leaves_others (others_then t r g.state l.next g.others l.others);
    }

-- A request was answered, and the reply given.
pub request_made : (w : World) (q : PendingRequest) (t : ℕ) (outcome : MonitorOutcome) (old mid new : ProgramState) (before after : List Frame) (reply : MonitorReply) → IsPending w q old.memory before
    → AnswersSo (request_of q.request) t old mid reply → IsConcluded w q t reply outcome mid before new after → IsMade w outcome Run t old before new after
request_made w q t outcome old mid new before after (replies.Goes made) p answered concluded =
    let o : ℕ = answered.monitor in
    subst (λ x. IsMade w x Run t old before new after) (sym concluded.0)
    (subst (λ (s : ProgramState). IsMade w made Run t old before s after) (sym concluded.1)
    (made_by w made t o old mid before after answered.answers.first (goes_by w q t o made old mid before after p answered.answers concluded.2)))
request_made w q t outcome old mid new before after (replies.Throws e) p answered concluded =
    subst (λ x. IsMade w x Run t old before new after) (sym concluded.0)
    (subst (λ fs. StepsTo w (PutsNobody t) Run t old before new fs) (sym concluded.3) (throws_by w q t answered.monitor e old mid new before p answered.answers concluded.1))
request_made w q t outcome old mid new before after (replies.Waits made) p answered concluded =
    let o : ℕ = answered.monitor in
    subst (λ x. IsMade w x Run t old before new after) (sym concluded.0)
    (subst (λ (s : ProgramState). IsMade w made Run t old before s after) (sym concluded.1)
    (subst (λ fs. IsMade w made Run t old before mid fs) (sym concluded.2)
    (made_by w made t o old mid before before answered.answers.first (waits_by w q t o made old mid before p answered.answers))))

pub request_lists : (w : World) (q : PendingRequest) (t : ℕ) (outcome : MonitorOutcome) (old mid new : ProgramState) (before after : List Frame) (reply : MonitorReply)
    → AnswersSo (request_of q.request) t old mid reply → IsConcluded w q t reply outcome mid before new after → ListsMove old.monitors new.monitors
request_lists w q t outcome old mid new before after (replies.Goes made) answered concluded =
    subst (λ (s : ProgramState). ListsMove old.monitors s.monitors) (sym concluded.1) answered.lists
request_lists w q t outcome old mid new before after (replies.Throws e) answered concluded =
    subst (λ (m : Monitors). ListsMove old.monitors m) (sym concluded.2) answered.lists
request_lists w q t outcome old mid new before after (replies.Waits made) answered concluded =
    subst (λ (s : ProgramState). ListsMove old.monitors s.monitors) (sym concluded.1) answered.lists

pub ok_lists : {E : Type 0} (w : World) (q : PendingRequest) (t : ℕ) (old mid new : ProgramState) (before after : List Frame) (reply : MonitorReply) (result : Result MonitorOutcome E)
    → AnswersSo (request_of q.request) t old mid reply → IfOk result (λ outcome. IsConcluded w q t reply outcome mid before new after) → OnOk result (ListsMove old.monitors new.monitors)
ok_lists w q t old mid new before after reply (Ok outcome) answered concluded = request_lists w q t outcome old mid new before after reply answered concluded
ok_lists w q t old mid new before after reply (Err e) answered concluded = tt
