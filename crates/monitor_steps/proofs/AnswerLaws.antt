-- What is answered to monitorenter and monitorexit.
use Rattle.std.proofs.Common.{◌≡◌, ℕ, true, false, List, Some, None, refl, ap, sym, subst, ◌∙◌}
use Rattle.std.specs.Prelude.{if◌then◌else◌, is_none, slice_get, slice_set}
use Rattle.vthread_state.specs.declared.phase.Phase.{Phase}
use Rattle.vthread_state.specs.declared.phase.Phase.TheVariants.{Run, Entering}
use Rattle.vthread_state.specs.declared.thread.Status.TheVariants.{Live}
use Rattle.link_model.specs.World.{World}
use Rattle.state_model.specs.Frames.{Frame}
use Rattle.monitors.specs.Monitors.{Monitors}
use Rattle.ref_model.specs.declared.exception.Exception.TheVariants as exceptions
use Rattle.ref_model.specs.Asking.{Asking, goes, waits}
use Rattle.ref_model.specs.Monitors.{entered_once, owns, with_entry, with_exit}
use Rattle.ref_model.specs.Requesting.{asked}
use Rattle.ref_model.specs.Requests.{enters, exits}
use Rattle.ref_model.specs.State.{JavaThread, State, with_status}
use Rattle.ref_model.specs.Throwing.{raised}
use Rattle.ref_model.proofs.StateLaws.{get_set}
use Rattle.schedule_soundness.specs.PutLaws.{OthersStay}
use Rattle.schedule_soundness.proofs.ThreadLists.{set_other}
use Rattle.program_state.specs.declared.state.ProgramState.{ProgramState}
use Rattle.program_state.specs.Monitors.{ListsMove, stay}
use Rattle.program_state.specs.States.{HasFrames, IsInPhase}
use Rattle.program_state.specs.Steps.{PutsNobody, keeps_monitor, leaves_others}
use Rattle.program_state.proofs.StateLaws.{others_same, thread_is}
use Rattle.monitor_steps.specs.declared.outcome.MonitorOutcome.{MonitorOutcome}
use Rattle.monitor_steps.specs.declared.outcome.MonitorOutcome.TheVariants as outcomes
use Rattle.monitor_steps.specs.declared.reply.MonitorReply.TheVariants as replies
use Rattle.monitor_steps.specs.Entries.{EntersTo}
use Rattle.monitor_steps.specs.Owners.{IsLeft, IsLeftAs}
use Rattle.monitor_steps.specs.Replies.{AnswersSo, asked_of}
use Rattle.monitor_steps.proofs.ExitLaws.{as_left, left_first, left_lists, left_others, left_owned, left_state, monitor_step, not_owned, owner_now, same_all}
use Rattle.monitor_steps.proofs.StateMoves.{with_status_as}

-- ---- a thread of a state with another status

pub status_frames : (r : State) (t : ℕ) (phase : Phase) (frames : List Frame) (own : Phase) → IsInPhase r t own frames → HasFrames (with_status r t (Live phase)) t frames
status_frames r t phase frames own at =
    let y : JavaThread = with_status_as (Live phase) at.thread in
    subst (λ q. HasFrames q t frames) (sym (thread_is r t (with_status_as (Live phase)) at.thread at.at))
    (record { thread = y; at = get_set r.threads t at.thread y at.at; has = at.has })

pub status_others : (r : State) (t : ℕ) (phase : Phase) (frames : List Frame) (own : Phase) → IsInPhase r t own frames → OthersStay t r (with_status r t (Live phase))
status_others r t phase frames own at =
    let y : JavaThread = with_status_as (Live phase) at.thread in
    subst (OthersStay t r) (sym (thread_is r t (with_status_as (Live phase)) at.thread at.at))
    (others_same t r (record r { threads = slice_set r.threads t y }) (λ u ne. set_other r.threads t u y ne) refl refl)

-- ---- monitorenter

-- what follows leaves others, and the monitor is owned
pub entry_others : (t o : ℕ) (r q : State) → OthersStay t (with_entry r t o) q → PutsNobody t r q
entry_others t o r q others =
    keeps_monitor o (monitor_step t o (Some (entered_once t (r.owners o))) r (with_entry r t o) q refl refl refl others)
    (ap is_none (owner_now o (Some (entered_once t (r.owners o))) r (with_entry r t o) q t refl others))

pub same_phase : (r q : State) (t : ℕ) (phase : Phase) (frames : List Frame) → q.threads ≡ r.threads → IsInPhase r t phase frames → IsInPhase q t phase frames
same_phase r q t phase frames same at =
    record { thread = at.thread; at = ap (λ ts. slice_get ts t) same ∙ at.at; status = at.status; has = at.has }

pub enter_goes : (t o : ℕ) (old new : ProgramState) → EntersTo t o old new true → ListsMove old.monitors new.monitors → AnswersSo (enters o) t old new (replies.Goes outcomes.Done)
enter_goes t o old new entered moved =
    record {
      monitor = o;
      answers = record {
        first = tt;
        is = λ w r out frames is here at.
            record {
              state = with_entry r t o;
              same = λ a. ap (λ b. if b then goes (with_entry r t o) t a else waits r t (Entering o)) (entered r out frames is here at).may;
              is = (entered r out frames is here at).is;
              runs = same_phase r (with_entry r t o) t Run frames refl at;
              others = λ q others. entry_others t o r q others;
            };
      };
      lists = moved;
    }

pub enter_waits : (t o : ℕ) (old new : ProgramState) → EntersTo t o old new false → ListsMove old.monitors new.monitors → AnswersSo (enters o) t old new (replies.Waits outcomes.Done)
enter_waits t o old new entered moved =
    record {
      monitor = o;
      answers = record {
        first = tt;
        is = λ w r out frames is here at.
            record {
              state = with_status r t (Live (Entering o));
              same = λ a. ap (λ b. if b then goes (with_entry r t o) t a else waits r t (Entering o)) (entered r out frames is here at).may_not;
              is = (entered r out frames is here at).is;
              has = status_frames r t (Entering o) frames Run at;
              others = leaves_others (status_others r t (Entering o) frames Run at);
            };
      };
      lists = moved;
    }

-- ---- monitorexit

owned_goes : (w : World) (r : State) (t o : ℕ) (a : Asking) → owns r t o ≡ true → asked w r t a (exits o) ≡ goes (with_exit r o) t a
owned_goes w r t o a e = ap (λ b. if b then goes (with_exit r o) t a else raised w r t exceptions.IllegalMonitorStateException) e

left_asks : (w : World) (r : State) (t o : ℕ) (a : Asking) (outcome : MonitorOutcome) (old new : Monitors) → IsLeftAs t o outcome old new → asked w r t a (exits o) ≡ goes (with_exit r o) t a
    → asked_of w (exits o) outcome t r a ≡ goes (with_exit r o) t a
left_asks w r t o a outcomes.Done old new left e = e
left_asks w r t o a (outcomes.Frees first) old new left e = e
left_asks w r t o a (outcomes.Notifies u) old new left e = absurd left

pub exit_goes : (t o : ℕ) (outcome : MonitorOutcome) (old : ProgramState) (m : Monitors) → IsLeftAs t o outcome old.monitors m
    → AnswersSo (exits o) t old (record old { monitors = m }) (replies.Goes outcome)
exit_goes t o outcome old m left =
    let has = as_left t o outcome old.monitors m left in
    record {
      monitor = o;
      answers = record {
        first = left_first t o outcome old.monitors m left;
        is = λ w r out frames is here at.
            record {
              state = with_exit r o;
              same = λ a. left_asks w r t o a outcome old.monitors m left (owned_goes w r t o a (left_owned old m t o r out is has));
              is = left_state old m t o r out is has;
              runs = same_phase r (with_exit r o) t Run frames refl at;
              others = left_others old m t o outcome r out is left;
            };
      };
      lists = left_lists t o (Some outcome) old.monitors m left;
    }

pub exit_throws : (t o : ℕ) (old : ProgramState) (m : Monitors) → IsLeft t o None old.monitors m
    → AnswersSo (exits o) t old (record old { monitors = m }) (replies.Throws exceptions.IllegalMonitorStateException)
exit_throws t o old m left =
    subst (λ (n : Monitors). AnswersSo (exits o) t old (record old { monitors = n }) (replies.Throws exceptions.IllegalMonitorStateException)) (sym left.1)
    (record {
      monitor = o;
      answers = record {
        first = tt;
        is = λ w r out frames is here at.
            record {
              state = r;
              same = λ a. ap (λ b. if b then goes (with_exit r o) t a else raised w r t exceptions.IllegalMonitorStateException) (not_owned old t o false r out is left.0);
              is = is;
              runs = at;
              others = others_same t r r (λ u ne. refl) refl refl;
            };
      };
      lists = stay (same_all old.monitors);
    })
