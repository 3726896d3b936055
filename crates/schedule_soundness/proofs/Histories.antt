-- The laws of the schedule, for the reference machine.
use Rattle.std.proofs.Common.{◌≡◌, ℕ, List, [], ◌∷◌, Option, Some, refl, ap, sym, ◌∙◌, cond, ◌++◌}
use Rattle.items.specs.Options.{◌>>=◌}
use Rattle.items.proofs.Binds.{some_is, bind_is}
use Rattle.history.specs.declared.entry.Entry.{Entry}
use Rattle.history.specs.declared.entry.What.{What}
use Rattle.history.specs.declared.entry.What.TheVariants.{Mount, Unmount, Step, Clock}
use Rattle.history.specs.Java.{is_java, java}
use Rattle.schedule_model.specs.Run.{Scheduled, replay, state_after, schedule_of, schedule_from, scheduled_after}
use Rattle.schedule_model.specs.Laws.{IsAfter}
use Rattle.schedule_model.proofs.PrefixLaws.{prefixes_are_legal, histories_go_on as schedule_goes_on}
use Rattle.schedule_model.proofs.RunLaws.{runs_without_carriers}
use Rattle.schedule_model.proofs.PlaceLaws.{one_place, in_no_deque, in_deques_loose, none_lost, lists_have, pinned_mounted, pinned_stay}
use Rattle.schedule_model.proofs.OtherLaws.{others_leave_mounted, others_leave_owed, stay_allowed}
use Rattle.ref_model.specs.Setting.{Setting}
use Rattle.ref_model.specs.State.{State}
use Rattle.ref_model.specs.Opening.{opening}
use Rattle.ref_model.specs.Waiting.{at_time}
use Rattle.ref_model.specs.Entries.{is_grouped}
use Rattle.ref_model.specs.Run.{after_steps, outcome_after, with_state, first_outcome, replay as replay_outcome}
use Rattle.ref_model.specs.Looks.{grouped_steps, machine_from}
use Rattle.schedule_soundness.specs.HistoryLaws.{IsProgramAfter, HistoryPrefixes, HistoriesGoOn, HistoriesRun, ThreadsAreInOnePlace, MountedAreInNoDeque, DequesHaveLiveThreads, NoWakeUpIsLost, ListsHaveTheirThreads, PinnedAreMounted, PinnedStayMounted, OthersLeaveMounted, OthersLeaveOwed, UnmountsStayAllowed}
use Rattle.schedule_soundness.proofs.Reached.{grouped_is, inner_state}
use Rattle.schedule_soundness.proofs.Promises.{promises_are_kept}

pub is_after : (p : Setting) (first : State) (v : Scheduled State) → IsProgramAfter p first v → IsAfter (machine_from p first) v
is_after p first v a =
    record {
      promises = promises_are_kept p first a.plain a.begins;
      carriers = a.carriers;
      some = a.some;
      history = a.history;
      runs = a.runs;
    }

pub history_prefixes : HistoryPrefixes
history_prefixes p first carriers front back legal = prefixes_are_legal (machine_from p first) carriers front back legal

pub in_one_place : ThreadsAreInOnePlace
in_one_place p first v a t = one_place (machine_from p first) v (is_after p first v a) t

pub mounted_in_no_deque : MountedAreInNoDeque
mounted_in_no_deque p first v a t on = in_no_deque (machine_from p first) v (is_after p first v a) t on

pub deques_have_live : DequesHaveLiveThreads
deques_have_live p first v a goes t there = in_deques_loose (machine_from p first) v (is_after p first v a) goes t there

pub no_wake_up_is_lost : NoWakeUpIsLost
no_wake_up_is_lost p first v a goes = none_lost (machine_from p first) v (is_after p first v a) goes

pub lists_have_theirs : ListsHaveTheirThreads
lists_have_theirs p first v a goes = lists_have (machine_from p first) v (is_after p first v a) goes

pub pinned_are_mounted : PinnedAreMounted
pinned_are_mounted p first v a goes = pinned_mounted (machine_from p first) v (is_after p first v a) goes

pub pinned_stay_mounted : PinnedStayMounted
pinned_stay_mounted p first v a c t may = pinned_stay (machine_from p first) v (is_after p first v a) c t may

pub mounted_left : OthersLeaveMounted
mounted_left p first v w a c k what ne e = others_leave_mounted (machine_from p first) v w c k what ne e

pub owed_left : OthersLeaveOwed
owed_left p first v w a c k t what ne e here = others_leave_owed (machine_from p first) v w (is_after p first v a) c k t what ne e here

pub unmounts_stay : UnmountsStayAllowed
unmounts_stay p first v w a c k t what ne e goes may =
    stay_allowed (machine_from p first) v w (is_after p first v a) c k t what ne e goes may

-- ---- one entry more

pub histories_go_on : HistoriesGoOn
histories_go_on p first v w a c what e =
    let m = machine_from p first in
    let entry : Entry = record { carrier = c; what = what } in
    record {
      begins = a.begins;
      plain = a.plain;
      carriers = a.carriers;
      some = a.some;
      history = a.history ++ entry ∷ [];
      runs = schedule_goes_on m a.carriers a.history (entry ∷ [])
          ∙ bind_is (schedule_of m a.carriers a.history) (λ x. schedule_from m x (entry ∷ [])) v (Some w) a.runs
          (bind_is (scheduled_after m v c what) (λ x. schedule_from m x []) w (Some w) e refl);
    }

-- ---- without carriers

outcome_step : (p : Setting) (r q : State) (t n : ℕ) (pick : Option ℕ) → grouped_steps p r t n pick ≡ Some q
    → outcome_after p (first_outcome r) (Step t n pick) ≡ Some (first_outcome q)
outcome_step p r q t n pick e =
    bind_is (after_steps p r t n pick) (λ s. Some (with_state (first_outcome r) s)) q (Some (first_outcome q))
    (grouped_is (is_grouped p.world r t n) (after_steps p r t n pick) q e).1 refl

outcome_tick : (p : Setting) (r q : State) (now : ℕ) → at_time r now ≡ Some q → outcome_after p (first_outcome r) (Clock now) ≡ Some (first_outcome q)
outcome_tick p r q now e = bind_is (at_time r now) (λ s. Some (with_state (first_outcome r) s)) q (Some (first_outcome q)) e refl

-- one entry of which the kind is known, and what comes after it
entry_outcome : (p : Setting) (first r q : State) (a : Entry) (es : List Entry) (what : What) → a.what ≡ what
    → ((s : State) → replay (machine_from p first) s es ≡ Some q → replay_outcome p es (first_outcome s) ≡ Some (first_outcome q))
    → replay (machine_from p first) r (cond (is_java what) (a ∷ es) es) ≡ Some q
    → replay_outcome p (cond (is_java what) (a ∷ es) es) (first_outcome r) ≡ Some (first_outcome q)
entry_outcome p first r q a es (Mount t) is rest e = rest r e
entry_outcome p first r q a es (Unmount t) is rest e = rest r e
entry_outcome p first r q a es (Step t n pick) is rest e =
    let s = some_is (state_after (machine_from p first) r a.what) (λ s. replay (machine_from p first) s es) q e in
    let made : grouped_steps p r t n pick ≡ Some s.0 = ap (state_after (machine_from p first) r) (sym is) ∙ s.1 in
    bind_is (outcome_after p (first_outcome r) a.what) (λ next. replay_outcome p es next) (first_outcome s.0) (Some (first_outcome q))
    (ap (outcome_after p (first_outcome r)) is ∙ outcome_step p r s.0 t n pick made) (rest s.0 s.2)
entry_outcome p first r q a es (Clock now) is rest e =
    let s = some_is (state_after (machine_from p first) r a.what) (λ s. replay (machine_from p first) s es) q e in
    let made : at_time r now ≡ Some s.0 = ap (state_after (machine_from p first) r) (sym is) ∙ s.1 in
    bind_is (outcome_after p (first_outcome r) a.what) (λ next. replay_outcome p es next) (first_outcome s.0) (Some (first_outcome q))
    (ap (outcome_after p (first_outcome r)) is ∙ outcome_tick p r s.0 now made) (rest s.0 s.2)

-- entries that aren't mounts nor unmounts do the same
java_outcome : (p : Setting) (first : State) (es : List Entry) (r q : State) → replay (machine_from p first) r (java es) ≡ Some q
    → replay_outcome p (java es) (first_outcome r) ≡ Some (first_outcome q)
java_outcome p first [] r q e = ap (λ s. Some (first_outcome s)) (inner_state r q e)
java_outcome p first (a ∷ es) r q e =
    entry_outcome p first r q a (java es) a.what refl (λ s e. java_outcome p first es s q e) e

pub histories_run : HistoriesRun
histories_run p first carriers history v begins e =
    let runs = java_outcome p first history first v.state (runs_without_carriers (machine_from p first) carriers history v e) in
    bind_is (opening p) (λ r. replay_outcome p (java history) (first_outcome r) >>= λ o. Some o.state) first (Some v.state) begins
    (bind_is (replay_outcome p (java history) (first_outcome first)) (λ o. Some o.state) (first_outcome v.state) (Some v.state) runs refl)
