-- A machine whose carrier makes a step of its thread.
use Rattle.std.proofs.Common.{◌≡◌, ◌<◌, ◌≤◌, ℕ, zero, suc, Bool, true, List, Option, None, Some, length, slice_get, refl, ap, sym, subst, ◌∙◌, arith}
use Rattle.std.specs.Prelude.{is_some, nat_le}
use Rattle.std.specs.Option.{option_or}
use Rattle.std.proofs.lemmas.Bool.{and_from, le-leb}
use Rattle.items.specs.Options.{◌>>=◌}
use Rattle.history.specs.declared.entry.Entry.{Entry}
use Rattle.vthread_state.specs.declared.phase.Phase.{Phase}
use Rattle.vthread_state.specs.declared.phase.Phase.TheVariants.{Run, Throwing, Entering, Waiting, Reenter, Parked, Asleep, Joining}
use Rattle.vthread_state.specs.Threads.{phase_at}
use Rattle.vthread_state.specs.declared.thread.Status.{Status}
use Rattle.vthread_state.specs.declared.thread.Status.TheVariants.{New, Live, Done}
use Rattle.thread_lists.specs.Lists.{Lists}
use Rattle.link_model.specs.World.{World}
use Rattle.state_model.specs.Frames.{Frame}
use Rattle.ref_model.specs.declared.ending.Ending.{Ending}
use Rattle.ref_model.specs.Setting.{Setting}
use Rattle.ref_model.specs.State.{JavaThread, State, running_frames}
use Rattle.ref_model.specs.LocalRows.{rows}
use Rattle.ref_model.specs.Entries.{are_grouped_steps, ends_behind, is_grouped, may_be_last, most_local_steps}
use Rattle.frame_soundness.specs.Typed.{Typed}
use Rattle.ref_model.specs.Ending.{ending}
use Rattle.ref_model.specs.Step.{enabled}
use Rattle.program_state.specs.States.{IsState}
use Rattle.frame_soundness.specs.TypedStates.{AreOfPhase, AreOfStatus}
use Rattle.interp_local.specs.declared.fetched.Fetched.{Fetched}
use Rattle.schedule_soundness.proofs.TypedHistories.{histories_are_typed}
use Rattle.program_state.specs.declared.state.ProgramState.{ProgramState}
use Rattle.machine.specs.AtHand.{AreTyped, HasNext, IsAt}
use Rattle.machine.specs.Hands.{AreTypedInRun, HasHand, HasPhase, Holds, IsLive, IsLiveIn, IsMounted, Lives, MayStep, OwesNothing}
use Rattle.machine.specs.Legal.{Works}
use Rattle.machine.specs.Machines.{Given, limit_reached, machine_ending}
use Rattle.machine.specs.Insides.{IsConsistent, is_out}
use Rattle.operand_soundness.specs.Ready.{IsReady}
use Rattle.machine.specs.Steps.{MayBeMade, StepsFrom}
use Rattle.machine.specs.Turns.{IsAtLast, IsStepReady, IsStepReadyIn}
use Rattle.machine.proofs.EndingLaws.{ending_is}
use Rattle.machine.proofs.EntryLaws.{given, parts_are, program_after}
use Rattle.machine.proofs.PlaceLaws.{out_from}
use Rattle.machine.proofs.NextLaws.{known_of, there}
use Rattle.machine.proofs.StateLaws.{out_below, phase_is, status_is}

same_list : (xs ys : List Frame) → ◌≡◌ {A = Option (List Frame)} (Some xs) (Some ys) → xs ≡ ys
same_list xs ys e = cc

same_thread : (o : Option JavaThread) (x y : JavaThread) → o ≡ Some x → o ≡ Some y → x ≡ y
same_thread o x y e f = cc

-- ---- the steps lie in an entry

behind_run : (w : World) (k : ℕ) (base frames : List Frame) (next : Option Fetched) → rows w k base ≡ Some frames → IsAtLast w k frames next
    → are_grouped_steps w k (Some base) ≡ true
behind_run w zero base frames next ahead last =
    and_from (nat_le zero most_local_steps) (may_be_last w zero base) refl
    (subst (λ fs. may_be_last w zero fs ≡ true) (sym (same_list base frames ahead)) last.last)
behind_run w (suc k) base frames next ahead last =
    ap (λ o. ends_behind w (suc k) o) ahead ∙ and_from (nat_le (suc k) most_local_steps) (may_be_last w (suc k) frames) (le-leb (suc k) most_local_steps last.few) last.last

grouped_by : (w : World) (k : ℕ) (x : JavaThread) (frames : List Frame) (next : Option Fetched) (status : Status) → rows w k x.frames ≡ Some frames
    → IsStepReadyIn w k frames next status → are_grouped_steps w k (running_frames x.frames status) ≡ true
grouped_by w k x frames next (Live Run) ahead ready = behind_run w k x.frames frames next ahead ready
grouped_by w k x frames next New ahead ready = ap (λ n. are_grouped_steps w n None) ready.0
grouped_by w k x frames next Done ahead ready = ap (λ n. are_grouped_steps w n None) ready.0
grouped_by w k x frames next (Live (Throwing o)) ahead ready = ap (λ n. are_grouped_steps w n None) ready.0
grouped_by w k x frames next (Live (Entering o)) ahead ready = ap (λ n. are_grouped_steps w n None) ready.0
grouped_by w k x frames next (Live (Waiting o count deadline)) ahead ready = ap (λ n. are_grouped_steps w n None) ready.0
grouped_by w k x frames next (Live (Reenter o count wake)) ahead ready = ap (λ n. are_grouped_steps w n None) ready.0
grouped_by w k x frames next (Live (Parked deadline)) ahead ready = ap (λ n. are_grouped_steps w n None) ready.0
grouped_by w k x frames next (Live (Asleep deadline)) ahead ready = ap (λ n. are_grouped_steps w n None) ready.0
grouped_by w k x frames next (Live (Joining u deadline)) ahead ready = ap (λ n. are_grouped_steps w n None) ready.0

-- so many local instructions are few
few_by : (w : World) (k : ℕ) (frames : List Frame) (next : Option Fetched) (status : Status) → IsStepReadyIn w k frames next status → k ≤ most_local_steps
few_by w k frames next (Live Run) ready = ready.few
few_by w k frames next New ready = let none = ready.0 in omega arith
few_by w k frames next Done ready = let none = ready.0 in omega arith
few_by w k frames next (Live (Throwing o)) ready = let none = ready.0 in omega arith
few_by w k frames next (Live (Entering o)) ready = let none = ready.0 in omega arith
few_by w k frames next (Live (Waiting o count deadline)) ready = let none = ready.0 in omega arith
few_by w k frames next (Live (Reenter o count wake)) ready = let none = ready.0 in omega arith
few_by w k frames next (Live (Parked deadline)) ready = let none = ready.0 in omega arith
few_by w k frames next (Live (Asleep deadline)) ready = let none = ready.0 in omega arith
few_by w k frames next (Live (Joining u deadline)) ready = let none = ready.0 in omega arith

-- ---- the frames are typed

none_made : (w : World) (k : ℕ) (x : JavaThread) (frames : List Frame) → k ≡ 0 → rows w k x.frames ≡ Some frames → x.frames ≡ frames
none_made w k x frames none ahead = same_list x.frames frames (sym (ap (λ i. rows w i x.frames) none) ∙ ahead)

typed_by : (w : World) (k : ℕ) (x : JavaThread) (frames : List Frame) (next : Option Fetched) (phase : Phase) → rows w k x.frames ≡ Some frames
    → IsStepReadyIn w k frames next (Live phase) → AreOfPhase w x.frames phase → AreOfPhase w frames phase
typed_by w k x frames next Run ahead ready typed = ready.typed
typed_by w k x frames next (Throwing o) ahead ready typed = subst (λ fs. AreOfPhase w fs (Throwing o)) (none_made w k x frames ready.0 ahead) typed
typed_by w k x frames next (Entering o) ahead ready typed = subst (λ fs. AreOfPhase w fs (Entering o)) (none_made w k x frames ready.0 ahead) typed
typed_by w k x frames next (Waiting o count deadline) ahead ready typed = subst (λ fs. AreOfPhase w fs (Waiting o count deadline)) (none_made w k x frames ready.0 ahead) typed
typed_by w k x frames next (Reenter o count wake) ahead ready typed = subst (λ fs. AreOfPhase w fs (Reenter o count wake)) (none_made w k x frames ready.0 ahead) typed
typed_by w k x frames next (Parked deadline) ahead ready typed = subst (λ fs. AreOfPhase w fs (Parked deadline)) (none_made w k x frames ready.0 ahead) typed
typed_by w k x frames next (Asleep deadline) ahead ready typed = subst (λ fs. AreOfPhase w fs (Asleep deadline)) (none_made w k x frames ready.0 ahead) typed
typed_by w k x frames next (Joining u deadline) ahead ready typed = subst (λ fs. AreOfPhase w fs (Joining u deadline)) (none_made w k x frames ready.0 ahead) typed

module _ (p : Setting) (n : ℕ) (state : ProgramState) (deques : Lists) (on : List (Option ℕ)) (h : List Entry) (told : Option Ending) (spare : ℕ) (x : IsConsistent p n state deques on h told) where
  module _ (c t k : ℕ) (frames : List Frame) (next : Option Fetched) (none : told ≡ None) (holds : Holds (known_of p n h spare told) c t k frames)
      (free : OwesNothing (known_of p n h spare told) t) (may : MayStep (known_of p n h spare told) t)
      (ready : IsStepReady (known_of p n h spare told) t k frames next) where
    abbrev pub hand : HasHand p x.after c t k frames
    hand = holds x.after (there p n state deques on h told spare x)

    ready_in : IsStepReadyIn p.world k frames next hand.thread.thread.status
    ready_in = ready x.after (there p n state deques on h told spare x) hand.thread hand.at

    pub grouped : is_grouped p.world x.after.state t (suc k) ≡ true
    grouped =
        ap (are_grouped_steps p.world k) (ap (λ o. o >>= λ (y : JavaThread). running_frames y.frames y.thread.status) hand.at)
        ∙ grouped_by p.world k hand.thread frames next hand.thread.thread.status hand.ahead ready_in

    abbrev pub steps_from : StepsFrom p.world n state deques on c t k frames
    steps_from = record {
      setting = p;
      world = refl;
      accepted = x.accepted;
      first = x.first;
      before = x.after;
      after = program_after p n state deques on h told x;
      parts = parts_are p n state deques on h told x none;
      hand = hand;
      owes = free x.after (there p n state deques on h told spare x);
      may = may x.after (there p n state deques on h told spare x);
      grouped = grouped;
    }

    pub may_be_made : MayBeMade p.world state deques c t frames
    may_be_made = record { carriers = n; on = on; local = k; from = steps_from }

    pub few_local : k ≤ most_local_steps
    few_local = few_by p.world k frames next hand.thread.thread.status ready_in

    pub is_ready : IsReady p.world
    is_ready = record { linked = x.accepted.typed.linked; named = x.accepted.typed.named; runs = x.accepted.typed.runs }

    status_at : (phase : Phase) → IsAt state t phase → hand.thread.thread.status ≡ Live phase
    status_at phase at =
        status_is state x.after.state (is_out x.after.schedule) t hand.thread phase (parts_are p n state deques on h told x none).state hand.at at

    no_next : (status : Status) → hand.thread.thread.status ≡ status → (status ≡ Live Run → ⊥) → next ≡ None → HasNext p.world state t frames next
    no_next status is other absent =
        subst (HasNext p.world state t frames) (sym absent) (λ at. other (sym is ∙ status_at Run at))

    run_next : IsAt state t Run → IsAtLast p.world k frames next → HasNext p.world state t frames next
    run_next at last = subst (HasNext p.world state t frames) (sym last.is) (at, last.at)

    next_by : (status : Status) → hand.thread.thread.status ≡ status → IsStepReadyIn p.world k frames next status → HasNext p.world state t frames next
    next_by (Live Run) is ready =
        run_next (phase_is state x.after.state (is_out x.after.schedule) t hand.thread Run (parts_are p n state deques on h told x none).state hand.at is) ready
    next_by New is ready = no_next New is (λ e. cc) ready.1
    next_by Done is ready = no_next Done is (λ e. cc) ready.1
    next_by (Live (Throwing o)) is ready = no_next (Live (Throwing o)) is (λ e. cc) ready.1
    next_by (Live (Entering o)) is ready = no_next (Live (Entering o)) is (λ e. cc) ready.1
    next_by (Live (Waiting o count deadline)) is ready = no_next (Live (Waiting o count deadline)) is (λ e. cc) ready.1
    next_by (Live (Reenter o count wake)) is ready = no_next (Live (Reenter o count wake)) is (λ e. cc) ready.1
    next_by (Live (Parked deadline)) is ready = no_next (Live (Parked deadline)) is (λ e. cc) ready.1
    next_by (Live (Asleep deadline)) is ready = no_next (Live (Asleep deadline)) is (λ e. cc) ready.1
    next_by (Live (Joining u deadline)) is ready = no_next (Live (Joining u deadline)) is (λ e. cc) ready.1

    pub next_at : HasNext p.world state t frames next
    next_at = next_by hand.thread.thread.status refl ready_in

    pub typed_at : AreTyped p.world state t frames
    typed_at phase at =
        let typed = histories_are_typed p x.first n h x.after x.accepted.typed x.begins x.runs in
        let own : AreOfPhase p.world hand.thread.frames phase =
        subst (λ s. AreOfStatus p.world hand.thread.frames s) (status_at phase at) (typed.threads t hand.thread hand.at) in
        typed_by p.world k hand.thread frames next phase hand.ahead (subst (IsStepReadyIn p.world k frames next) (status_at phase at) ready_in) own

-- ---- what is seen of one thread

module _ (p : Setting) (n : ℕ) (state : ProgramState) (deques : Lists) (on : List (Option ℕ)) (h : List Entry) (told : Option Ending) (spare : ℕ) (x : IsConsistent p n state deques on h told) where
  pub typed_hand : (c t : ℕ) (frames : List Frame) → Holds (known_of p n h spare told) c t 0 frames → AreTypedInRun (known_of p n h spare told) t frames
  typed_hand c t frames holds =
      given (known_of p n h spare told) x.first x.after (λ v. IsLiveIn v.state t Run → Typed p.world frames) x.begins x.runs (λ live.
      let hand = holds x.after (there p n state deques on h told spare x) in
      let typed = histories_are_typed p x.first n h x.after x.accepted.typed x.begins x.runs in
      let own : Typed p.world live.thread.frames = subst (λ s. AreOfStatus p.world live.thread.frames s) live.status (typed.threads t live.thread live.at) in
      let same : hand.thread ≡ live.thread = same_thread (slice_get x.after.state.threads t) hand.thread live.thread hand.at live.at in
      let frames_are : live.thread.frames ≡ frames = ap (λ (y : JavaThread). y.frames) (sym same) ∙ same_list hand.thread.frames frames hand.ahead in
      subst (Typed p.world) frames_are own)

  module _ (t : ℕ) (works : Works (known_of p n h spare told)) where
    is_there : IsState state x.after.state (is_out x.after.schedule)
    is_there = (x.parts works).state

    pub mounted_below : IsMounted (known_of p n h spare told) t → t < length state.threads.threads
    mounted_below mounted =
        out_below state x.after.state (is_out x.after.schedule) t is_there
        (out_from x.after.schedule t (mounted x.after (there p n state deques on h told spare x)))

    pub enabled_given : (result : Bool) → ((r : State) (places : ℕ → Bool) → IsState state r places → result ≡ enabled r t)
        → Given (known_of p n h spare told) (λ v. result ≡ enabled v.state t)
    enabled_given result tells =
        given (known_of p n h spare told) x.first x.after (λ v. result ≡ enabled v.state t) x.begins x.runs
        (tells x.after.state (is_out x.after.schedule) is_there)

    the_live : Lives (known_of p n h spare told) t → IsLive x.after.state t
    the_live lives = lives x.after (there p n state deques on h told spare x)

    pub phase_there : Lives (known_of p n h spare told) t → is_some (phase_at state.threads t) ≡ true
    phase_there lives =
        let l = the_live lives in
        ap is_some (phase_is state x.after.state (is_out x.after.schedule) t l.live.thread l.phase is_there l.live.at l.live.status)

    pub phase_given : Lives (known_of p n h spare told) t → (phase : Phase) → phase_at state.threads t ≡ Some phase → HasPhase (known_of p n h spare told) t phase
    phase_given lives phase at =
        let l = the_live lives in
        given (known_of p n h spare told) x.first x.after (λ v. IsLiveIn v.state t phase) x.begins x.runs
        (record {
          thread = l.live.thread;
          at = l.live.at;
          status = status_is state x.after.state (is_out x.after.schedule) t l.live.thread phase is_there l.live.at at;
        })

  pub ending_there : (result : Option Ending) (entries : ℕ) → told ≡ None → entries ≡ length h
      → ((r : State) (places : ℕ → Bool) → IsState state r places → result ≡ option_or (ending r) (limit_reached p.limits entries))
      → result ≡ machine_ending (known_of p n h spare told)
  ending_there result entries none count tells =
      let a = parts_are p n state deques on h told x none in
      tells x.after.state (is_out x.after.schedule) a.state ∙ ap (λ i. option_or (ending x.after.state) (limit_reached p.limits i)) count
      ∙ ap (λ o. option_or o (option_or (ending x.after.state) (limit_reached p.limits (length h)))) (sym none)
      ∙ sym (ending_is (known_of p n h spare told) x.after (there p n state deques on h told spare x))
