-- What a tick of time changes, and whom it puts into a deque, where no thread waits on a monitor.
use Rattle.std.proofs.Common.{◌≡◌, ◌≢◌, ◌⊎◌, inl, inr, eqb, ◌==◌, ◌<◌, ℕ, suc, Bool, true, false, List, [], ◌∷◌, map, Option, Some, None, refl, ap, sym, subst, ◌∙◌, ◌&&◌, ◌||◌, not, cond}
use Rattle.std.specs.Prelude.{if◌then◌else◌, is_none, nat_le, nat_lt, slice_get}
use Rattle.std.specs.List.{filter}
use Rattle.std.specs.Option.{option_map_or}
use Rattle.std.proofs.lemmas.Bool.{and_from, and_parts, and_right, cases_Bool, le-leb, leb-false, leb-true, lt-ltb, ltb-true}
use Rattle.std.proofs.lemmas.Bool.Decides.{eqb_tells}
use Rattle.std.proofs.lemmas.List.Elements.{filter_agree}
use Rattle.std.proofs.lemmas.Option.{slice_get_within}
use mathlib.Core.Bool.{and-true}
use Rattle.thread_lists.specs.Lists.{count}
use Rattle.vthread_state.specs.declared.phase.Phase.{Phase}
use Rattle.vthread_state.specs.declared.phase.Phase.TheVariants.{Run, Throwing, Entering, Waiting, Reenter, Parked, Asleep, Joining}
use Rattle.vthread_state.specs.declared.thread.Status.{Status}
use Rattle.vthread_state.specs.declared.thread.Status.TheVariants.{New, Live, Done}
use Rattle.vthread_state.proofs.RisingLaws.{contained, counted}
use Rattle.link_model.specs.World.{World}
use Rattle.schedule_model.specs.Look.{Look, is_in_line, is_in_wait_list, is_live as is_live_spot}
use Rattle.schedule_model.specs.Schedule.{places}
use Rattle.schedule_model.specs.Puts.{by_deadline, is_to_run, put_by}
use Rattle.ref_model.specs.State.{JavaThread, State}
use Rattle.ref_model.specs.Ending.{ending}
use Rattle.ref_model.specs.Waiting.{is_reached, phase_at_time, status_at_time, thread_at_time}
use Rattle.ref_model.specs.Enabled.{enabled, has_ended, is_free, is_ready}
use Rattle.ref_model.specs.Looks.{deadline_in, look_of, spot_in, spot_of}
use Rattle.schedule_soundness.specs.TimeLaws.{TicksLeaveThreads, IsDue, TicksPutWhoIsDue}
use Rattle.schedule_soundness.proofs.OtherMoves.{time_is}
use Rattle.schedule_soundness.proofs.LookLaws.{ready_at, spot_at}
use Rattle.schedule_soundness.proofs.Placed.{dead_off}
use Rattle.schedule_soundness.proofs.PutLaws.{kept_runs, unplaced_waits}
use Rattle.schedule_soundness.proofs.DeadlineOrder.{filter_by_deadline}

-- ---- the threads stay

pub still_phase : (now : ℕ) (phase : Phase) → is_in_wait_list (spot_in phase) ≡ false → phase_at_time now phase ≡ phase
still_phase now (Waiting o count deadline) e = absurd cc
still_phase now phase e = refl

pub still_status : (now : ℕ) (status : Status) → is_in_wait_list (spot_of status) ≡ false → status_at_time now status ≡ status
still_status now New e = refl
still_status now (Live phase) e = ap (λ x. Live x) (still_phase now phase e)
still_status now Done e = refl

still_thread : (now : ℕ) (x : JavaThread) → is_in_wait_list (spot_of x.thread.status) ≡ false → thread_at_time now x ≡ x
still_thread now x e = ap (λ s. record x { thread = record x.thread { status = s } }) (still_status now x.thread.status e)

still_threads : (now : ℕ) (xs : List JavaThread)
    → ((t : ℕ) (x : JavaThread) → slice_get xs t ≡ Some x → is_in_wait_list (spot_of x.thread.status) ≡ false)
    → map (thread_at_time now) xs ≡ xs
still_threads now [] each = refl
still_threads now (x ∷ xs) each =
    ap (λ y. y ∷ map (thread_at_time now) xs) (still_thread now x (each 0 x refl))
    ∙ ap (λ ys. x ∷ ys) (still_threads now xs (λ t y at. each (suc t) y at))

pub ticks_leave_threads : TicksLeaveThreads
ticks_leave_threads r now later nobody =
    ap (λ b. if b then Some (record r { now = now; threads = map (thread_at_time now) r.threads }) else None) (lt-ltb r.now now later)
    ∙ ap (λ xs. Some (record r { now = now; threads = xs })) (still_threads now r.threads nobody)

-- ---- who may go on by time alone

-- a deadline that was to come, and is reached now
abbrev pub reaches : ℕ → ℕ → Option ℕ → Bool
reaches old now None = false
reaches old now (Some deadline) = nat_lt old deadline && nat_le deadline now

pub reached_now : (old now : ℕ) (deadline : Option ℕ) → is_reached old deadline ≡ false → is_reached now deadline ≡ reaches old now deadline
reached_now old now None off = refl
reached_now old now (Some deadline) off = sym (ap (λ b. b && nat_le deadline now) (lt-ltb old deadline (leb-false deadline old off)))

pub or_rest : (a b c d : Bool) → (a || b) ≡ false → (b ≡ false → c ≡ d) → (a || c) ≡ d
or_rest true b c d off rest = absurd cc
or_rest false b c d off rest = rest off

-- a thread that wasn't ready, and is, is due
pub made : (was now due : Bool) → was ≡ false → now ≡ due → (not was && (now && true)) ≡ due
made was now due off is = ap (λ b. not b && (now && true)) off ∙ and-true now ∙ is

pub in_line_off : (was now : Bool) → (not was && (now && false)) ≡ false
in_line_off was now = and_right (not was) (now && false) (and_right now false refl)

pub due_status : (r : State) (now : ℕ) (x : JavaThread) (status : Status) → is_in_wait_list (spot_of status) ≡ false
    → (is_in_line (spot_of status) ≡ false → is_ready r x status ≡ false)
    → (not (is_ready r x status) && (is_ready (record r { now = now }) x status && not (is_in_line (spot_of status))))
    ≡ reaches r.now now (deadline_in status)
due_status r now x New nobody off = refl
due_status r now x Done nobody off = refl
due_status r now x (Live Run) nobody off = let z : true ≡ false = off refl in absurd cc
due_status r now x (Live (Throwing o)) nobody off = let z : true ≡ false = off refl in absurd cc
due_status r now x (Live (Entering o)) nobody off = in_line_off (is_free r o) (is_free r o)
due_status r now x (Live (Waiting o count deadline)) nobody off = absurd cc
due_status r now x (Live (Reenter o count wake)) nobody off = in_line_off (is_free r o) (is_free r o)
due_status r now x (Live (Parked deadline)) nobody off =
    let was : (x.permit || (x.interrupted || is_reached r.now deadline)) ≡ false = off refl in
    made (x.permit || (x.interrupted || is_reached r.now deadline)) (x.permit || (x.interrupted || is_reached now deadline)) _ was
    (or_rest x.permit (x.interrupted || is_reached r.now deadline) (x.interrupted || is_reached now deadline) _ was
    (λ e. or_rest x.interrupted (is_reached r.now deadline) (is_reached now deadline) _ e (reached_now r.now now deadline)))
due_status r now x (Live (Asleep deadline)) nobody off =
    let was : (x.interrupted || is_reached r.now (Some deadline)) ≡ false = off refl in
    made (x.interrupted || is_reached r.now (Some deadline)) (x.interrupted || is_reached now (Some deadline)) _ was
    (or_rest x.interrupted (is_reached r.now (Some deadline)) (is_reached now (Some deadline)) _ was
    (reached_now r.now now (Some deadline)))
due_status r now x (Live (Joining u deadline)) nobody off =
    let was : (has_ended r u || (x.interrupted || is_reached r.now deadline)) ≡ false = off refl in
    made (has_ended r u || (x.interrupted || is_reached r.now deadline)) (has_ended r u || (x.interrupted || is_reached now deadline)) _ was
    (or_rest (has_ended r u) (x.interrupted || is_reached r.now deadline) (x.interrupted || is_reached now deadline) _ was
    (λ e. or_rest x.interrupted (is_reached r.now deadline) (is_reached now deadline) _ e (reached_now r.now now deadline)))

pub enabled_is : (r : State) (t : ℕ) (x : JavaThread) → ending r ≡ None → slice_get r.threads t ≡ Some x
    → enabled r t ≡ is_ready r x x.thread.status
enabled_is r t x goes at = ap (λ o. is_none o && ready_at r (slice_get r.threads t)) goes ∙ ap (ready_at r) at

abbrev pub deadline_at : Option JavaThread → Option ℕ
deadline_at o = option_map_or (λ (x : JavaThread). deadline_in x.thread.status) o None

-- ---- who is put

pub filter_both : (p q : ℕ → Bool) (xs : List ℕ) → filter (λ t. p t && q t) xs ≡ filter q (filter p xs)
filter_both p q [] = refl
filter_both p q (x ∷ xs) =
    elim (cases_Bool (p x)) [
      | inl e ↦
          ap (λ b. cond (b && q x) (x ∷ filter (λ t. p t && q t) xs) (filter (λ t. p t && q t) xs)) e
          ∙ ap (λ ys. cond (q x) (x ∷ ys) ys) (filter_both p q xs)
          ∙ sym (ap (λ b. filter q (cond b (x ∷ filter p xs) (filter p xs))) e)
      | inr e ↦
          ap (λ b. cond (b && q x) (x ∷ filter (λ t. p t && q t) xs) (filter (λ t. p t && q t) xs)) e
          ∙ filter_both p q xs ∙ sym (ap (λ b. filter q (cond b (x ∷ filter p xs) (filter p xs))) e)
    ]

pub ticks_put_who_is_due : TicksPutWhoIsDue
ticks_put_who_is_due p first v q now lists due a goes tick nobody these =
    subst PutsThese now_is
    (filter_agree (λ t. runs t && unplaced t) (λ t. is_due t && unplaced t) (λ t. by t (eqb_tells (places t v.schedule) 0)) order
    ∙ filter_both is_due unplaced order
    ∙ ap (filter unplaced) (filter_by_deadline before after is_due due these.in_order these.once pass all))
  where
    w : World
    w = p.world

    r : State
    r = v.state

    later : State
    later = record r { now = now }

    before : Look
    before = look_of w r

    after : Look
    after = look_of w later

    order : List ℕ
    order = by_deadline before after

    runs : ℕ → Bool
    runs = is_to_run before after lists

    unplaced : ℕ → Bool
    unplaced = λ t. places t v.schedule == 0

    is_due : ℕ → Bool
    is_due = λ t. reaches r.now now (deadline_at (slice_get r.threads t))

    PutsThese : State → Type 0
    PutsThese s = put_by before (look_of w s) lists v.schedule (by_deadline before (look_of w s)) ≡ filter unplaced due

    -- the tick leaves the threads
    now_is : later ≡ q
    now_is =
        let is = time_is r q now tick in
        same (sym (ticks_leave_threads r now (ltb-true r.now now is.0) nobody) ∙ tick)
      where
        same : Some later ≡ Some q → later ≡ q
        same e = cc

    -- who is in no place is put where it is due
    runs_due : (t : ℕ) → places t v.schedule ≡ 0 → (o : Option JavaThread) → slice_get r.threads t ≡ o → runs t ≡ is_due t
    runs_due t none None at =
        dead_off w r later lists t (ap (λ o. is_live_spot (spot_at o)) at) ∙ sym (ap (λ o. reaches r.now now (deadline_at o)) at)
    runs_due t none (Some x) at =
        let status = x.thread.status in
        let spot : before.spot t ≡ spot_of status = ap spot_at at in
        let was = enabled_is r t x goes at in
        let is = enabled_is later t x goes at in
        kept_runs w r later lists t x x refl at at refl
        ∙ ap (λ b. not b && (enabled later t && not (is_in_line (after.spot t)))) was
        ∙ ap (λ b. not (is_ready r x status) && (b && not (is_in_line (after.spot t)))) is
        ∙ ap (λ s. not (is_ready r x status) && (is_ready later x status && not (is_in_line s))) spot
        ∙ due_status r now x status (nobody t x at)
        (λ free. sym was ∙ unplaced_waits p first v t a goes none (ap is_in_line spot ∙ free))
        ∙ sym (ap (λ o. reaches r.now now (deadline_at o)) at)

    by : (t : ℕ) → ((eqb (places t v.schedule) 0 ≡ true) × (places t v.schedule ≡ 0))
        ⊎ ((eqb (places t v.schedule) 0 ≡ false) × (places t v.schedule ≢ 0)) → (runs t && unplaced t) ≡ (is_due t && unplaced t)
    by t (inl none) = ap (λ b. b && unplaced t) (runs_due t none.1 (slice_get r.threads t) refl)
    by t (inr some) = and_right (runs t) (unplaced t) some.0 ∙ sym (and_right (is_due t) (unplaced t) some.0)

    due_at : (t : ℕ) → IsDue before now t → is_due t ≡ true
    due_at t h =
        ap (reaches r.now now) h.has
        ∙ and_from (nat_lt r.now h.deadline) (nat_le h.deadline now) (lt-ltb r.now h.deadline h.to_come) (le-leb h.deadline now h.reached)

    at_due : (t : ℕ) (o : Option ℕ) → before.deadline t ≡ o → reaches r.now now o ≡ true → IsDue before now t
    at_due t None at e = absurd cc
    at_due t (Some deadline) at e =
        let parts = and_parts (nat_lt r.now deadline) (nat_le deadline now) e in
        record {
          deadline = deadline;
          has = at;
          to_come = ltb-true r.now deadline parts.0;
          reached = leb-true deadline now parts.1;
        }

    made_then : (t : ℕ) (o : Option JavaThread) → slice_get r.threads t ≡ o → IsDue before now t → t < after.threads
    made_then t None at h = let z : None ≡ Some h.deadline = sym (ap deadline_at at) ∙ h.has in absurd cc
    made_then t (Some x) at h = slice_get_within r.threads t x at

    pass : (t : ℕ) → 0 < count t due → (t < after.threads) × (is_due t ≡ true)
    pass t there = let h = (these.just t).0 (contained t due there) in (made_then t (slice_get r.threads t) refl h, due_at t h)

    all : (t : ℕ) → is_due t ≡ true → 0 < count t due
    all t e = counted t due ((these.just t).1 (at_due t (before.deadline t) refl e))
