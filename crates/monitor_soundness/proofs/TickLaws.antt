-- What a tick of time makes of the lists of monitors, and whom it puts.
use Rattle.std.proofs.Common.{◌≡◌, ◌≢◌, ◌⊎◌, inl, inr, eqb, ◌==◌, ◌<◌, ◌≤◌, ℕ, Bool, true, false, List, [], ◌∷◌, ◌++◌, append-nil, append_assoc, length, map, Option, Some, None, refl, ap, sym, subst, ◌∙◌, ◌&&◌, ◌||◌, not, arith, cond}
use Rattle.std.specs.Prelude.{nat_le, nat_lt, slice_get}
use Rattle.std.specs.List.{filter}
use Rattle.std.proofs.lemmas.Bool.{and_from, and_parts, and_right, cases_Bool, le-leb, leb-true, lt-ltb, ltb-true, ne_eqb}
use Rattle.std.proofs.lemmas.Bool.Decides.{eqb_tells}
use Rattle.std.proofs.lemmas.List.Elements.{filter_agree}
use Rattle.std.proofs.lemmas.Option.{slice_get_within}
use mathlib.Core.Bool.{and-true}
use Rattle.thread_lists.specs.Lists.{count, without}
use Rattle.thread_lists.proofs.CountLaws.{count-here, count-other}
use Rattle.vthread_state.specs.declared.phase.Phase.TheVariants.{Run, Throwing, Entering, Waiting, Reenter, Parked, Asleep, Joining}
use Rattle.vthread_state.specs.declared.phase.Wake.TheVariants.{TimedOut}
use Rattle.vthread_state.specs.declared.thread.Status.{Status}
use Rattle.vthread_state.specs.declared.thread.Status.TheVariants.{New, Live, Done}
use Rattle.vthread_state.proofs.RisingLaws.{contained, counted}
use Rattle.link_model.specs.World.{World}
use Rattle.schedule_model.specs.Look.{Look, Spot, absent, unstarted, in_no_list, in_wait_list, in_entry_list, done, is_entering, is_in_line, is_in_wait_list, is_live as is_live_spot, is_waiting}
use Rattle.schedule_model.specs.Schedule.{Schedule, places}
use Rattle.schedule_model.specs.Puts.{by_deadline, is_next_in_line, is_to_run, put_by, updated_list}
use Rattle.schedule_model.specs.Run.{Scheduled}
use Rattle.schedule_model.specs.Woken.{AreListed}
use Rattle.schedule_model.proofs.ListLaws.{count-filter_le}
use Rattle.ref_model.specs.Setting.{Setting}
use Rattle.ref_model.specs.State.{JavaThread, State}
use Rattle.ref_model.specs.Ending.{ending}
use Rattle.ref_model.specs.Waiting.{is_reached, status_woken, thread_at_time}
use Rattle.ref_model.specs.Enabled.{enabled, is_ready}
use Rattle.ref_model.specs.Looks.{deadline_in, look_of, spot_of}
use Rattle.schedule_soundness.specs.HistoryLaws.{IsProgramAfter}
use Rattle.schedule_soundness.specs.TimeLaws.{AreDue, IsDue}
use Rattle.schedule_soundness.proofs.LookLaws.{spot_at}
use Rattle.schedule_soundness.proofs.Placed.{dead_off}
use Rattle.schedule_soundness.proofs.PutLaws.{kept_runs, unplaced_waits}
use Rattle.schedule_soundness.proofs.TimeLaws as in_time
use Rattle.schedule_soundness.proofs.DeadlineOrder.{filter_by_deadline}
use Rattle.schedule_soundness.proofs.TimeLaws.{deadline_at, enabled_is, filter_both, made, reaches}
use Rattle.monitor_soundness.specs.TickLaws.{NoWaitIsOver, TicksMoveTheDue, TicksPutTheDue, left_by, lined_up_by}
use Rattle.monitor_soundness.proofs.Filters.{filter_all, filter_in}
use Rattle.monitor_soundness.proofs.ListLaws.{all_kept, only_kept, was_there}
use Rattle.monitor_soundness.proofs.Stays.{no_both, same_status_runs}
use Rattle.monitor_soundness.proofs.MonitorPuts.{line_enabled, moved_runs}
use Rattle.monitor_soundness.proofs.Times.{Timed, wakes, waits, is_other, at_later, ended_then, ending_then, later, none_then, other_then, there_then, timed, waits_then, woken_then}

abbrev pub is_due : State → ℕ → ℕ → Bool
is_due r now t = reaches r.now now (deadline_at (slice_get r.threads t))

-- ---- those that are due

module _ (w : World) (r : State) (now : ℕ) (due : List ℕ) (these : AreDue (look_of w r) now due) where
  due_at : (t : ℕ) → IsDue (look_of w r) now t → is_due r now t ≡ true
  due_at t h =
      ap (reaches r.now now) h.has
      ∙ and_from (nat_lt r.now h.deadline) (nat_le h.deadline now) (lt-ltb r.now h.deadline h.to_come) (le-leb h.deadline now h.reached)

  at_due : (t : ℕ) (o : Option ℕ) → (look_of w r).deadline t ≡ o → reaches r.now now o ≡ true → IsDue (look_of w r) now t
  at_due t None at e = absurd cc
  at_due t (Some deadline) at e =
      let parts = and_parts (nat_lt r.now deadline) (nat_le deadline now) e in
      record {
        deadline = deadline;
        has = at;
        to_come = ltb-true r.now deadline parts.0;
        reached = leb-true deadline now parts.1;
      }

  made_then : (t : ℕ) (m : Option JavaThread) → slice_get r.threads t ≡ m → IsDue (look_of w r) now t → t < length (map (thread_at_time now) r.threads)
  made_then t None at h = let z : None ≡ Some h.deadline = sym (ap deadline_at at) ∙ h.has in absurd cc
  made_then t (Some x) at h = slice_get_within (map (thread_at_time now) r.threads) t (thread_at_time now x) (there_then r now t x at)

  pub there_due : (t : ℕ) → 0 < count t due → is_due r now t ≡ true
  there_due t there = due_at t ((these.just t).0 (contained t due there))

  pub due_there : (t : ℕ) → is_due r now t ≡ true → 0 < count t due
  due_there t e = counted t due ((these.just t).1 (at_due t ((look_of w r).deadline t) refl e))

  -- they are those of all threads that are due, in their order
  pub due_is : filter (is_due r now) (by_deadline (look_of w r) (look_of w (later r now))) ≡ due
  due_is =
      filter_by_deadline (look_of w r) (look_of w (later r now)) (is_due r now) due these.in_order these.once
      (λ t there. (made_then t (slice_get r.threads t) refl ((these.just t).0 (contained t due there)), there_due t there)) due_there

-- ---- where threads go

-- a due thread that waits on a monitor comes in line for it, and every other is where it was
pub data Goes (w : World) (r : State) (now t : ℕ) : Type 0 where
  lines_up : (o : ℕ) → is_due r now t ≡ true → (look_of w r).spot t ≡ in_wait_list o → (look_of w (later r now)).spot t ≡ in_entry_list o →
      Goes w r now t
  stays : (is_due r now t ≡ false) ⊎ (is_in_wait_list ((look_of w r).spot t) ≡ false) →
      (look_of w (later r now)).spot t ≡ (look_of w r).spot t → Goes w r now t

pub goes : (w : World) (r : State) (now t : ℕ) → NoWaitIsOver r → Goes w r now t
goes w r now t open_waits = by (slice_get r.threads t) refl
  where
    reached_off : (deadline : Option ℕ) → is_reached now deadline ≡ false → reaches r.now now deadline ≡ false
    reached_off None e = refl
    reached_off (Some deadline) e = and_right (nat_lt r.now deadline) (nat_le deadline now) e

    there : (x : JavaThread) → slice_get r.threads t ≡ Some x → Timed r now x → Goes w r now t
    there x at (wakes o n deadline is coming reached) =
        lines_up o
        (ap (λ m. reaches r.now now (deadline_at m)) at ∙ ap (λ s. reaches r.now now (deadline_in s)) is
        ∙ and_from (nat_lt r.now deadline) (nat_le deadline now) (lt-ltb r.now deadline coming) (le-leb deadline now reached))
        (ap spot_at at ∙ ap spot_of is)
        (ap spot_at (there_then r now t x at) ∙ ap (λ (y : JavaThread). spot_of y.thread.status) (woken_then now x o n deadline is reached)
        ∙ ap (λ s. spot_of (status_woken TimedOut s)) is)
    there x at (waits o n deadline is off) =
        stays (inl (ap (λ m. reaches r.now now (deadline_at m)) at ∙ ap (λ s. reaches r.now now (deadline_in s)) is ∙ reached_off deadline off))
        (ap spot_at (there_then r now t x at) ∙ ap (λ (y : JavaThread). spot_of y.thread.status) (waits_then now x o n deadline is off) ∙ sym (ap spot_at at))
    there x at (is_other loose) =
        stays (inr (ap (λ m. is_in_wait_list (spot_at m)) at ∙ loose))
        (ap spot_at (there_then r now t x at) ∙ ap (λ (y : JavaThread). spot_of y.thread.status) (other_then now x loose) ∙ sym (ap spot_at at))

    by : (m : Option JavaThread) → slice_get r.threads t ≡ m → Goes w r now t
    by None at = stays (inl (ap (λ m. reaches r.now now (deadline_at m)) at)) (ap spot_at (none_then r now t at) ∙ sym (ap spot_at at))
    by (Some x) at = there x at (timed r now t x open_waits at)

-- ---- the lists of monitors

wait_list_off : (o : ℕ) (x : Spot) → is_in_wait_list x ≡ false → is_waiting o x ≡ false
wait_list_off o absent e = refl
wait_list_off o unstarted e = refl
wait_list_off o in_no_list e = refl
wait_list_off o (in_wait_list n) e = absurd cc
wait_list_off o (in_entry_list n) e = refl
wait_list_off o done e = refl

neither : (b : Bool) → (b && not b) ≡ false
neither true = refl
neither false = refl

module _ (w : World) (r : State) (now o : ℕ) (open_waits : NoWaitIsOver r) where
  abbrev before : Look
  before = look_of w r

  abbrev after : Look
  after = look_of w (later r now)

  -- who waits still does where it isn't due
  waits_still : (t : ℕ) → Goes w r now t → is_waiting o (after.spot t) ≡ (is_waiting o (before.spot t) && not (is_due r now t))
  waits_still t (lines_up n due was is) =
      ap (is_waiting o) is ∙ sym (and_right (is_waiting o (before.spot t)) (not (is_due r now t)) (ap not due))
  waits_still t (stays (inl off) same) =
      ap (is_waiting o) same ∙ sym (ap (λ b. is_waiting o (before.spot t) && not b) off ∙ and-true (is_waiting o (before.spot t)))
  waits_still t (stays (inr free) same) =
      let none = wait_list_off o (before.spot t) free in
      ap (is_waiting o) same ∙ none ∙ sym (ap (λ b. b && not (is_due r now t)) none)

  -- who comes in line waited, and is due
  comes_due : (t : ℕ) → Goes w r now t
      → (is_entering o (after.spot t) && not (is_entering o (before.spot t))) ≡ (is_due r now t && is_waiting o (before.spot t))
  comes_due t (lines_up n due was is) =
      ap (λ x. is_entering o x && not (is_entering o (before.spot t))) is ∙ ap (λ x. (n == o) && not (is_entering o x)) was
      ∙ and-true (n == o) ∙ sym (ap (λ b. b && is_waiting o (before.spot t)) due ∙ ap (is_waiting o) was)
  comes_due t (stays (inl off) same) =
      ap (λ x. is_entering o x && not (is_entering o (before.spot t))) same ∙ neither (is_entering o (before.spot t))
      ∙ sym (ap (λ b. b && is_waiting o (before.spot t)) off)
  comes_due t (stays (inr free) same) =
      ap (λ x. is_entering o x && not (is_entering o (before.spot t))) same ∙ neither (is_entering o (before.spot t))
      ∙ sym (and_right (is_due r now t) (is_waiting o (before.spot t)) (wait_list_off o (before.spot t) free))

  -- who is in line stays there
  enters_still : (t : ℕ) → Goes w r now t → is_entering o (before.spot t) ≡ true → is_entering o (after.spot t) ≡ true
  enters_still t (lines_up n due was is) e = let z : false ≡ true = sym (ap (is_entering o) was) ∙ e in absurd cc
  enters_still t (stays why same) e = ap (is_entering o) same ∙ e

  -- ---- one after the other

  -- a list of threads that wait, without one of them or another
  without_is : (u : ℕ) (list : List ℕ) → ((t : ℕ) → 0 < count t list → is_waiting o (before.spot t) ≡ true)
      → cond (is_waiting o (before.spot u)) (without u list) list ≡ without u list
  without_is u list all =
      elim (cases_Bool (is_waiting o (before.spot u))) [
        | inl e ↦ ap (λ b. cond b (without u list) list) e
        | inr e ↦
            ap (λ b. cond b (without u list) list) e
            ∙ sym (filter_all (λ t. not (t == u)) list (λ t there. ap not (ne_eqb t u (λ same.
            no_both (is_waiting o (before.spot t)) (all t there) (ap (λ n. is_waiting o (before.spot n)) same ∙ e)))))
      ]

  not_among : (t u : ℕ) (us : List ℕ) → (not (t == u) && (count t us == 0)) ≡ (count t (u ∷ us) == 0)
  not_among t u us =
      elim (eqb_tells t u) [
        | inl same ↦
            ap (λ b. not b && (count t us == 0)) same.0
            ∙ sym (ne_eqb (count t (u ∷ us)) 0 (λ none. absurd (omega (arith, none, subst (λ n. 0 < count t (n ∷ us)) same.1 (count-here t us)))))
        | inr other ↦
            ap (λ b. not b && (count t us == 0)) other.0
            ∙ sym (ap (λ n. n == 0) (count-other t u us (λ same. other.1 (sym same))))
      ]

  all_leave : (us list : List ℕ) → ((t : ℕ) → 0 < count t list → is_waiting o (before.spot t) ≡ true)
      → left_by before o us list ≡ filter (λ t. count t us == 0) list
  all_leave [] list all = sym (filter_all (λ t. count t [] == 0) list (λ t there. refl))
  all_leave (u ∷ us) list all =
      ap (left_by before o us) (without_is u list all)
      ∙ all_leave us (without u list) (λ t there. all t (omega (arith, there, count-filter_le t (λ x. not (x == u)) list)))
      ∙ sym (filter_both (λ t. not (t == u)) (λ t. count t us == 0) list)
      ∙ filter_in (λ t. not (t == u) && (count t us == 0)) (λ t. count t (u ∷ us) == 0) list (λ t there. not_among t u us)

  all_line_up : (us list : List ℕ) → lined_up_by before o us list ≡ list ++ filter (λ u. is_waiting o (before.spot u)) us
  all_line_up [] list = sym (append-nil list)
  all_line_up (u ∷ us) list =
      all_line_up us (cond (is_waiting o (before.spot u)) (list ++ u ∷ []) list) ∙ by (is_waiting o (before.spot u))
    where
      rest : List ℕ
      rest = filter (λ u. is_waiting o (before.spot u)) us

      by : (b : Bool) → cond b (list ++ u ∷ []) list ++ rest ≡ list ++ cond b (u ∷ rest) rest
      by true = append_assoc list (u ∷ []) rest
      by false = refl

  -- ---- the lists after the tick

  module _ (due : List ℕ) (these : AreDue (look_of w r) now due) (s : Schedule) (listed : AreListed (look_of w r) s) where
    abbrev order : List ℕ
    order = by_deadline (look_of w r) (look_of w (later r now))

    not_due : (t : ℕ) → not (is_due r now t) ≡ (count t due == 0)
    not_due t =
        elim (cases_Bool (is_due r now t)) [
          | inl e ↦
              ap not e ∙ sym (ne_eqb (count t due) 0 (λ none. absurd (omega (arith, none, due_there w r now due these t e))))
          | inr e ↦
              ap not e ∙ sym (none t e)
        ]
      where
        none : (t : ℕ) → is_due r now t ≡ false → (count t due == 0) ≡ true
        none t e =
            elim (eqb_tells (count t due) 0) [
              | inl zero_times ↦ zero_times.0
              | inr some ↦ absurd (no_both (is_due r now t) (there_due w r now due these t (omega (arith, some.1))) e)
            ]

    pub waits_after : updated_list (is_waiting o) before after order (s.wait_list o) ≡ left_by before o due (s.wait_list o)
    waits_after =
        only_kept (is_waiting o) before after order (s.wait_list o) (λ t. listed.waits t o) (λ t there. off t)
        ∙ filter_in (λ t. is_waiting o (after.spot t)) (λ t. count t due == 0) (s.wait_list o) (λ t there. still t there)
        ∙ sym (all_leave due (s.wait_list o) (λ t there. waited t there))
      where
        waited : (t : ℕ) → 0 < count t (s.wait_list o) → is_waiting o (before.spot t) ≡ true
        waited t there = was_there (is_waiting o) before after order (s.wait_list o) (λ u. listed.waits u o) t there

        both : (a b : Bool) → ((a && b) && not a) ≡ false
        both true true = refl
        both true false = refl
        both false b = refl

        off : (t : ℕ) → (is_waiting o (after.spot t) && not (is_waiting o (before.spot t))) ≡ false
        off t =
            ap (λ b. b && not (is_waiting o (before.spot t))) (waits_still t (goes w r now t open_waits))
            ∙ both (is_waiting o (before.spot t)) (not (is_due r now t))

        still : (t : ℕ) → 0 < count t (s.wait_list o) → is_waiting o (after.spot t) ≡ (count t due == 0)
        still t there =
            waits_still t (goes w r now t open_waits) ∙ ap (λ b. b && not (is_due r now t)) (waited t there) ∙ not_due t

    pub enters_after : updated_list (is_entering o) before after order (s.entry_list o)
        ≡ lined_up_by before o due (s.entry_list o)
    enters_after =
        all_kept (is_entering o) before after order (s.entry_list o) (λ t. listed.enters t o)
        (λ t there. enters_still t (goes w r now t open_waits) (was_there (is_entering o) before after order (s.entry_list o) (λ u. listed.enters u o) t there))
        ∙ ap (λ xs. s.entry_list o ++ xs)
        (filter_agree (λ t. is_entering o (after.spot t) && not (is_entering o (before.spot t)))
        (λ t. is_due r now t && is_waiting o (before.spot t)) (λ t. comes_due t (goes w r now t open_waits)) order
        ∙ filter_both (is_due r now) (λ t. is_waiting o (before.spot t)) order
        ∙ ap (filter (λ t. is_waiting o (before.spot t))) (due_is w r now due these))
        ∙ sym (all_line_up due (s.entry_list o))

pub ticks_move_the_due : TicksMoveTheDue
ticks_move_the_due w r q s now o due listed tick open_waits these =
    at_later r q now
    (λ (z : State).
    (updated_list (is_waiting o) (look_of w r) (look_of w z) (by_deadline (look_of w r) (look_of w z)) (s.wait_list o) ≡
    left_by (look_of w r) o due (s.wait_list o)) ×
    (updated_list (is_entering o) (look_of w r) (look_of w z) (by_deadline (look_of w r) (look_of w z)) (s.entry_list o) ≡
    lined_up_by (look_of w r) o due (s.entry_list o)))
    tick (waits_after w r now o open_waits due these s listed, enters_after w r now o open_waits due these s listed)

-- ---- who is put

-- the time alone decides whether a thread may step then
ready_then : (r : State) (now : ℕ) (x : JavaThread) (status : Status) → is_ready (later r now) x status ≡ is_ready (record r { now = now }) x status
ready_then r now x New = refl
ready_then r now x Done = refl
ready_then r now x (Live Run) = refl
ready_then r now x (Live (Throwing o)) = refl
ready_then r now x (Live (Entering o)) = refl
ready_then r now x (Live (Waiting o count deadline)) = refl
ready_then r now x (Live (Reenter o count wake)) = refl
ready_then r now x (Live (Parked deadline)) = refl
ready_then r now x (Live (Asleep deadline)) = refl
ready_then r now x (Live (Joining u deadline)) = ap (λ b. b || (x.interrupted || is_reached now deadline)) (ended_then r now u)

-- a thread that doesn't wait on a monitor, and that no wake-up was owed, may go on by time alone where it is due
due_status : (r : State) (now : ℕ) (x : JavaThread) (status : Status) → is_in_wait_list (spot_of status) ≡ false
    → (is_in_line (spot_of status) ≡ false → is_ready r x status ≡ false)
    → (not (is_ready r x status) && (is_ready (later r now) x status && not (is_in_line (spot_of status))))
    ≡ reaches r.now now (deadline_in status)
due_status r now x status other off =
    ap (λ b. not (is_ready r x status) && (b && not (is_in_line (spot_of status)))) (ready_then r now x status)
    ∙ in_time.due_status r now x status other off

-- who was made enabled may step
made_both : (a b c due : Bool) → (not a && (b && c)) ≡ due → (not a && (b && c)) ≡ (due && b)
made_both true b c due e = ap (λ d. d && b) e
made_both false true c due e = e ∙ sym (and-true due)
made_both false false c due e = sym (and_right due false refl)

module _ (p : Setting) (first : State) (v : Scheduled State) (now : ℕ) (lists : ℕ → List ℕ) (after_history : IsProgramAfter p first v)
    (going : ending v.state ≡ None) (open_waits : NoWaitIsOver v.state) where
  abbrev r : State
  r = v.state

  abbrev runs : ℕ → Bool
  runs = is_to_run (look_of p.world v.state) (look_of p.world (later v.state now)) lists

  goes_then : ending (later v.state now) ≡ None
  goes_then = ending_then v.state now ∙ going

  -- a thread that waits on a monitor, and isn't due
  waits_off : (t o count : ℕ) (deadline : Option ℕ) (x : JavaThread) → slice_get r.threads t ≡ Some x
      → x.thread.status ≡ Live (Waiting o count deadline) → is_reached now deadline ≡ false → runs t ≡ false
  waits_off t o count deadline x at is off =
      let there : slice_get (later r now).threads t ≡ Some x =
      there_then r now t x at ∙ ap (λ y. Some y) (waits_then now x o count deadline is off) in
      let enabled_off : (look_of p.world (later r now)).enabled t ≡ false =
      enabled_is (later r now) t x goes_then there ∙ ap (is_ready (later r now) x) is in
      same_status_runs p.world r (later r now) lists t x x at there refl
      (ap (λ b. not ((look_of p.world r).enabled t) && (b && not (is_in_line ((look_of p.world (later r now)).spot t)))) enabled_off
      ∙ and_right (not ((look_of p.world r).enabled t)) false refl)
      ∙ ap (is_next_in_line (look_of p.world r) (look_of p.world (later r now)) lists t) (ap spot_at there ∙ ap spot_of is)

  -- one whose wait ends
  wakes_runs : (t o count deadline : ℕ) (x : JavaThread) → slice_get r.threads t ≡ Some x
      → x.thread.status ≡ Live (Waiting o count (Some deadline)) → deadline ≤ now → runs t ≡ enabled (later r now) t
  wakes_runs t o count deadline x at is reached =
      let spot : (look_of p.world (later r now)).spot t ≡ in_entry_list o =
      ap spot_at (there_then r now t x at) ∙ ap (λ (y : JavaThread). spot_of y.thread.status) (woken_then now x o count deadline is reached)
      ∙ ap (λ s. spot_of (status_woken TimedOut s)) is in
      moved_runs p.world r (later r now) lists t o refl (ap spot_at at ∙ ap spot_of is) spot
      ∙ sym (line_enabled p.world (later r now) t o goes_then spot)

  -- one that doesn't wait on a monitor, and is in no place
  other_runs : (t : ℕ) (x : JavaThread) → places t v.schedule ≡ 0 → slice_get r.threads t ≡ Some x
      → is_in_wait_list (spot_of x.thread.status) ≡ false → runs t ≡ (is_due r now t && enabled (later r now) t)
  other_runs t x none at loose =
      let there : slice_get (later r now).threads t ≡ Some x =
      there_then r now t x at ∙ ap (λ y. Some y) (other_then now x loose) in
      let was = enabled_is r t x going at in
      let is = enabled_is (later r now) t x goes_then there in
      kept_runs p.world r (later r now) lists t x x refl at there refl
      ∙ made_both ((look_of p.world r).enabled t) (enabled (later r now) t) (not (is_in_line ((look_of p.world (later r now)).spot t))) (is_due r now t)
      (ap (λ b. not b && (enabled (later r now) t && not (is_in_line ((look_of p.world (later r now)).spot t)))) was
      ∙ ap (λ b. not (is_ready r x x.thread.status) && (b && not (is_in_line ((look_of p.world (later r now)).spot t)))) is
      ∙ ap (λ s. not (is_ready r x x.thread.status) && (is_ready (later r now) x x.thread.status && not (is_in_line s))) (ap spot_at there)
      ∙ due_status r now x x.thread.status loose
      (λ free. sym was ∙ unplaced_waits p first v t after_history going none (ap (λ m. is_in_line (spot_at m)) at ∙ free))
      ∙ sym (ap (λ m. reaches r.now now (deadline_at m)) at))

  reached_off : (deadline : Option ℕ) → is_reached now deadline ≡ false → reaches r.now now deadline ≡ false
  reached_off None e = refl
  reached_off (Some deadline) e = and_right (nat_lt r.now deadline) (nat_le deadline now) e

  thread_runs : (t : ℕ) (x : JavaThread) → places t v.schedule ≡ 0 → slice_get r.threads t ≡ Some x → Timed r now x
      → runs t ≡ (is_due r now t && enabled (later r now) t)
  thread_runs t x none at (wakes o count deadline is coming reached) =
      wakes_runs t o count deadline x at is reached
      ∙ sym (ap (λ b. b && enabled (later r now) t)
      (ap (λ m. reaches r.now now (deadline_at m)) at ∙ ap (λ s. reaches r.now now (deadline_in s)) is
      ∙ and_from (nat_lt r.now deadline) (nat_le deadline now) (lt-ltb r.now deadline coming) (le-leb deadline now reached)))
  thread_runs t x none at (waits o count deadline is off) =
      waits_off t o count deadline x at is off
      ∙ sym (ap (λ b. b && enabled (later r now) t)
      (ap (λ m. reaches r.now now (deadline_at m)) at ∙ ap (λ s. reaches r.now now (deadline_in s)) is ∙ reached_off deadline off))
  thread_runs t x none at (is_other loose) = other_runs t x none at loose

  -- who is in no place is to run where it is due and may step then
  runs_due : (t : ℕ) → places t v.schedule ≡ 0 → (m : Option JavaThread) → slice_get r.threads t ≡ m
      → runs t ≡ (is_due r now t && enabled (later r now) t)
  runs_due t none None at =
      dead_off p.world r (later r now) lists t (ap (λ m. is_live_spot (spot_at m)) (none_then r now t at))
      ∙ sym (ap (λ m. reaches r.now now (deadline_at m) && enabled (later r now) t) at)
  runs_due t none (Some x) at = thread_runs t x none at (timed r now t x open_waits at)

  pub due_puts : (due : List ℕ) → AreDue (look_of p.world v.state) now due
      → put_by (look_of p.world v.state) (look_of p.world (later v.state now)) lists v.schedule (by_deadline (look_of p.world v.state) (look_of p.world (later v.state now)))
      ≡ filter (λ t. (places t v.schedule == 0) && enabled (later v.state now) t) due
  due_puts due these =
      filter_agree (λ t. runs t && (places t v.schedule == 0)) (λ t. is_due r now t && ((places t v.schedule == 0) && enabled (later r now) t))
      (λ t. by t (eqb_tells (places t v.schedule) 0)) (by_deadline (look_of p.world r) (look_of p.world (later r now)))
      ∙ filter_both (is_due r now) (λ t. (places t v.schedule == 0) && enabled (later r now) t) (by_deadline (look_of p.world r) (look_of p.world (later r now)))
      ∙ ap (filter (λ t. (places t v.schedule == 0) && enabled (later r now) t)) (due_is p.world r now due these)
    where
      by : (t : ℕ) → ((eqb (places t v.schedule) 0 ≡ true) × (places t v.schedule ≡ 0))
          ⊎ ((eqb (places t v.schedule) 0 ≡ false) × (places t v.schedule ≢ 0))
          → (runs t && (places t v.schedule == 0)) ≡ (is_due r now t && ((places t v.schedule == 0) && enabled (later r now) t))
      by t (inl none) =
          ap (λ b. runs t && b) none.0 ∙ and-true (runs t) ∙ runs_due t none.1 (slice_get r.threads t) refl
          ∙ sym (ap (λ b. is_due r now t && (b && enabled (later r now) t)) none.0)
      by t (inr some) =
          and_right (runs t) (places t v.schedule == 0) some.0
          ∙ sym (ap (λ b. is_due r now t && (b && enabled (later r now) t)) some.0 ∙ and_right (is_due r now t) false refl)

pub ticks_put_the_due : TicksPutTheDue
ticks_put_the_due p first v q now lists due a going tick open_waits these =
    at_later v.state q now
    (λ (z : State).
    put_by (look_of p.world v.state) (look_of p.world z) lists v.schedule (by_deadline (look_of p.world v.state) (look_of p.world z))
    ≡ filter (λ t. (places t v.schedule == 0) && enabled z t) due)
    tick (due_puts p first v now lists a going open_waits due these)
