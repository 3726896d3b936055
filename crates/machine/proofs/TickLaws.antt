-- Time goes on: the state and the schedule after that, and the parts.
use Rattle.std.proofs.Common.{◌≡◌, ◌⊎◌, ◌<◌, ◌≤◌, ◌==◌, inl, inr, eqb, ℕ, zero, suc, Bool, true, false, List, [], ◌∷◌, Option, None, Some, length, get_or, refl, ap, sym, subst, ◌∙◌, arith, cond, not, ◌&&◌}
use Rattle.std.specs.Prelude.{All, Contains, filter, is_some, map, nat_lt, slice_get}
use Rattle.std.specs.List.{AllByRecursion, IsDistinct}
use Rattle.std.specs.List.Sorted.{IsSortedBy}
use Rattle.std.specs.Option.{option_map_or}
use Rattle.std.proofs.lemmas.Bool.{and_from, cases_Bool, eq-eqb, lt-ltb, ltb-true, ne_eqb}
use Rattle.std.proofs.lemmas.Bool.Decides.{eqb_tells}
use Rattle.std.proofs.lemmas.Option.{slice_get_within}
use Rattle.items.specs.Options.{◌>>=◌}
use Rattle.items.proofs.Binds.{bind_is}
use Rattle.history.specs.declared.entry.What.TheVariants.{Clock}
use Rattle.vthread_state.specs.declared.phase.Wake.TheVariants.{TimedOut}
use Rattle.vthread_state.specs.declared.thread.Status.{Status}
use Rattle.vthread_state.specs.declared.thread.Status.TheVariants.{New, Live, Done}
use Rattle.thread_lists.specs.Lists.{Lists, count, push, total}
use Rattle.thread_lists.proofs.CountLaws.{count-other, count-same}
use Rattle.continuation.specs.Continuation.{Continuation}
use Rattle.sleep_wheel.specs.declared.sleeper.Sleeper.{Sleeper}
use Rattle.schedule_model.specs.Look.{is_entering, is_in_wait_list}
use Rattle.schedule_model.specs.Schedule.{Schedule, in_deques, places}
use Rattle.schedule_model.specs.Puts.{by_deadline, is_earlier, put_by, updated_list}
use Rattle.schedule_model.specs.Entries.{after_tick, may_tick}
use Rattle.schedule_model.specs.Run.{Scheduled, scheduled_after, with_schedule}
use Rattle.ref_model.specs.Setting.{Setting}
use Rattle.ref_model.specs.State.{JavaThread, State}
use Rattle.ref_model.specs.Ending.{ending, is_live}
use Rattle.ref_model.specs.Enabled.{enabled}
use Rattle.ref_model.specs.Waiting.{at_time, status_woken, thread_woken}
use Rattle.ref_model.specs.Looks.{deadline_in, look_of, machine_from, spot_of}
use Rattle.schedule_soundness.specs.HistoryLaws.{IsProgramAfter}
use Rattle.schedule_soundness.specs.TimeLaws.{AreDue, IsDue}
use Rattle.schedule_soundness.proofs.DeadlineOrder.{sorted_threads}
use Rattle.monitor_soundness.specs.TickLaws.{IsTicked, NoWaitIsOver}
use Rattle.monitor_soundness.proofs.TickLaws.{ticks_put_the_due}
use Rattle.monitor_soundness.proofs.Times.{ticks_change_time, ticks_leave_others, ticks_wake_waiters}
use Rattle.program_state.specs.declared.state.ProgramState.{ProgramState}
use Rattle.program_state.specs.Deadlines.{coming_deadline, deadlines_of, later_than}
use Rattle.program_state.specs.States.{IsKept, IsState, absent, mounted, waiting, idle}
use Rattle.program_state.specs.Times as times
use Rattle.program_state.specs.Times.{DueMove, Passes}
use Rattle.program_state.specs.Waiting.{lies_in}
use Rattle.machine.specs.Insides.{AreParts, is_out}
use Rattle.machine.specs.Puts.{is_loose, is_nowhere, is_to_go}
use Rattle.machine.proofs.EndingLaws.{not_ended}
use Rattle.machine.proofs.ListLaws.{lists_after_tick}
use Rattle.machine.proofs.PlaceLaws.{in_none, out_on, push_length}

no_both : (b : Bool) → b ≡ true → b ≡ false → ⊥
no_both b i j = absurd cc

same_thread : (o : Option JavaThread) (x y : JavaThread) → o ≡ Some x → o ≡ Some y → x ≡ y
same_thread o x y e f = cc

-- ---- deadlines that are still to come

abbrev deadline_at : Option JavaThread → Option ℕ
deadline_at o = option_map_or (λ (x : JavaThread). deadline_in x.thread.status) o None

later_is : (now d : ℕ) (o : Option ℕ) → later_than now o ≡ Some d → (o ≡ Some d) × (now < d)
later_is now d None e = absurd cc
later_is now d (Some x) e =
    elim (less_or_not now x) [
      | inl less ↦
          let same : Some x ≡ Some d = sym (ap (λ b. cond b (Some x) None) less.0) ∙ e in
          let is : x ≡ d = cc in
          (same, subst (λ n. now < n) is less.1)
      | inr more ↦ let bad : None ≡ Some d = sym (ap (λ b. cond b (Some x) None) more) ∙ e in absurd cc
    ]
  where
    less_or_not : (a b : ℕ) → ((nat_lt a b ≡ true) × (a < b)) ⊎ (nat_lt a b ≡ false)
    less_or_not a b = elim (cases_Bool (nat_lt a b)) [ inl less ↦ inl (less, ltb-true a b less) | inr more ↦ inr more ]

is_later : (now d : ℕ) (o : Option ℕ) → o ≡ Some d → now < d → later_than now o ≡ Some d
is_later now d o e low = ap (later_than now) e ∙ ap (λ b. cond b (Some d) None) (lt-ltb now d low)

coming_is : (now : ℕ) (o : Option JavaThread) (d : ℕ) → coming_deadline now o ≡ Some d → (deadline_at o ≡ Some d) × (now < d)
coming_is now None d e = absurd cc
coming_is now (Some x) d e = later_is now d (deadline_in x.thread.status) e

is_coming : (now : ℕ) (o : Option JavaThread) (d : ℕ) → deadline_at o ≡ Some d → now < d → coming_deadline now o ≡ Some d
is_coming now None d e low = absurd cc
is_coming now (Some x) d e low = is_later now d (deadline_in x.thread.status) e low

-- a deadline that the wheel has is one that is seen, and the other way round
pub seen_deadline : (p : Setting) (r : State) (now t d : ℕ) → deadlines_of r.now r.threads t ≡ Some d → d ≤ now → IsDue (look_of p.world r) now t
seen_deadline p r now t d e reached =
    let h = coming_is r.now (slice_get r.threads t) d e in
    record { deadline = d; has = h.0; to_come = h.1; reached = reached }

pub had_deadline : (p : Setting) (r : State) (now t : ℕ) (h : IsDue (look_of p.world r) now t) → deadlines_of r.now r.threads t ≡ Some h.deadline
had_deadline p r now t h = is_coming r.now (slice_get r.threads t) h.deadline h.has h.to_come

-- only a live thread has one
live_deadline : (status : Status) (d : ℕ) → deadline_in status ≡ Some d → is_live status ≡ true
live_deadline New d e = absurd cc
live_deadline (Live phase) d e = refl
live_deadline Done d e = absurd cc

due_lives : (p : Setting) (r : State) (now t : ℕ) (x : JavaThread) → IsDue (look_of p.world r) now t → slice_get r.threads t ≡ Some x → is_live x.thread.status ≡ true
due_lives p r now t x h at = live_deadline x.thread.status h.deadline (sym (ap deadline_at at) ∙ h.has)

-- ---- those that are due, as the wheel tells them

all_apart : (x : ℕ) (xs : List ℕ) → AllByRecursion (λ y. eqb x y ≡ false) xs → count x xs ≡ 0
all_apart x [] all = refl
all_apart x (y ∷ ys) all =
    count-other x y ys (λ same. no_both (eqb x y) (same_tests same) all.0) ∙ all_apart x ys all.1
  where
    same_tests : y ≡ x → eqb x y ≡ true
    same_tests e = eq-eqb x y (sym e)

distinct_once : (xs : List ℕ) → IsDistinct eqb xs → (t : ℕ) → count t xs ≤ 1
unfolding IsDistinct
distinct_once [] d t = let none : count t [] ≡ 0 = refl in omega arith
distinct_once (x ∷ xs) d t =
    let rest = distinct_once xs d.1 t in
    elim (eqb_tells x t) [
      | inl here ↦
          let none : count x xs ≡ 0 = all_apart x xs d.0 in
          subst (λ n. count n (x ∷ xs) ≤ 1) here.1 (omega (arith, count-same x xs, none))
      | inr other ↦ omega (arith, count-other t x xs other.1, rest)
    ]

in_map : (xs : List Sleeper) (t : ℕ) → Contains (map (λ (s : Sleeper). s.thread) xs) t → (s : Sleeper) × (Contains xs s) × (s.thread ≡ t)
in_map [] t (k, low, is) = absurd (omega arith)
in_map (x ∷ xs) t (zero, low, is) = (x, (zero, omega arith, refl), is)
in_map (x ∷ xs) t (suc k, low, is) =
    let h = in_map xs t (k, omega arith, is) in
    (h.0, more h.0 h.1, h.2)
  where
    more : (s : Sleeper) → Contains xs s → Contains (x ∷ xs) s
    more s (j, low, is) = (suc j, omega arith, is)

to_map : (xs : List Sleeper) (s : Sleeper) → Contains xs s → Contains (map (λ (s : Sleeper). s.thread) xs) s.thread
to_map [] s (k, low, is) = absurd (omega arith)
to_map (x ∷ xs) s (zero, low, is) = (zero, omega arith, ap (λ (y : Sleeper). y.thread) is)
to_map (x ∷ xs) s (suc k, low, is) = more (to_map xs s (k, omega arith, is))
  where
    more : Contains (map (λ (y : Sleeper). y.thread) xs) s.thread → Contains (x.thread ∷ map (λ (y : Sleeper). y.thread) xs) s.thread
    more (j, low, is) = (suc j, omega arith, is)

get_contains : (xs : List Sleeper) (k : ℕ) (d : Sleeper) → k < length xs → Contains xs (get_or xs k d)
get_contains [] k d low = absurd (omega arith)
get_contains (x ∷ xs) zero d low = (zero, omega arith, refl)
get_contains (x ∷ xs) (suc k) d low = more (get_contains xs k d (omega arith))
  where
    more : Contains xs (get_or xs k d) → Contains (x ∷ xs) (get_or xs k d)
    more (j, low, is) = (suc j, omega arith, is)

pub due_seen : (p : Setting) (r : State) (now : ℕ) (due : List ℕ) → times.AreDue r now due → AreDue (look_of p.world r) now due
due_seen p r now due a = record {
  just = λ t. (there t, back t);
  once = distinct_once due a.once;
  in_order =
      subst (IsSortedBy (is_earlier (look_of p.world r))) (sym a.threads_are)
      (sorted_threads (look_of p.world r) (λ (s : Sleeper). s.deadline) (λ (s : Sleeper). s.thread) a.sleepers a.in_order each);
}
  where
    there : (t : ℕ) → Contains due t → IsDue (look_of p.world r) now t
    there t c =
        let s = in_map a.sleepers t (subst (λ ts. Contains ts t) a.threads_are c) in
        let h = (a.just_these s.0).0 s.1 in
        subst (IsDue (look_of p.world r) now) s.2 (seen_deadline p r now (s.0).thread (s.0).deadline h.0 h.1)

    back : (t : ℕ) → IsDue (look_of p.world r) now t → Contains due t
    back t h =
        subst (λ ts. Contains ts t) (sym a.threads_are)
        (to_map a.sleepers (record { thread = t; deadline = h.deadline })
        ((a.just_these (record { thread = t; deadline = h.deadline })).1 (had_deadline p r now t h, h.reached)))

    each : All (λ (s : Sleeper). (look_of p.world r).deadline s.thread ≡ Some s.deadline) a.sleepers
    each k d low =
        let s = get_or a.sleepers k d in
        (coming_is r.now (slice_get r.threads s.thread) s.deadline ((a.just_these s).0 (get_contains a.sleepers k d low)).0).0

-- ---- a live thread is nowhere exactly where it is in no place

nowhere_place : (lists : List (List ℕ)) (new : ProgramState) (q : State) (s : Schedule) (u : ℕ) (x : JavaThread) → IsState new q (is_out s) → lists ≡ s.deques
    → slice_get q.threads u ≡ Some x → is_live x.thread.status ≡ true → is_nowhere new lists u ≡ (places u s == 0)
nowhere_place lists new q s u x is same at alive = by (is.kept u)
  where
    by : IsKept u (is_out s u) (slice_get q.threads u) (slice_get new.frozen.items u) → is_nowhere new lists u ≡ (places u s == 0)
    by (absent off there place) = let no : ◌≡◌ {A = Option JavaThread} None (Some x) = sym there ∙ at in absurd cc
    by (mounted z on there place begun) =
        let up = out_on s u on in
        ap (λ o. option_map_or (λ (k : Option Continuation). is_some k) o false && is_loose lists u) place
        ∙ sym (ne_eqb (places u s) 0 (λ none. absurd (omega arith)))
    by (waiting z k off there place living number frames) =
        let down = in_none s u off in
        let sum : in_deques u s ≡ places u s = omega arith in
        ap (λ o. option_map_or (λ (k : Option Continuation). is_some k) o false && is_loose lists u) place
        ∙ ap (λ ls. total (count u) ls == 0) same ∙ ap (λ n. n == 0) sum
    by (idle z off there place dead) =
        absurd (no_both (is_live z.thread.status) (ap (λ (y : JavaThread). is_live y.thread.status) (same_thread (slice_get q.threads u) z x there at) ∙ alive) dead)

-- so one that is due is to go where it is in no place and may step
swapped : (lies loose goes : Bool) → ((lies && goes) && loose) ≡ ((lies && loose) && goes)
swapped true true true = refl
swapped true true false = refl
swapped true false true = refl
swapped true false false = refl
swapped false loose goes = refl

filter_in : (p q : ℕ → Bool) (xs : List ℕ) → ((t : ℕ) → Contains xs t → p t ≡ q t) → filter p xs ≡ filter q xs
filter_in p q [] same = refl
filter_in p q (x ∷ xs) same =
    let rest = filter_in p q xs (λ t c. same t (more t c)) in
    ap (λ b. cond b (x ∷ filter p xs) (filter p xs)) (same x (zero, omega arith, refl)) ∙ ap (λ ys. cond (q x) (x ∷ ys) ys) rest
  where
    more : (t : ℕ) → Contains xs t → Contains (x ∷ xs) t
    more t (k, low, is) = (suc k, omega arith, is)

-- ---- a tick

-- before it
pub record Before (p : Setting) (first : State) (v : Scheduled State) (n : ℕ) (state : ProgramState) (deques : Lists) (on : List (Option ℕ)) (c now : ℕ) : Type 0 where
  pub after : IsProgramAfter p first v
  pub parts : AreParts n state deques on v
  pub going : ending v.state ≡ None
  pub carrier : c < length v.schedule.mounted

-- after it
pub record Ticked (p : Setting) (v : Scheduled State) (state new : ProgramState) (deques left : Lists) (c now : ℕ) (due : List ℕ) : Type 0 where
  pub to_come : NoWaitIsOver v.state
  pub passes : Passes now new v.state (is_out v.schedule)
  pub moves : DueMove p.world v.state due state.monitors new.monitors
  pub due_are : times.AreDue v.state now due
  pub lists : left.lists ≡ push deques.lists c (filter (is_to_go new passes.next deques.lists) due)
  pub room : left.threads ≡ deques.threads

woken_lives : (status : Status) → is_live status ≡ true → is_live (status_woken TimedOut status) ≡ true
woken_lives New e = e
woken_lives (Live phase) e = refl
woken_lives Done e = e

module _ (p : Setting) (first : State) (v : Scheduled State) (n : ℕ) (state : ProgramState) (deques : Lists) (on : List (Option ℕ)) (c now : ℕ) (b : Before p first v n state deques on c now)
    (new : ProgramState) (left : Lists) (due : List ℕ) (h : Ticked p v state new deques left c now due) where
  abbrev pub then_state : State
  then_state = h.passes.next

  abbrev pub then : Scheduled State
  then = with_schedule h.passes.next (after_tick (look_of p.world v.state) (look_of p.world h.passes.next) v.schedule c)

  may : may_tick (look_of p.world v.state) v.schedule c ≡ true
  may = and_from (not (look_of p.world v.state).ended) _ (ap not (not_ended v.state b.going)) (lt-ltb c (length v.schedule.mounted) b.carrier)

  abbrev ticked_with : State → Option (Scheduled State)
  ticked_with q = Some (with_schedule q (after_tick (look_of p.world v.state) (look_of p.world q) v.schedule c))

  pub tick_enters : scheduled_after (machine_from p first) v c (Clock now) ≡ Some then
  tick_enters =
      ap (λ i. cond i (at_time v.state now >>= ticked_with) None) may
      ∙ bind_is (at_time v.state now) ticked_with then_state (Some then) h.passes.ticks refl

  abbrev enters : ℕ → List ℕ
  enters o = updated_list (is_entering o) (look_of p.world v.state) (look_of p.world then_state)
      (by_deadline (look_of p.world v.state) (look_of p.world then_state)) (v.schedule.entry_list o)

  seen : AreDue (look_of p.world v.state) now due
  seen = due_seen p v.state now due h.due_are

  ticked : IsTicked v.state then_state now
  ticked = ticks_change_time v.state then_state now h.passes.ticks

  pub tick_goes : ending then_state ≡ None
  tick_goes = ticked.goes_on ∙ b.going

  -- who is due lives afterwards
  lives_then : (t : ℕ) (x : JavaThread) → slice_get v.state.threads t ≡ Some x → IsDue (look_of p.world v.state) now t
      → (y : JavaThread) × (slice_get then_state.threads t ≡ Some y) × (is_live y.thread.status ≡ true)
  lives_then t x at d = by (cases_Bool (is_in_wait_list (spot_of x.thread.status)))
    where
      live : is_live x.thread.status ≡ true
      live = due_lives p v.state now t x d at

      by : (is_in_wait_list (spot_of x.thread.status) ≡ true) ⊎ (is_in_wait_list (spot_of x.thread.status) ≡ false)
          → (y : JavaThread) × (slice_get then_state.threads t ≡ Some y) × (is_live y.thread.status ≡ true)
      by (inl waits) =
          (thread_woken TimedOut x, ticks_wake_waiters p.world v.state then_state now t x h.passes.ticks at waits d, woken_lives x.thread.status live)
      by (inr off) = (x, ticks_leave_others p.world v.state then_state now t x h.passes.ticks h.to_come at (inl off), live)

  to_go_due : (t : ℕ) → Contains due t → (o : Option JavaThread) → slice_get v.state.threads t ≡ o
      → is_to_go new then_state deques.lists t ≡ ((places t v.schedule == 0) && enabled then_state t)
  to_go_due t there None at =
      let d = (seen.just t).0 there in
      let no : None ≡ Some d.deadline = sym (ap deadline_at at) ∙ d.has in
      absurd cc
  to_go_due t there (Some x) at =
      let lives = lives_then t x at ((seen.just t).0 there) in
      swapped (lies_in new.frozen.items t) (is_loose deques.lists t) (enabled then_state t)
      ∙ ap (λ i. i && enabled then_state t) (nowhere_place deques.lists new then_state v.schedule t lives.0 h.passes.is b.parts.deques lives.1 lives.2)

  puts_are : put_by (look_of p.world v.state) (look_of p.world then_state) enters v.schedule (by_deadline (look_of p.world v.state) (look_of p.world then_state))
      ≡ filter (is_to_go new then_state deques.lists) due
  puts_are =
      ticks_put_the_due p first v then_state now enters due b.after b.going h.passes.ticks h.to_come seen
      ∙ sym (filter_in (is_to_go new then_state deques.lists) (λ t. (places t v.schedule == 0) && enabled then_state t) due
      (λ t there. to_go_due t there (slice_get v.state.threads t) refl))

  pub tick_parts : AreParts n new left on then
  tick_parts = record {
    state = h.passes.is;
    lists =
        lists_after_tick p.world v.state then_state v.schedule now due state.monitors new.monitors b.parts.lists b.parts.state.monitors h.passes.ticks
        h.to_come seen h.moves c;
    deques =
        h.lists ∙ ap (λ ls. push ls c (filter (is_to_go new then_state deques.lists) due)) b.parts.deques ∙ ap (push v.schedule.deques c) (sym puts_are);
    room =
        subst (λ k. k ≤ left.threads) (sym ticked.as_many) (subst (λ k. length v.state.threads ≤ k) (sym h.room) b.parts.room);
    mounted = b.parts.mounted;
    carriers =
        push_length v.schedule.deques c (put_by (look_of p.world v.state) (look_of p.world then_state) enters v.schedule (by_deadline (look_of p.world v.state) (look_of p.world then_state)))
        ∙ b.parts.carriers;
  }

-- those that are due were made
pub due_made : (p : Setting) (r : State) (now : ℕ) (due : List ℕ) → times.AreDue r now due → (u : ℕ) → Contains due u → u < length r.threads
due_made p r now due are_due u there = by (slice_get r.threads u) refl
  where
    by : (o : Option JavaThread) → slice_get r.threads u ≡ o → u < length r.threads
    by None at =
        let d = ((due_seen p r now due are_due).just u).0 there in
        let no : None ≡ Some d.deadline = sym (ap deadline_at at) ∙ d.has in
        absurd cc
    by (Some x) at = slice_get_within r.threads u x at

pub due_below : (p : Setting) (first : State) (v : Scheduled State) (n : ℕ) (state : ProgramState) (deques : Lists) (on : List (Option ℕ)) (c now : ℕ)
    (b : Before p first v n state deques on c now) (due : List ℕ) → times.AreDue v.state now due → (u : ℕ) → Contains due u → u < deques.threads
due_below p first v n state deques on c now b due are_due u there =
    let inside = due_made p v.state now due are_due u there in
    let room = b.parts.room in
    omega arith

-- each of them is once in the list
pub due_once : (p : Setting) (r : State) (now : ℕ) (due : List ℕ) → times.AreDue r now due → (u : ℕ) → count u due ≤ 1
due_once p r now due a = (due_seen p r now due a).once
