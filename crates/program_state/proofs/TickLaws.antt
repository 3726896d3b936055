-- The state after time went on, by its parts, and what became of the lists of monitors.
use Rattle.std.proofs.Common.{◌≡◌, ℕ, suc, ◌<◌, ◌≤◌, Bool, true, false, List, [], ◌∷◌, length, Option, Some, None, refl, ap, sym, subst, ◌∙◌}
use Rattle.std.specs.Prelude.{Contains, map, slice_get, if◌then◌else◌}
use Rattle.std.specs.Global.{Vec}
use Rattle.std.proofs.lemmas.Bool.{le-leb, le-ltb, lt-ltb}
use Rattle.std.proofs.lemmas.List.{length-map}
use Rattle.sleep_wheel.specs.declared.sleeper.Key.{Key}
use Rattle.sleep_wheel.specs.Sleepers.{IsDueList, Sleepers, sleeper_at, sleepers_of, unless_due}
use Rattle.vthread_state.specs.declared.phase.Phase.TheVariants.{Waiting}
use Rattle.vthread_state.specs.declared.phase.Wake.TheVariants.{TimedOut}
use Rattle.vthread_state.specs.declared.thread.Status.{Status}
use Rattle.vthread_state.specs.declared.thread.Status.TheVariants.{New, Live, Done}
use Rattle.vthread_state.specs.Threads.{Threads, thread_at}
use Rattle.continuation.specs.Continuation.{Continuation}
use Rattle.link_model.specs.World.{World}
use Rattle.monitors.specs.Monitors.{Monitors}
use Rattle.monitor_soundness.specs.TickLaws.{NoWaitIsOver}
use Rattle.monitor_soundness.proofs.Times.{Timed, wakes, waits, is_other, later, other_then, timed, waits_then, woken_then}
use Rattle.ref_model.specs.Ending.{is_live}
use Rattle.ref_model.specs.Looks.{deadline_in, look_of}
use Rattle.ref_model.specs.State.{JavaThread, State}
use Rattle.ref_model.specs.Waiting.{is_reached, status_at_time, status_woken, thread_at_time}
use Rattle.schedule_soundness.proofs.ThreadLists.{map_none, map_there, not_none}
use Rattle.program_state.specs.declared.state.ProgramState.{ProgramState}
use Rattle.program_state.specs.Deadlines.{HoldsDeadlines, coming_deadline, deadlines_of, key_at, later_than}
use Rattle.program_state.specs.Monitors.{HaveEndedWaits}
use Rattle.program_state.specs.States.{IsKept, IsState, is_started}
use Rattle.program_state.specs.Timers.{without_keys}
use Rattle.program_state.specs.Times.{AreDue, DueMove, Passes}
use Rattle.program_state.proofs.DueLaws.{length_without, thread_of}
use Rattle.program_state.proofs.MemberLaws.{map_has, map_keeps}
use Rattle.program_state.proofs.MonitorLaws.{holds_seated, seated, spots_are}
use Rattle.program_state.proofs.SeatLaws.{still_status}
use Rattle.program_state.proofs.StateLaws.{row_of, row_there, still_lies}
use Rattle.program_state.proofs.TimeLaws.{due_are, holds_later, was_coming}
use Rattle.program_state.proofs.WaitTimeLaws.{AreSeen, ends_enters, ends_in, ends_limit, ends_none, ends_out, ends_owner, ends_seated, ends_still, ends_waits}
use Rattle.program_state.proofs.WheelLaws.{holds_same, sleeper_of}

-- ---- lists

same_at_each : {A : Type 0} (xs ys : List A) → ((i : ℕ) → slice_get xs i ≡ slice_get ys i) → xs ≡ ys
same_at_each [] [] each = refl
same_at_each [] (y ∷ ys) each = absurd (not_none (slice_get (y ∷ ys) 0) y (sym (each 0)) refl)
same_at_each (x ∷ xs) [] each = absurd (not_none (slice_get (x ∷ xs) 0) x (each 0) refl)
same_at_each (x ∷ xs) (y ∷ ys) each =
    let first : Some x ≡ Some y = each 0 in
    let same : x ≡ y = cc in
    ap (λ z. z ∷ xs) same ∙ ap (λ zs. y ∷ zs) (same_at_each xs ys (λ i. each (suc i)))

map_kept : {A : Type 0} (g : JavaThread → A) (f : JavaThread → JavaThread) (xs : List JavaThread) → ((x : JavaThread) → g (f x) ≡ g x) → map g (map f xs) ≡ map g xs
map_kept g f [] same = refl
map_kept g f (x ∷ xs) same = ap (λ y. y ∷ map g (map f xs)) (same x) ∙ ap (λ ys. g x ∷ ys) (map_kept g f xs same)

-- ---- who is due

due_reached : (r : State) (now : ℕ) (due : List ℕ) → AreDue r now due → (u : ℕ) → Contains due u → (d : ℕ) × (deadlines_of r.now r.threads u ≡ Some d) × (d ≤ now)
due_reached r now due these u c =
    let m = map_has thread_of these.sleepers u (subst (λ ts. Contains ts u) these.threads_are c) in
    let s = (these.just_these m.0).0 m.1 in
    ((m.0).deadline, ap (deadlines_of r.now r.threads) (sym m.2) ∙ s.0, s.1)

due_there : (r : State) (now : ℕ) (due : List ℕ) → AreDue r now due → (u d : ℕ) → deadlines_of r.now r.threads u ≡ Some d → d ≤ now → Contains due u
due_there r now due these u d has reached =
    subst (λ ts. Contains ts u) (sym these.threads_are) (map_keeps thread_of these.sleepers (sleeper_of u d) ((these.just_these (sleeper_of u d)).1 (has, reached)))

-- a thread whose wait is over is due, ..
waiter_due : (r : State) (now : ℕ) (due : List ℕ) → AreDue r now due → (t : ℕ) (x : JavaThread) → slice_get r.threads t ≡ Some x → (o count deadline : ℕ)
    → x.thread.status ≡ Live (Waiting o count (Some deadline)) → r.now < deadline → deadline ≤ now → Contains due t
waiter_due r now due these t x at o count deadline is coming reached =
    due_there r now due these t deadline
    (ap (coming_deadline r.now) at ∙ ap (λ s. later_than r.now (deadline_in s)) is ∙ ap (λ b. if b then Some deadline else None) (lt-ltb r.now deadline coming)) reached

-- .. and one whose wait goes on isn't
waiter_stays : (r : State) (now : ℕ) (due : List ℕ) → AreDue r now due → (t : ℕ) (x : JavaThread) → slice_get r.threads t ≡ Some x → (o count : ℕ) (deadline : Option ℕ)
    → x.thread.status ≡ Live (Waiting o count deadline) → is_reached now deadline ≡ false → Contains due t → ⊥
waiter_stays r now due these t x at o count deadline is off c =
    let d = due_reached r now due these t c in
    let coming : later_than r.now (deadline_in x.thread.status) ≡ Some d.0 = sym (ap (coming_deadline r.now) at) ∙ d.1 in
    let own : deadline ≡ Some d.0 = sym (ap deadline_in is) ∙ was_coming r.now (deadline_in x.thread.status) d.0 coming in
    let no : true ≡ false = sym (le-leb d.0 now d.2) ∙ sym (ap (is_reached now) own) ∙ off in
    absurd cc

-- ---- the table

rows_at : (a : ProgramState) (m : Monitors) (table : Threads) (now : ℕ) (due : List ℕ) (r : State) (out : ℕ → Bool) → IsState a r out → NoWaitIsOver r → AreDue r now due
    → HaveEndedWaits TimedOut due a.monitors a.threads m table → table.threads ≡ map (λ x. x.thread) (later r now).threads
rows_at a m table now due r out is open_waits these ended = same_at_each table.threads (map row_of (later r now).threads) (λ t. by t (slice_get r.threads t) refl)
  where
    there : (t : ℕ) (x : JavaThread) → slice_get r.threads t ≡ Some x → Timed r now x → thread_at table t ≡ Some (thread_at_time now x).thread
    there t x at (wakes o count deadline status coming reached) =
        ends_in TimedOut due a.monitors m a.threads table t x.thread ended (waiter_due r now due these t x at o count deadline status coming reached) (row_there a.threads r t x is.rows at)
        ∙ ap (λ (y : JavaThread). Some y.thread) (sym (woken_then now x o count deadline status reached))
    there t x at (waits o count deadline status off) =
        ends_out TimedOut due a.monitors m a.threads table t ended (waiter_stays r now due these t x at o count deadline status off) ∙ row_there a.threads r t x is.rows at
        ∙ ap (λ (y : JavaThread). Some y.thread) (sym (waits_then now x o count deadline status off))
    there t x at (is_other loose) =
        ends_still TimedOut due a.monitors m a.threads table t x.thread ended (row_there a.threads r t x is.rows at) (still_status TimedOut x.thread.status loose)
        ∙ ap (λ (y : JavaThread). Some y.thread) (sym (other_then now x loose))

    by : (t : ℕ) (o : Option JavaThread) → slice_get r.threads t ≡ o → slice_get table.threads t ≡ slice_get (map row_of (later r now).threads) t
    by t None at =
        ends_none TimedOut due a.monitors m a.threads table t ended (ap (λ ts. slice_get ts t) is.rows ∙ map_none row_of r.threads t at)
        ∙ sym (map_none row_of (later r now).threads t (map_none (thread_at_time now) r.threads t at))
    by t (Some x) at =
        there t x at (timed r now t x open_waits at)
        ∙ sym (map_there row_of (later r now).threads t (thread_at_time now x) (map_there (thread_at_time now) r.threads t x at))

-- ---- deadlines and frames

-- no deadline comes or goes that is still to come
deadline_then : (r : State) (now : ℕ) → NoWaitIsOver r → (t : ℕ) → deadlines_of now (later r now).threads t ≡ deadlines_of now r.threads t
deadline_then r now open_waits t = by (slice_get r.threads t) refl
  where
    there : (x : JavaThread) → Timed r now x → later_than now (deadline_in (thread_at_time now x).thread.status) ≡ later_than now (deadline_in x.thread.status)
    there x (wakes o count deadline status coming reached) =
        ap (λ (y : JavaThread). later_than now (deadline_in y.thread.status)) (woken_then now x o count deadline status reached)
        ∙ ap (λ s. later_than now (deadline_in (status_woken TimedOut s))) status
        ∙ sym (ap (λ s. later_than now (deadline_in s)) status ∙ ap (λ b. if b then Some deadline else None) (le-ltb now deadline reached))
    there x (waits o count deadline status off) = ap (λ (y : JavaThread). later_than now (deadline_in y.thread.status)) (waits_then now x o count deadline status off)
    there x (is_other loose) = ap (λ (y : JavaThread). later_than now (deadline_in y.thread.status)) (other_then now x loose)

    by : (o : Option JavaThread) → slice_get r.threads t ≡ o → deadlines_of now (later r now).threads t ≡ deadlines_of now r.threads t
    by None at = ap (coming_deadline now) (map_none (thread_at_time now) r.threads t at) ∙ sym (ap (coming_deadline now) at)
    by (Some x) at = ap (coming_deadline now) (map_there (thread_at_time now) r.threads t x at) ∙ there x (timed r now t x open_waits at) ∙ sym (ap (coming_deadline now) at)

started_then : (now : ℕ) (status : Status) → is_started (status_at_time now status) ≡ is_started status
started_then now New = refl
started_then now (Live phase) = refl
started_then now Done = refl

live_then : (now : ℕ) (status : Status) → is_live (status_at_time now status) ≡ is_live status
live_then now New = refl
live_then now (Live phase) = refl
live_then now Done = refl

kept_then : (r : State) (now u : ℕ) (out : Bool) (k : Option (Option Continuation)) → IsKept u out (slice_get r.threads u) k → IsKept u out (slice_get (later r now).threads u) k
kept_then r now u out k kept = by (slice_get r.threads u) refl
  where
    by : (o : Option JavaThread) → slice_get r.threads u ≡ o → IsKept u out (slice_get (later r now).threads u) k
    by None at = subst (λ o. IsKept u out o k) (at ∙ sym (map_none (thread_at_time now) r.threads u at)) kept
    by (Some x) at =
        subst (λ o. IsKept u out o k) (sym (map_there (thread_at_time now) r.threads u x at))
        (still_lies u out x (thread_at_time now x) k (started_then now x.thread.status) (live_then now x.thread.status) refl (subst (λ o. IsKept u out o k) at kept))

-- ---- the call

abbrev permit_of : JavaThread → Bool
permit_of x = x.permit

abbrev interrupt_of : JavaThread → Bool
interrupt_of x = x.interrupted

pub time_passes : (a : ProgramState) (wheel : Sleepers) (keys : Vec (Option Key)) (m : Monitors) (table : Threads) (now : ℕ) (due : List ℕ) → a.time < now
    → IsDueList now (sleepers_of a.wheel) due → ((key : ℕ) → sleeper_at wheel key ≡ unless_due now (sleeper_at a.wheel key)) → keys.items ≡ without_keys a.keys.items due
    → HaveEndedWaits TimedOut due a.monitors a.threads m table → (r : State) (out : ℕ → Bool) → IsState a r out → NoWaitIsOver r
    → Passes now (record a { wheel = wheel; keys = keys; monitors = m; threads = table; time = now }) r out
time_passes a wheel keys m table now due goes_on d left cleared ended r out is open_waits =
    let before : r.now < now = subst (λ n. n < now) is.now goes_on in
    let next : State = later r now in
    let rows = rows_at a m table now due r out is open_waits (due_are a now due d r out is) ended in
    record {
      next = next;
      ticks = ap (λ b. if b then Some next else None) (lt-ltb r.now now before);
      is = record {
        status = is.status;
        memory = is.memory;
        main_threw = is.main_threw;
        rows = rows;
        most_threads = is.most_threads;
        limit = ends_limit TimedOut due a.monitors m a.threads table ended ∙ is.limit;
        permits = is.permits ∙ sym (map_kept permit_of (thread_at_time now) r.threads (λ x. refl));
        interrupts = is.interrupts ∙ sym (map_kept interrupt_of (thread_at_time now) r.threads (λ x. refl));
        unnamed = is.unnamed;
        monitors = holds_seated m table next.threads r.owners (ends_seated TimedOut due a.monitors m a.threads table (seated a r out is) ended) rows
            (λ o. ends_owner TimedOut due a.monitors m a.threads table ended o ∙ is.monitors.owners_are o);
        now = refl;
        places = ap length cleared ∙ length_without a.keys.items due ∙ is.places ∙ sym (length-map r.threads (thread_at_time now));
        wheel = subst (λ ks. HoldsDeadlines (sleeper_at wheel) (key_at ks) (deadlines_of now next.threads)) (sym cleared)
            (holds_same (sleeper_at wheel) (sleeper_at wheel) (key_at (without_keys a.keys.items due)) (key_at (without_keys a.keys.items due)) (deadlines_of now r.threads)
            (deadlines_of now next.threads) (λ k. refl) (λ u. refl) (deadline_then r now open_waits) (holds_later now a.wheel wheel a.keys.items due r before is.wheel d left));
        kept = λ u. kept_then r now u (out u) (slice_get a.frozen.items u) (is.kept u);
      };
    }

-- ---- the lists of monitors

pub due_move : (a : ProgramState) (m : Monitors) (table : Threads) (now : ℕ) (due : List ℕ) → IsDueList now (sleepers_of a.wheel) due
    → HaveEndedWaits TimedOut due a.monitors a.threads m table → (w : World) (r : State) (out : ℕ → Bool) → IsState a r out → DueMove w r due a.monitors m
due_move a m table now due d ended w r out is =
    let once = (due_are a now due d r out is).once in
    let seen : AreSeen due a.threads (look_of w r) = λ u c. sym (spots_are a.threads r.threads is.rows u) in
    record {
      waits = ends_waits TimedOut due a.monitors m a.threads table (look_of w r) ended once seen;
      enters = ends_enters TimedOut due a.monitors m a.threads table (look_of w r) ended once seen;
    }
