-- What a tick of time does to the threads.
use Rattle.std.proofs.Common.{◌≡◌, ◌⊎◌, inl, inr, ◌<◌, ◌≤◌, ℕ, Bool, true, false, List, [], ◌∷◌, length, map, Option, Some, None, refl, ap, sym, subst, ◌∙◌, ◌||◌}
use Rattle.std.specs.Prelude.{if◌then◌else◌, nat_le, slice_get}
use Rattle.std.specs.List.{list_any}
use Rattle.std.specs.Option.{option_map_or}
use Rattle.std.proofs.lemmas.Bool.{cases_Bool, le-leb, leb-true, ltb-true}
use Rattle.std.proofs.lemmas.List.{length-map}
use Rattle.vthread_state.specs.declared.phase.Phase.TheVariants.{Run, Throwing, Entering, Waiting, Reenter, Parked, Asleep, Joining}
use Rattle.vthread_state.specs.declared.phase.Wake.TheVariants.{TimedOut}
use Rattle.vthread_state.specs.declared.thread.Status.{Status}
use Rattle.vthread_state.specs.declared.thread.Status.TheVariants.{New, Live, Done}
use Rattle.schedule_model.specs.Look.{is_in_wait_list}
use Rattle.ref_model.specs.declared.ending.Ending.TheVariants.{Ended, MainThrew}
use Rattle.ref_model.specs.State.{JavaThread, State}
use Rattle.ref_model.specs.Ending.{ending, exit_or, keeps_going}
use Rattle.ref_model.specs.Waiting.{at_time, is_reached, status_at_time, status_woken, thread_at_time, thread_woken}
use Rattle.ref_model.specs.Enabled.{has_ended, is_done}
use Rattle.ref_model.specs.Looks.{deadline_in, look_of, spot_of}
use Rattle.vthread_state.specs.Threads as table
use Rattle.schedule_soundness.specs.TimeLaws.{IsDue}
use Rattle.schedule_soundness.proofs.OtherMoves.{time_is}
use Rattle.schedule_soundness.proofs.ThreadLists.{map_none, map_there}
use Rattle.schedule_soundness.proofs.TimeLaws.{still_status}
use Rattle.monitor_soundness.specs.TickLaws.{NoWaitIsOver, TicksChangeTime, TicksLeaveOthers, TicksWakeWaiters}

-- the state at a time
abbrev pub later : State → ℕ → State
later r now = record r { now = now; threads = map (thread_at_time now) r.threads }

-- ---- one thread

-- a thread whose status stays so
abbrev with_status_of : JavaThread → Status → JavaThread
with_status_of x s = record x { thread = record x.thread { status = s } }

-- The wait of a thread on a monitor ends, or goes on, or it doesn't wait on one.
pub data Timed (r : State) (now : ℕ) (x : JavaThread) : Type 0 where
  wakes : (o count deadline : ℕ) → x.thread.status ≡ Live (Waiting o count (Some deadline)) → r.now < deadline → deadline ≤ now →
      Timed r now x
  waits : (o count : ℕ) (deadline : Option ℕ) → x.thread.status ≡ Live (Waiting o count deadline) → is_reached now deadline ≡ false →
      Timed r now x
  is_other : is_in_wait_list (spot_of x.thread.status) ≡ false → Timed r now x

pub timed : (r : State) (now t : ℕ) (x : JavaThread) → NoWaitIsOver r → slice_get r.threads t ≡ Some x → Timed r now x
timed r now t x open_waits at = by x.thread.status refl
  where
    reached : (o count deadline : ℕ) → x.thread.status ≡ Live (Waiting o count (Some deadline)) → Timed r now x
    reached o count deadline is =
        elim (cases_Bool (nat_le deadline now)) [
          | inl e ↦ wakes o count deadline is (open_waits t o count deadline x at is) (leb-true deadline now e)
          | inr e ↦ waits o count (Some deadline) is e
        ]

    by : (status : Status) → x.thread.status ≡ status → Timed r now x
    by New is = is_other (ap (λ s. is_in_wait_list (spot_of s)) is)
    by Done is = is_other (ap (λ s. is_in_wait_list (spot_of s)) is)
    by (Live Run) is = is_other (ap (λ s. is_in_wait_list (spot_of s)) is)
    by (Live (Throwing o)) is = is_other (ap (λ s. is_in_wait_list (spot_of s)) is)
    by (Live (Entering o)) is = is_other (ap (λ s. is_in_wait_list (spot_of s)) is)
    by (Live (Waiting o count None)) is = waits o count None is refl
    by (Live (Waiting o count (Some deadline))) is = reached o count deadline is
    by (Live (Reenter o count wake)) is = is_other (ap (λ s. is_in_wait_list (spot_of s)) is)
    by (Live (Parked deadline)) is = is_other (ap (λ s. is_in_wait_list (spot_of s)) is)
    by (Live (Asleep deadline)) is = is_other (ap (λ s. is_in_wait_list (spot_of s)) is)
    by (Live (Joining u deadline)) is = is_other (ap (λ s. is_in_wait_list (spot_of s)) is)

-- what the tick makes of it
pub woken_then : (now : ℕ) (x : JavaThread) (o count deadline : ℕ) → x.thread.status ≡ Live (Waiting o count (Some deadline))
    → deadline ≤ now → thread_at_time now x ≡ thread_woken TimedOut x
woken_then now x o count deadline is low =
    ap (with_status_of x)
    (ap (status_at_time now) is
    ∙ ap (λ b. Live (if b then Reenter o count TimedOut else Waiting o count (Some deadline))) (le-leb deadline now low)
    ∙ sym (ap (status_woken TimedOut) is))

pub waits_then : (now : ℕ) (x : JavaThread) (o count : ℕ) (deadline : Option ℕ) → x.thread.status ≡ Live (Waiting o count deadline)
    → is_reached now deadline ≡ false → thread_at_time now x ≡ x
waits_then now x o count deadline is off =
    ap (with_status_of x)
    (ap (status_at_time now) is
    ∙ ap (λ b. Live (if b then Reenter o count TimedOut else Waiting o count deadline)) off ∙ sym is)

pub other_then : (now : ℕ) (x : JavaThread) → is_in_wait_list (spot_of x.thread.status) ≡ false → thread_at_time now x ≡ x
other_then now x e = ap (with_status_of x) (still_status now x.thread.status e)

-- ---- all threads

pub there_then : (r : State) (now t : ℕ) (x : JavaThread) → slice_get r.threads t ≡ Some x
    → slice_get (later r now).threads t ≡ Some (thread_at_time now x)
there_then r now t x at = map_there (thread_at_time now) r.threads t x at

pub none_then : (r : State) (now t : ℕ) → slice_get r.threads t ≡ None → slice_get (later r now).threads t ≡ None
none_then r now t at = map_none (thread_at_time now) r.threads t at

-- nobody ends, ..
done_then : (now : ℕ) (status : Status) → is_done (status_at_time now status) ≡ is_done status
done_then now New = refl
done_then now (Live phase) = refl
done_then now Done = refl

pub ended_then : (r : State) (now t : ℕ) → has_ended (later r now) t ≡ has_ended r t
ended_then r now t = by (slice_get r.threads t) refl
  where
    ended_at : Option JavaThread → Bool
    ended_at m = option_map_or (λ (x : JavaThread). is_done x.thread.status) m false

    by : (m : Option JavaThread) → slice_get r.threads t ≡ m → has_ended (later r now) t ≡ has_ended r t
    by None at = ap ended_at (none_then r now t at) ∙ sym (ap ended_at at)
    by (Some x) at = ap ended_at (there_then r now t x at) ∙ done_then now x.thread.status ∙ sym (ap ended_at at)

-- .. and so the program doesn't
keeps_status : (now : ℕ) (status : Status) (daemon : Bool) → table.phase_of status ≡ None → table.phase_of (status_at_time now status) ≡ None
keeps_status now New daemon e = refl
keeps_status now (Live phase) daemon e = absurd cc
keeps_status now Done daemon e = refl

keeps_then : (now : ℕ) (x : JavaThread) → keeps_going (thread_at_time now x) ≡ keeps_going x
keeps_then now x = by x.thread.status refl
  where
    keeps_with : Status → Bool
    keeps_with s = keeps_going (with_status_of x s)

    by : (status : Status) → x.thread.status ≡ status → keeps_going (thread_at_time now x) ≡ keeps_going x
    by New is = ap (λ s. keeps_with (status_at_time now s)) is ∙ sym (ap keeps_with is)
    by (Live phase) is = ap (λ s. keeps_with (status_at_time now s)) is ∙ sym (ap keeps_with is)
    by Done is = ap (λ s. keeps_with (status_at_time now s)) is ∙ sym (ap keeps_with is)

any_then : (now : ℕ) (xs : List JavaThread) → list_any keeps_going (map (thread_at_time now) xs) ≡ list_any keeps_going xs
any_then now [] = refl
any_then now (x ∷ xs) =
    ap (λ b. b || list_any keeps_going (map (thread_at_time now) xs)) (keeps_then now x)
    ∙ ap (λ b. keeps_going x || b) (any_then now xs)

pub ending_then : (r : State) (now : ℕ) → ending (later r now) ≡ ending r
ending_then r now =
    ap (λ b. exit_or r.memory.exited (if b then None else if r.main_threw then Some MainThrew else Some Ended)) (any_then now r.threads)

-- ---- the laws

-- a fact of the state at a time is one of the state that the tick gives
pub at_later : (r q : State) (now : ℕ) (P : State → Type 0) → at_time r now ≡ Some q → P (later r now) → P q
at_later r q now P tick fact = subst P (time_is r q now tick).1 fact

pub ticks_wake_waiters : TicksWakeWaiters
ticks_wake_waiters w r q now t x tick at waiting due =
    at_later r q now (λ (s : State). slice_get s.threads t ≡ Some (thread_woken TimedOut x)) tick
    (there_then r now t x at ∙ ap (λ y. Some y) (by x.thread.status refl))
  where
    has : deadline_in x.thread.status ≡ Some due.deadline
    has = sym (ap (λ m. option_map_or (λ (y : JavaThread). deadline_in y.thread.status) m None) at) ∙ due.has

    by : (status : Status) → x.thread.status ≡ status → thread_at_time now x ≡ thread_woken TimedOut x
    by (Live (Waiting o count deadline)) is =
        let same : deadline ≡ Some due.deadline = sym (ap deadline_in is) ∙ has in
        woken_then now x o count due.deadline (is ∙ ap (λ d. Live (Waiting o count d)) same) due.reached
    by New is = let z : false ≡ true = sym (ap (λ s. is_in_wait_list (spot_of s)) is) ∙ waiting in absurd cc
    by Done is = let z : false ≡ true = sym (ap (λ s. is_in_wait_list (spot_of s)) is) ∙ waiting in absurd cc
    by (Live Run) is = let z : false ≡ true = sym (ap (λ s. is_in_wait_list (spot_of s)) is) ∙ waiting in absurd cc
    by (Live (Throwing o)) is = let z : false ≡ true = sym (ap (λ s. is_in_wait_list (spot_of s)) is) ∙ waiting in absurd cc
    by (Live (Entering o)) is = let z : false ≡ true = sym (ap (λ s. is_in_wait_list (spot_of s)) is) ∙ waiting in absurd cc
    by (Live (Reenter o count wake)) is = let z : false ≡ true = sym (ap (λ s. is_in_wait_list (spot_of s)) is) ∙ waiting in absurd cc
    by (Live (Parked deadline)) is = let z : false ≡ true = sym (ap (λ s. is_in_wait_list (spot_of s)) is) ∙ waiting in absurd cc
    by (Live (Asleep deadline)) is = let z : false ≡ true = sym (ap (λ s. is_in_wait_list (spot_of s)) is) ∙ waiting in absurd cc
    by (Live (Joining u deadline)) is = let z : false ≡ true = sym (ap (λ s. is_in_wait_list (spot_of s)) is) ∙ waiting in absurd cc

pub ticks_leave_others : TicksLeaveOthers
ticks_leave_others w r q now t x tick open_waits at off =
    at_later r q now (λ (s : State). slice_get s.threads t ≡ Some x) tick
    (there_then r now t x at ∙ ap (λ y. Some y) (by off (timed r now t x open_waits at)))
  where
    by : (is_in_wait_list (spot_of x.thread.status) ≡ false) ⊎ (IsDue (look_of w r) now t → ⊥) → Timed r now x → thread_at_time now x ≡ x
    by other (waits o count deadline is off) = waits_then now x o count deadline is off
    by other (is_other loose) = other_then now x loose
    by (inl loose) (wakes o count deadline is coming reached) = other_then now x loose
    by (inr free) (wakes o count deadline is coming reached) =
        absurd (free (record {
          deadline = deadline;
          has =
              ap (λ m. option_map_or (λ (y : JavaThread). deadline_in y.thread.status) m None) at ∙ ap deadline_in is;
          to_come = coming;
          reached = reached;
        }))

pub ticks_change_time : TicksChangeTime
ticks_change_time r q now tick =
    record {
      later = ltb-true r.now now (time_is r q now tick).0;
      same = at_later r q now (λ (s : State). s ≡ record r { now = now; threads = s.threads }) tick refl;
      as_many = at_later r q now (λ (s : State). length s.threads ≡ length r.threads) tick (length-map r.threads (thread_at_time now));
      goes_on = at_later r q now (λ (s : State). ending s ≡ ending r) tick (ending_then r now);
    }
