-- A thread lines up for a monitor: it is in the lists in which its phase says so.
use Rattle.std.proofs.Common.{arith, ◌≡◌, ◌≢◌, ◌≤◌, ◌+◌, ◌++◌, ◌⊎◌, ℕ, true, false, not, List, [], ◌∷◌, Option, Some, None, eqb, inl, inr, length, refl, sym, subst, ap, ◌∙◌, add-zero}
use Rattle.std.specs.Prelude.{◌<◌, slice_set}
use Rattle.std.specs.Option.{option_map_or}
use Rattle.std.proofs.Math.ListN.{length-set}
use Rattle.std.proofs.lemmas.Option.{slice_get_past}
use Rattle.std.proofs.lemmas.Bool.Decides.{eqb_tells}
use Rattle.thread_lists.specs.Lists.{count, without}
use Rattle.thread_lists.proofs.CountLaws.{count-append, count-other, count-same, count-without}
use Rattle.vthread_state.specs.declared.phase.Phase.{Phase}
use Rattle.vthread_state.specs.declared.phase.Phase.TheVariants.{Run, Throwing, Entering, Waiting, Reenter, Parked, Asleep, Joining}
use Rattle.vthread_state.specs.declared.phase.Wake.{Wake}
use Rattle.vthread_state.specs.declared.thread.Status.{Status}
use Rattle.vthread_state.specs.declared.thread.Status.TheVariants.{New, Live, Done}
use Rattle.vthread_state.specs.declared.thread.Thread.{Thread}
use Rattle.vthread_state.specs.Threads.{Threads, thread_at, threads_with, with_status, with_thread}
use Rattle.schedule_model.specs.Look.{Spot, absent, unstarted, in_no_list, in_entry_list, in_wait_list, done, is_entering, is_in_wait_list, is_waiting}
use Rattle.schedule_model.specs.Woken.{once_if}
use Rattle.schedule_model.proofs.ListLaws.{count-filter_yes}
use Rattle.monitors.specs.Monitors.{Becomes, Monitor, Monitors, after_leave_wait, after_line_up, monitor_of}
use Rattle.ref_model.specs.Looks.{spot_in as spot_of_phase, spot_of}
use Rattle.ref_model.specs.Waiting.{phase_woken, status_woken}
use Rattle.ref_model.proofs.StateLaws.{get_set, set_same}
use Rattle.schedule_soundness.proofs.ThreadLists.{set_other}
use Rattle.program_state.specs.Monitors.{AreSeated, HasEndedWait, HaveSameLists, LeavesWait, LinesUpFor, ListsMove, stay, wait_ends, lines_up, owner_in, spot_in, with_woken}

-- ---- a list that a thread leaves, or comes to

left_other : (t u : ℕ) (xs : List ℕ) → t ≢ u → count t (without u xs) ≡ count t xs
left_other t u xs ne = by (eqb_tells t u)
  where
    by : ((eqb t u ≡ true) × (t ≡ u)) ⊎ ((eqb t u ≡ false) × (t ≢ u)) → count t (without u xs) ≡ count t xs
    by (inl same) = absurd (ne same.1)
    by (inr other) = count-filter_yes t (λ x. not (eqb x u)) xs (ap not other.0)

last_same : (t : ℕ) (xs : List ℕ) → count t (xs ++ t ∷ []) ≡ count t xs + 1
last_same t xs = count-append t xs (t ∷ []) ∙ ap (λ n. count t xs + n) (count-same t [])

last_other : (t u : ℕ) (xs : List ℕ) → t ≢ u → count t (xs ++ u ∷ []) ≡ count t xs
last_other t u xs ne = count-append t xs (u ∷ []) ∙ ap (λ n. count t xs + n) (count-other t u [] (λ e. ne (sym e))) ∙ add-zero (count t xs)

-- ---- thread u comes in line for monitor o

pub eqb_same : (n : ℕ) → eqb n n ≡ true
eqb_same n = by (eqb_tells n n)
  where
    by : ((eqb n n ≡ true) × (n ≡ n)) ⊎ ((eqb n n ≡ false) × (n ≢ n)) → eqb n n ≡ true
    by (inl same) = same.0
    by (inr other) = absurd (other.1 refl)

pub eqb_other : (m n : ℕ) → m ≢ n → eqb m n ≡ false
eqb_other m n ne = by (eqb_tells m n)
  where
    by : ((eqb m n ≡ true) × (m ≡ n)) ⊎ ((eqb m n ≡ false) × (m ≢ n)) → eqb m n ≡ false
    by (inl same) = absurd (ne same.1)
    by (inr other) = other.0

-- where threads are, before and after that
pub record ComesInLine (u o : ℕ) (old new : Threads) : Type 0 where
  pub was : (p : ℕ) → is_entering p (spot_in old u) ≡ false
  pub waited : (p : ℕ) → p ≢ o → is_waiting p (spot_in old u) ≡ false
  pub is : spot_in new u ≡ in_entry_list o
  pub others : (t : ℕ) → t ≢ u → spot_in new t ≡ spot_in old t
  pub places : length new.threads ≡ length old.threads

-- how often each thread is in two lists of a monitor, with the threads in their spots
seats_in : (a new : Monitors) (table after : Threads) (u o : ℕ) → AreSeated a table → ComesInLine u o table after
    → (monitor_of new o).entry_list ≡ (monitor_of a o).entry_list ++ u ∷ [] → ((p : ℕ) → p ≢ o → monitor_of new p ≡ monitor_of a p)
    → (t p : ℕ) → count t (monitor_of new p).entry_list ≡ once_if (is_entering p (spot_in after t))
seats_in a new table after u o seats comes list others t p = by (eqb_tells p o) (eqb_tells t u)
  where
    own : (t : ℕ) → ((eqb t u ≡ true) × (t ≡ u)) ⊎ ((eqb t u ≡ false) × (t ≢ u)) → count t (monitor_of new o).entry_list ≡ once_if (is_entering o (spot_in after t))
    own t (inl me) =
        subst (λ n. count n (monitor_of new o).entry_list ≡ once_if (is_entering o (spot_in after n))) (sym me.1)
        (ap (count u) list ∙ last_same u (monitor_of a o).entry_list ∙ ap (λ n. n + 1) (seats.enters u o ∙ ap once_if (comes.was o))
        ∙ sym (ap (λ s. once_if (is_entering o s)) comes.is ∙ ap once_if (eqb_same o)))
    own t (inr other) =
        ap (count t) list ∙ last_other t u (monitor_of a o).entry_list other.1 ∙ seats.enters t o ∙ ap (λ s. once_if (is_entering o s)) (sym (comes.others t other.1))

    by : ((eqb p o ≡ true) × (p ≡ o)) ⊎ ((eqb p o ≡ false) × (p ≢ o)) → ((eqb t u ≡ true) × (t ≡ u)) ⊎ ((eqb t u ≡ false) × (t ≢ u))
        → count t (monitor_of new p).entry_list ≡ once_if (is_entering p (spot_in after t))
    by (inl here) case = subst (λ n. count t (monitor_of new n).entry_list ≡ once_if (is_entering n (spot_in after t))) (sym here.1) (own t case)
    by (inr far) (inl me) =
        subst (λ n. count n (monitor_of new p).entry_list ≡ once_if (is_entering p (spot_in after n))) (sym me.1)
        (ap (λ (m : Monitor). count u m.entry_list) (others p far.1) ∙ seats.enters u p ∙ ap once_if (comes.was p)
        ∙ sym (ap (λ s. once_if (is_entering p s)) comes.is ∙ ap once_if (eqb_other o p (λ e. far.1 (sym e)))))
    by (inr far) (inr other) =
        ap (λ (m : Monitor). count t m.entry_list) (others p far.1) ∙ seats.enters t p ∙ ap (λ s. once_if (is_entering p s)) (sym (comes.others t other.1))

waiters_in : (a new : Monitors) (table after : Threads) (u o : ℕ) → AreSeated a table → ComesInLine u o table after
    → (count u (monitor_of new o).wait_list ≡ 0) → ((t : ℕ) → t ≢ u → count t (monitor_of new o).wait_list ≡ count t (monitor_of a o).wait_list)
    → ((p : ℕ) → p ≢ o → monitor_of new p ≡ monitor_of a p) → (t p : ℕ) → count t (monitor_of new p).wait_list ≡ once_if (is_waiting p (spot_in after t))
waiters_in a new table after u o seats comes gone rest others t p = by (eqb_tells p o) (eqb_tells t u)
  where
    own : (t : ℕ) → ((eqb t u ≡ true) × (t ≡ u)) ⊎ ((eqb t u ≡ false) × (t ≢ u)) → count t (monitor_of new o).wait_list ≡ once_if (is_waiting o (spot_in after t))
    own t (inl me) =
        subst (λ n. count n (monitor_of new o).wait_list ≡ once_if (is_waiting o (spot_in after n))) (sym me.1)
        (gone ∙ sym (ap (λ s. once_if (is_waiting o s)) comes.is))
    own t (inr other) = rest t other.1 ∙ seats.waits t o ∙ ap (λ s. once_if (is_waiting o s)) (sym (comes.others t other.1))

    by : ((eqb p o ≡ true) × (p ≡ o)) ⊎ ((eqb p o ≡ false) × (p ≢ o)) → ((eqb t u ≡ true) × (t ≡ u)) ⊎ ((eqb t u ≡ false) × (t ≢ u))
        → count t (monitor_of new p).wait_list ≡ once_if (is_waiting p (spot_in after t))
    by (inl here) case = subst (λ n. count t (monitor_of new n).wait_list ≡ once_if (is_waiting n (spot_in after t))) (sym here.1) (own t case)
    by (inr far) (inl me) =
        subst (λ n. count n (monitor_of new p).wait_list ≡ once_if (is_waiting p (spot_in after n))) (sym me.1)
        (ap (λ (m : Monitor). count u m.wait_list) (others p far.1) ∙ seats.waits u p ∙ ap once_if (comes.waited p far.1)
        ∙ sym (ap (λ s. once_if (is_waiting p s)) comes.is))
    by (inr far) (inr other) =
        ap (λ (m : Monitor). count t m.wait_list) (others p far.1) ∙ seats.waits t p ∙ ap (λ s. once_if (is_waiting p s)) (sym (comes.others t other.1))

-- from the wait list of that monitor
pub seats_left : (a new : Monitors) (table after : Threads) (u o : ℕ) → AreSeated a table → ComesInLine u o table after → Becomes a new o (after_leave_wait u (monitor_of a o)) → AreSeated new after
seats_left a new table after u o seats comes becomes = record {
  waits = waiters_in a new table after u o seats comes (ap (λ (m : Monitor). count u m.wait_list) becomes.changed ∙ count-without u (monitor_of a o).wait_list)
      (λ t ne. ap (λ (m : Monitor). count t m.wait_list) becomes.changed ∙ left_other t u (monitor_of a o).wait_list ne) becomes.others;
  enters = seats_in a new table after u o seats comes (ap (λ (m : Monitor). m.entry_list) becomes.changed) becomes.others;
  places = becomes.threads ∙ seats.places ∙ sym comes.places;
}

-- ---- the end of a wait, in the table

-- a row of the table was changed
pub row_set : (table : Threads) (u : ℕ) (row : Thread) (f : Thread → Thread) → thread_at table u ≡ Some row → with_thread table u f ≡ record table { threads = slice_set table.threads u (f row) }
row_set table u row f at = rw at refl

spot_set : (table : Threads) (u : ℕ) (row : Thread) (f : Thread → Thread) → thread_at table u ≡ Some row → spot_in (with_thread table u f) u ≡ spot_of (f row).status
spot_set table u row f at =
    ap (λ ts. spot_in ts u) (row_set table u row f at)
    ∙ ap (λ o. option_map_or (λ (thread : Thread). spot_of thread.status) o absent) (get_set table.threads u row (f row) at)

pub comes_in_line : (table : Threads) (u o : ℕ) (row : Thread) (f : Thread → Thread) → thread_at table u ≡ Some row → spot_of (f row).status ≡ in_entry_list o
    → ((p : ℕ) → is_entering p (spot_of row.status) ≡ false) → ((p : ℕ) → p ≢ o → is_waiting p (spot_of row.status) ≡ false) → ComesInLine u o table (with_thread table u f)
comes_in_line table u o row f at enters was waited = record {
  was = λ p. ap (is_entering p) own ∙ was p;
  waited = λ p ne. ap (is_waiting p) own ∙ waited p ne;
  is = spot_set table u row f at ∙ enters;
  others = λ t ne. ap (λ ts. spot_in ts t) (row_set table u row f at)
      ∙ ap (λ o. option_map_or (λ (thread : Thread). spot_of thread.status) o absent) (set_other table.threads u t (f row) ne);
  places = ap (λ (ts : Threads). length ts.threads) (row_set table u row f at) ∙ length-set table.threads u (f row);
}
  where
    own : spot_in table u ≡ spot_of row.status
    own = ap (λ o. option_map_or (λ (thread : Thread). spot_of thread.status) o absent) at

-- the thread waits there
pub waits_there : (a : Monitors) (table : Threads) (u o count' : ℕ) (deadline : Option ℕ) (row : Thread) → AreSeated a table → thread_at table u ≡ Some row
    → row.status ≡ Live (Waiting o count' deadline) → 0 < count u (monitor_of a o).wait_list
waits_there a table u o count' deadline row seats at status = subst (λ n. 0 < n) (sym once) one
  where
    once : count u (monitor_of a o).wait_list ≡ 1
    once =
        seats.waits u o
        ∙ ap (λ m. once_if (is_waiting o (option_map_or (λ (thread : Thread). spot_of thread.status) m absent))) at
        ∙ ap (λ s. once_if (is_waiting o (spot_of s))) status ∙ ap once_if (eqb_same o)

    one : 0 < 1
    one = omega arith

pub woken_same : (wake : Wake) (phase : Phase) → is_in_wait_list (spot_of_phase phase) ≡ false → phase_woken wake phase ≡ phase
woken_same wake Run free = refl
woken_same wake (Throwing o) free = refl
woken_same wake (Entering o) free = refl
woken_same wake (Waiting o count deadline) free = absurd cc
woken_same wake (Reenter o count ended) free = refl
woken_same wake (Parked deadline) free = refl
woken_same wake (Asleep deadline) free = refl
woken_same wake (Joining target deadline) free = refl

pub still_status : (wake : Wake) (status : Status) → is_in_wait_list (spot_of status) ≡ false → status_woken wake status ≡ status
still_status wake New e = refl
still_status wake (Live phase) e = ap (λ k. Live k) (woken_same wake phase e)
still_status wake Done e = refl

-- A thread that waits in no list stays, and all else does.
pub no_wait_ends : (wake : Wake) (u : ℕ) (a : Monitors) (table : Threads) (row : Thread) → AreSeated a table → thread_at table u ≡ Some row → is_in_wait_list (spot_of row.status) ≡ false
    → HasEndedWait wake u a table a table
no_wait_ends wake u a table row seats at free = record {
  threads = sym (row_set table u row (λ thread. record thread { status = status_woken wake thread.status }) at
      ∙ ap (λ s. record table { threads = slice_set table.threads u (record row { status = s }) }) (still_status wake row.status free)
      ∙ ap (λ ts. record table { threads = ts }) (set_same table.threads u row at));
  monitors = subst (λ s. LeavesWait u s a a) (sym (ap (λ o. option_map_or (λ (thread : Thread). spot_of thread.status) o absent) at)) (left (spot_of row.status) free);
  seated = seats;
}
  where
    left : (s : Spot) → is_in_wait_list s ≡ false → LeavesWait u s a a
    left (in_wait_list o) e = absurd cc
    left s e = refl

pub none_there : (wake : Wake) (u : ℕ) (a : Monitors) (table : Threads) → AreSeated a table → length table.threads ≤ u → HasEndedWait wake u a table a table
none_there wake u a table seats past =
    let none : thread_at table u ≡ None = slice_get_past table.threads u past in
    record {
      threads = sym (ap (λ o. record table { threads = threads_with (λ thread. record thread { status = status_woken wake thread.status }) table.threads u o }) none);
      monitors = subst (λ s. LeavesWait u s a a) (sym (ap (λ o. option_map_or (λ (thread : Thread). spot_of thread.status) o absent) none)) refl;
      seated = seats;
    }

pub idle_waits : (status : Status) → ((phase : Phase) → status ≡ Live phase → ⊥) → is_in_wait_list (spot_of status) ≡ false
idle_waits New other = refl
idle_waits (Live phase) other = absurd (other phase refl)
idle_waits Done other = refl

-- A thread that waits on a monitor lines up for it.
pub wait_ended : (wake : Wake) (u o count' : ℕ) (deadline : Option ℕ) (a new : Monitors) (table after : Threads) (row : Thread) → AreSeated a table → thread_at table u ≡ Some row
    → row.status ≡ Live (Waiting o count' deadline) → Becomes a new o (after_leave_wait u (monitor_of a o)) → after ≡ with_status table u (Live (Reenter o count' wake))
    → HasEndedWait wake u a table new after
wait_ended wake u o count' deadline a new table after row seats at status becomes set =
    let same : after ≡ with_woken wake table u =
    set ∙ row_set table u row (λ thread. record thread { status = Live (Reenter o count' wake) }) at
    ∙ ap (λ s. record table { threads = slice_set table.threads u (record row { status = s }) }) (sym (ap (status_woken wake) status))
    ∙ sym (row_set table u row (λ thread. record thread { status = status_woken wake thread.status }) at) in
    record {
      threads = same;
      monitors = subst (λ s. LeavesWait u s a new) (sym (ap (λ m. option_map_or (λ (thread : Thread). spot_of thread.status) m absent) at ∙ ap spot_of status)) becomes;
      seated = subst (AreSeated new) (sym same) (seats_left a new table (with_woken wake table u) u o seats
          (comes_in_line table u o row (λ thread. record thread { status = status_woken wake thread.status }) at (ap (λ s. spot_of (status_woken wake s)) status)
          (λ p. ap (λ s. is_entering p (spot_of s)) status) (λ p ne. ap (λ s. is_waiting p (spot_of s)) status ∙ eqb_other o p (λ e. ne (sym e)))) becomes);
    }

pub plain_waits : (phase : Phase) → ((o count : ℕ) (deadline : Option ℕ) → phase ≡ Waiting o count deadline → ⊥) → is_in_wait_list (spot_of_phase phase) ≡ false
plain_waits Run other = refl
plain_waits (Throwing o) other = refl
plain_waits (Entering o) other = refl
plain_waits (Waiting o count deadline) other = absurd (other o count deadline refl)
plain_waits (Reenter o count ended) other = refl
plain_waits (Parked deadline) other = refl
plain_waits (Asleep deadline) other = refl
plain_waits (Joining target deadline) other = refl

-- ---- what stays then, and how lists moved

pub same_lists_of : (a new : Monitors) → new ≡ a → HaveSameLists a new
same_lists_of a new same = record { waits = λ o. ap (λ m. (monitor_of m o).wait_list) same; enters = λ o. ap (λ m. (monitor_of m o).entry_list) same }

pub left_owner : (u : ℕ) (s : Spot) (a new : Monitors) → LeavesWait u s a new → (o : ℕ) → owner_in (monitor_of new o) ≡ owner_in (monitor_of a o)
left_owner u (in_wait_list p) a new becomes o = by (eqb_tells o p)
  where
    by : ((eqb o p ≡ true) × (o ≡ p)) ⊎ ((eqb o p ≡ false) × (o ≢ p)) → owner_in (monitor_of new o) ≡ owner_in (monitor_of a o)
    by (inl here) = subst (λ n. owner_in (monitor_of new n) ≡ owner_in (monitor_of a n)) (sym here.1) (ap owner_in becomes.changed)
    by (inr far) = ap owner_in (becomes.others o far.1)
left_owner u absent a new same o = ap (λ m. owner_in (monitor_of m o)) same
left_owner u unstarted a new same o = ap (λ m. owner_in (monitor_of m o)) same
left_owner u in_no_list a new same o = ap (λ m. owner_in (monitor_of m o)) same
left_owner u (in_entry_list p) a new same o = ap (λ m. owner_in (monitor_of m o)) same
left_owner u done a new same o = ap (λ m. owner_in (monitor_of m o)) same

pub left_moves : (u : ℕ) (s : Spot) (a new : Monitors) → LeavesWait u s a new → ListsMove a new
left_moves u (in_wait_list o) a new becomes = wait_ends u o becomes
left_moves u absent a new same = stay (same_lists_of a new same)
left_moves u unstarted a new same = stay (same_lists_of a new same)
left_moves u in_no_list a new same = stay (same_lists_of a new same)
left_moves u (in_entry_list o) a new same = stay (same_lists_of a new same)
left_moves u done a new same = stay (same_lists_of a new same)

-- ---- a new thread lines up

pub seats_lined : (a new : Monitors) (table : Threads) (u o : ℕ) (row : Thread) → AreSeated a table → thread_at table u ≡ Some row → row.status ≡ New
    → Becomes a new o (after_line_up u (monitor_of a o)) → AreSeated new (with_status table u (Live (Entering o)))
seats_lined a new table u o row seats at status becomes = record {
  waits = waiters_in a new table after u o seats comes
      (ap (λ (m : Monitor). count u m.wait_list) becomes.changed ∙ seats.waits u o ∙ ap (λ s. once_if (is_waiting o s)) own)
      (λ t ne. ap (λ (m : Monitor). count t m.wait_list) becomes.changed) becomes.others;
  enters = seats_in a new table after u o seats comes (ap (λ (m : Monitor). m.entry_list) becomes.changed) becomes.others;
  places = becomes.threads ∙ seats.places ∙ sym comes.places;
}
  where
    after : Threads
    after = with_status table u (Live (Entering o))

    own : spot_in table u ≡ unstarted
    own = ap (λ m. option_map_or (λ (thread : Thread). spot_of thread.status) m absent) at ∙ ap spot_of status

    comes : ComesInLine u o table after
    comes = comes_in_line table u o row (λ thread. record thread { status = Live (Entering o) }) at refl (λ p. ap (λ s. is_entering p (spot_of s)) status)
        (λ p ne. ap (λ s. is_waiting p (spot_of s)) status)

pub lined_owner : (u o : ℕ) (a new : Monitors) → Becomes a new o (after_line_up u (monitor_of a o)) → (p : ℕ) → owner_in (monitor_of new p) ≡ owner_in (monitor_of a p)
lined_owner u o a new becomes p = by (eqb_tells p o)
  where
    by : ((eqb p o ≡ true) × (p ≡ o)) ⊎ ((eqb p o ≡ false) × (p ≢ o)) → owner_in (monitor_of new p) ≡ owner_in (monitor_of a p)
    by (inl here) = subst (λ n. owner_in (monitor_of new n) ≡ owner_in (monitor_of a n)) (sym here.1) (ap owner_in becomes.changed)
    by (inr far) = ap owner_in (becomes.others p far.1)

-- there was made room for it first
pub lined_up : (t o : ℕ) (a mid new : Monitors) → ((p : ℕ) → monitor_of mid p ≡ monitor_of a p) → mid.threads ≡ a.threads → a.spare ≤ mid.spare
    → Becomes mid new o (after_line_up t (monitor_of mid o)) → Becomes a new o (after_line_up t (monitor_of a o))
lined_up t o a mid new same threads spare becomes = record {
  changed = becomes.changed ∙ ap (after_line_up t) (same o);
  others = λ p ne. becomes.others p ne ∙ same p;
  threads = becomes.threads ∙ threads;
  spare = omega (arith, spare, becomes.spare);
}

pub line_moves : (t : ℕ) (monitor : Option ℕ) (a new : Monitors) → LinesUpFor t monitor a new → ListsMove a new
line_moves t None a new same = stay (same_lists_of a new same)
line_moves t (Some o) a new becomes = lines_up t o becomes
