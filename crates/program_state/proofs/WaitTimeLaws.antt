-- Time that goes on ends waits on monitors, one after the other.
use Rattle.std.proofs.Common.{arith, ◌≡◌, ◌≢◌, ◌⊎◌, ◌+◌, ◌<◌, ◌≤◌, ◌++◌, ℕ, true, false, List, [], ◌∷◌, Option, Some, None, eqb, get_or, inl, inr, length, refl, sym, subst, ap, take, ◌∙◌}
use Rattle.std.specs.Prelude.{Contains, slice_get, if◌then◌else◌}
use Rattle.std.specs.List.{AllByRecursion, IsDistinct}
use Rattle.std.specs.Option.{option_map_or}
use Rattle.std.proofs.lemmas.Grind.{common_steps}
use Rattle.std.proofs.lemmas.Bool.Decides.{eqb_tells}
use Rattle.thread_lists.specs.Lists.{without}
use Rattle.vthread_state.specs.declared.phase.Phase.{Phase}
use Rattle.vthread_state.specs.declared.phase.Phase.TheVariants.{Run, Throwing, Entering, Waiting, Reenter, Parked, Asleep, Joining}
use Rattle.vthread_state.specs.declared.phase.Wake.{Wake}
use Rattle.vthread_state.specs.declared.thread.Status.{Status}
use Rattle.vthread_state.specs.declared.thread.Status.TheVariants.{New, Live, Done}
use Rattle.vthread_state.specs.declared.thread.Thread.{Thread}
use Rattle.vthread_state.specs.Threads.{Threads, thread_at, threads_with}
use Rattle.schedule_model.specs.Look.{Look, Spot, absent, unstarted, in_no_list, in_entry_list, in_wait_list, done, is_waiting}
use Rattle.monitors.specs.Monitors.{Monitor, Monitors, monitor_of}
use Rattle.monitor_soundness.specs.TickLaws.{left_by, lined_up_by}
use Rattle.ref_model.specs.Looks.{spot_of}
use Rattle.ref_model.specs.Waiting.{phase_woken, status_woken}
use Rattle.ref_model.proofs.StateLaws.{get_set}
use Rattle.schedule_soundness.proofs.ThreadLists.{set_other}
use Rattle.program_state.specs.Monitors.{AreSeated, HasEndedWait, HaveEndedWaits, LeavesWait, owner_in, spot_in, with_woken}
use Rattle.program_state.proofs.DueLaws.{same_thread}
use Rattle.program_state.proofs.MemberLaws.{contains_first, contains_it, contains_more, contains_none}
use Rattle.program_state.proofs.SeatLaws.{eqb_other, eqb_same, left_owner, row_set}

-- ---- one more

ends_last : (wake : Wake) (ts : List ℕ) (t : ℕ) (a m n : Monitors) (table mid after : Threads) → HaveEndedWaits wake ts a table m mid → HasEndedWait wake t m mid n after
    → HaveEndedWaits wake (ts ++ t ∷ []) a table n after
ends_last wake [] t a m n table mid after e h = (n, after, subst (λ x. HasEndedWait wake t x table n after) e.0 (subst (λ y. HasEndedWait wake t m y n after) e.1 h), (refl, refl))
ends_last wake (u ∷ ts) t a m n table mid after e h = (e.0, e.1, e.2, ends_last wake ts t e.0 m n e.1 mid after e.3 h)

pub ends_more : (wake : Wake) (ts : List ℕ) (i : ℕ) (a m n : Monitors) (table mid after : Threads) → i < length ts → HaveEndedWaits wake (take i ts) a table m mid
    → HasEndedWait wake (get_or ts i 0) m mid n after → HaveEndedWaits wake (take (i + 1) ts) a table n after
ends_more wake ts i a m n table mid after inside before step =
    let t = get_or ts i 0 in
    let more : take (i + 1) ts ≡ take i ts ++ t ∷ [] = grind (arith, common_steps) in
    subst (λ us. HaveEndedWaits wake us a table n after) (sym more) (ends_last wake (take i ts) t a m n table mid after before step)

pub ends_all : (wake : Wake) (ts : List ℕ) (i : ℕ) (a n : Monitors) (table after : Threads) → length ts ≤ i → HaveEndedWaits wake (take i ts) a table n after → HaveEndedWaits wake ts a table n after
ends_all wake ts i a n table after past before =
    let all : take i ts ≡ ts = grind (arith, common_steps) in subst (λ us. HaveEndedWaits wake us a table n after) all before

-- ---- what holds after them

pub ends_seated : (wake : Wake) (ts : List ℕ) (a n : Monitors) (table after : Threads) → AreSeated a table → HaveEndedWaits wake ts a table n after → AreSeated n after
ends_seated wake [] a n table after seats e = subst (λ m. AreSeated m after) (sym e.0) (subst (AreSeated a) (sym e.1) seats)
ends_seated wake (t ∷ ts) a n table after seats e = ends_seated wake ts e.0 n e.1 after (e.2).seated e.3

pub ends_owner : (wake : Wake) (ts : List ℕ) (a n : Monitors) (table after : Threads) → HaveEndedWaits wake ts a table n after → (o : ℕ) → owner_in (monitor_of n o) ≡ owner_in (monitor_of a o)
ends_owner wake [] a n table after e o = ap (λ m. owner_in (monitor_of m o)) e.0
ends_owner wake (t ∷ ts) a n table after e o = ends_owner wake ts e.0 n e.1 after e.3 o ∙ left_owner t (spot_in table t) a e.0 (e.2).monitors o

pub ends_limit : (wake : Wake) (ts : List ℕ) (a n : Monitors) (table after : Threads) → HaveEndedWaits wake ts a table n after → after.limit ≡ table.limit
ends_limit wake [] a n table after e = ap (λ (x : Threads). x.limit) e.1
ends_limit wake (t ∷ ts) a n table after e = ends_limit wake ts e.0 n e.1 after e.3 ∙ ap (λ (x : Threads). x.limit) (e.2).threads

-- ---- the rows

abbrev pub woken_row : Wake → Thread → Thread
woken_row wake row = record row { status = status_woken wake row.status }

twice_phase : (wake : Wake) (phase : Phase) → phase_woken wake (phase_woken wake phase) ≡ phase_woken wake phase
twice_phase wake Run = refl
twice_phase wake (Throwing o) = refl
twice_phase wake (Entering o) = refl
twice_phase wake (Waiting o count deadline) = refl
twice_phase wake (Reenter o count ended) = refl
twice_phase wake (Parked deadline) = refl
twice_phase wake (Asleep deadline) = refl
twice_phase wake (Joining target deadline) = refl

twice : (wake : Wake) (status : Status) → status_woken wake (status_woken wake status) ≡ status_woken wake status
twice wake New = refl
twice wake (Live phase) = ap (λ k. Live k) (twice_phase wake phase)
twice wake Done = refl

-- another row stays
other_row : (wake : Wake) (table : Threads) (t u : ℕ) → u ≢ t → thread_at (with_woken wake table t) u ≡ thread_at table u
other_row wake table t u ne = by (thread_at table t)
  where
    by : (o : Option Thread) → slice_get (threads_with (woken_row wake) table.threads t o) u ≡ slice_get table.threads u
    by None = refl
    by (Some row) = set_other table.threads t u (woken_row wake row) ne

own_row : (wake : Wake) (table : Threads) (t : ℕ) (row : Thread) → thread_at table t ≡ Some row → thread_at (with_woken wake table t) t ≡ Some (woken_row wake row)
own_row wake table t row at = ap (λ ts. thread_at ts t) (row_set table t row (woken_row wake) at) ∙ get_set table.threads t row (woken_row wake row) at

no_row : (wake : Wake) (table : Threads) (t u : ℕ) → thread_at table u ≡ None → thread_at (with_woken wake table t) u ≡ None
no_row wake table t u none = by (eqb_tells u t)
  where
    by : ((eqb u t ≡ true) × (u ≡ t)) ⊎ ((eqb u t ≡ false) × (u ≢ t)) → thread_at (with_woken wake table t) u ≡ None
    by (inl me) =
        let gone : thread_at table t ≡ None = ap (thread_at table) (sym me.1) ∙ none in
        ap (λ o. slice_get (threads_with (woken_row wake) table.threads t o) u) gone ∙ none
    by (inr other) = other_row wake table t u other.1 ∙ none

pub ends_none : (wake : Wake) (ts : List ℕ) (a n : Monitors) (table after : Threads) (u : ℕ) → HaveEndedWaits wake ts a table n after → thread_at table u ≡ None → thread_at after u ≡ None
ends_none wake [] a n table after u e none = ap (λ ts. thread_at ts u) e.1 ∙ none
ends_none wake (t ∷ ts) a n table after u e none =
    ends_none wake ts e.0 n e.1 after u e.3 (ap (λ ts. thread_at ts u) (e.2).threads ∙ no_row wake table t u none)

-- one that is as if woken stays, ..
pub ends_still : (wake : Wake) (ts : List ℕ) (a n : Monitors) (table after : Threads) (u : ℕ) (row : Thread) → HaveEndedWaits wake ts a table n after → thread_at table u ≡ Some row
    → status_woken wake row.status ≡ row.status → thread_at after u ≡ Some row
ends_still wake [] a n table after u row e at still = ap (λ ts. thread_at ts u) e.1 ∙ at
ends_still wake (t ∷ ts) a n table after u row e at still =
    ends_still wake ts e.0 n e.1 after u row e.3 (ap (λ ts. thread_at ts u) (e.2).threads ∙ by (eqb_tells u t)) still
  where
    by : ((eqb u t ≡ true) × (u ≡ t)) ⊎ ((eqb u t ≡ false) × (u ≢ t)) → thread_at (with_woken wake table t) u ≡ Some row
    by (inl me) =
        ap (thread_at (with_woken wake table t)) me.1 ∙ own_row wake table t row (ap (thread_at table) (sym me.1) ∙ at) ∙ ap (λ s. Some (record row { status = s })) still
    by (inr other) = other_row wake table t u other.1 ∙ at

-- .. so does one whose wait doesn't end, ..
pub ends_out : (wake : Wake) (ts : List ℕ) (a n : Monitors) (table after : Threads) (u : ℕ) → HaveEndedWaits wake ts a table n after → (Contains ts u → ⊥) → thread_at after u ≡ thread_at table u
ends_out wake [] a n table after u e out = ap (λ ts. thread_at ts u) e.1
ends_out wake (t ∷ ts) a n table after u e out =
    ends_out wake ts e.0 n e.1 after u e.3 (λ c. out (contains_more t ts u c)) ∙ ap (λ ts. thread_at ts u) (e.2).threads
    ∙ other_row wake table t u (λ same. out (contains_it t ts u (sym same)))

-- .. and one whose wait ends is woken.
pub ends_in : (wake : Wake) (ts : List ℕ) (a n : Monitors) (table after : Threads) (u : ℕ) (row : Thread) → HaveEndedWaits wake ts a table n after → Contains ts u → thread_at table u ≡ Some row
    → thread_at after u ≡ Some (woken_row wake row)
ends_in wake [] a n table after u row e c at = absurd (contains_none u c)
ends_in wake (t ∷ ts) a n table after u row e c at = by wake t ts a n table after u row e (λ more there. ends_in wake ts e.0 n e.1 after u row e.3 more there) at (contains_first t ts u c) (eqb_tells u t)
  where
    by : (wake : Wake) (t : ℕ) (ts : List ℕ) (a n : Monitors) (table after : Threads) (u : ℕ) (row : Thread) (e : HaveEndedWaits wake (t ∷ ts) a table n after)
        → (Contains ts u → thread_at e.1 u ≡ Some row → thread_at after u ≡ Some (woken_row wake row)) → thread_at table u ≡ Some row → (t ≡ u) ⊎ Contains ts u
        → ((eqb u t ≡ true) × (u ≡ t)) ⊎ ((eqb u t ≡ false) × (u ≢ t)) → thread_at after u ≡ Some (woken_row wake row)
    by wake t ts a n table after u row e rest at first (inl me) =
        ends_still wake ts e.0 n e.1 after u (woken_row wake row) e.3
        (ap (λ ts. thread_at ts u) (e.2).threads ∙ ap (thread_at (with_woken wake table t)) me.1 ∙ own_row wake table t row (ap (thread_at table) (sym me.1) ∙ at)) (twice wake row.status)
    by wake t ts a n table after u row e rest at (inl first) (inr other) = absurd (other.1 (sym first))
    by wake t ts a n table after u row e rest at (inr more) (inr other) = rest more (ap (λ ts. thread_at ts u) (e.2).threads ∙ other_row wake table t u other.1 ∙ at)

-- ---- the lists

waits_moved : (t o : ℕ) (s : Spot) (a n : Monitors) → LeavesWait t s a n
    → (monitor_of n o).wait_list ≡ (if is_waiting o s then without t (monitor_of a o).wait_list else (monitor_of a o).wait_list)
waits_moved t o (in_wait_list p) a n becomes = by (eqb_tells o p)
  where
    by : ((eqb o p ≡ true) × (o ≡ p)) ⊎ ((eqb o p ≡ false) × (o ≢ p)) → (monitor_of n o).wait_list ≡ (if eqb p o then without t (monitor_of a o).wait_list else (monitor_of a o).wait_list)
    by (inl here) =
        subst (λ i. (monitor_of n i).wait_list ≡ (if eqb p i then without t (monitor_of a i).wait_list else (monitor_of a i).wait_list)) (sym here.1)
        (ap (λ (m : Monitor). m.wait_list) becomes.changed ∙ sym (ap (λ b. if b then without t (monitor_of a p).wait_list else (monitor_of a p).wait_list) (eqb_same p)))
    by (inr far) =
        ap (λ (m : Monitor). m.wait_list) (becomes.others o far.1)
        ∙ sym (ap (λ b. if b then without t (monitor_of a o).wait_list else (monitor_of a o).wait_list) (eqb_other p o (λ e. far.1 (sym e))))
waits_moved t o absent a n same = ap (λ m. (monitor_of m o).wait_list) same
waits_moved t o unstarted a n same = ap (λ m. (monitor_of m o).wait_list) same
waits_moved t o in_no_list a n same = ap (λ m. (monitor_of m o).wait_list) same
waits_moved t o (in_entry_list p) a n same = ap (λ m. (monitor_of m o).wait_list) same
waits_moved t o done a n same = ap (λ m. (monitor_of m o).wait_list) same

enters_moved : (t o : ℕ) (s : Spot) (a n : Monitors) → LeavesWait t s a n
    → (monitor_of n o).entry_list ≡ (if is_waiting o s then (monitor_of a o).entry_list ++ t ∷ [] else (monitor_of a o).entry_list)
enters_moved t o (in_wait_list p) a n becomes = by (eqb_tells o p)
  where
    by : ((eqb o p ≡ true) × (o ≡ p)) ⊎ ((eqb o p ≡ false) × (o ≢ p)) → (monitor_of n o).entry_list ≡ (if eqb p o then (monitor_of a o).entry_list ++ t ∷ [] else (monitor_of a o).entry_list)
    by (inl here) =
        subst (λ i. (monitor_of n i).entry_list ≡ (if eqb p i then (monitor_of a i).entry_list ++ t ∷ [] else (monitor_of a i).entry_list)) (sym here.1)
        (ap (λ (m : Monitor). m.entry_list) becomes.changed ∙ sym (ap (λ b. if b then (monitor_of a p).entry_list ++ t ∷ [] else (monitor_of a p).entry_list) (eqb_same p)))
    by (inr far) =
        ap (λ (m : Monitor). m.entry_list) (becomes.others o far.1)
        ∙ sym (ap (λ b. if b then (monitor_of a o).entry_list ++ t ∷ [] else (monitor_of a o).entry_list) (eqb_other p o (λ e. far.1 (sym e))))
enters_moved t o absent a n same = ap (λ m. (monitor_of m o).entry_list) same
enters_moved t o unstarted a n same = ap (λ m. (monitor_of m o).entry_list) same
enters_moved t o in_no_list a n same = ap (λ m. (monitor_of m o).entry_list) same
enters_moved t o (in_entry_list p) a n same = ap (λ m. (monitor_of m o).entry_list) same
enters_moved t o done a n same = ap (λ m. (monitor_of m o).entry_list) same

-- a thread of a list without one twice isn't the one before it
all_other : (t : ℕ) (ts : List ℕ) → AllByRecursion (λ u. same_thread t u ≡ false) ts → (u : ℕ) → Contains ts u → t ≢ u
all_other t [] all u c = absurd (contains_none u c)
all_other t (x ∷ ts) all u c = first t x ts u all.0 (all_other t ts all.1 u) (contains_first x ts u c)
  where
    first : (t x : ℕ) (ts : List ℕ) (u : ℕ) → same_thread t x ≡ false → (Contains ts u → t ≢ u) → (x ≡ u) ⊎ Contains ts u → t ≢ u
    first t x ts u off rest (inl same) e = let no : true ≡ false = sym (ap (same_thread t) (same ∙ sym e) ∙ eqb_same t) ∙ off in absurd cc
    first t x ts u off rest (inr more) e = rest more e

distinct_parts : (t : ℕ) (ts : List ℕ) → IsDistinct same_thread (t ∷ ts) → ((u : ℕ) → Contains ts u → t ≢ u) × IsDistinct same_thread ts
unfolding IsDistinct
distinct_parts t ts d = (all_other t ts d.0, d.1)

-- these threads are seen where the table has them
abbrev pub AreSeen : List ℕ → Threads → Look → Type 0
AreSeen ts table l = (u : ℕ) → Contains ts u → l.spot u ≡ spot_in table u

rest_seen : (wake : Wake) (t : ℕ) (ts : List ℕ) (table between : Threads) (l : Look) → AreSeen (t ∷ ts) table l → IsDistinct same_thread (t ∷ ts) → between ≡ with_woken wake table t
    → AreSeen ts between l
rest_seen wake t ts table between l seen one set u c =
    let ne = (distinct_parts t ts one).0 u c in
    let same : spot_in between u ≡ spot_in table u =
    ap (λ o. option_map_or (λ (thread : Thread). spot_of thread.status) o absent) (ap (λ x. thread_at x u) set ∙ other_row wake table t u (λ e. ne (sym e))) in
    seen u (contains_more t ts u c) ∙ sym same

pub ends_waits : (wake : Wake) (ts : List ℕ) (a n : Monitors) (table after : Threads) (l : Look) → HaveEndedWaits wake ts a table n after → IsDistinct same_thread ts → AreSeen ts table l
    → (o : ℕ) → (monitor_of n o).wait_list ≡ left_by l o ts (monitor_of a o).wait_list
ends_waits wake [] a n table after l e one seen o = ap (λ m. (monitor_of m o).wait_list) e.0
ends_waits wake (t ∷ ts) a n table after l e one seen o =
    ends_waits wake ts e.0 n e.1 after l e.3 (distinct_parts t ts one).1 (rest_seen wake t ts table e.1 l seen one (e.2).threads) o
    ∙ ap (left_by l o ts) (waits_moved t o (spot_in table t) a e.0 (e.2).monitors
    ∙ ap (λ s. if is_waiting o s then without t (monitor_of a o).wait_list else (monitor_of a o).wait_list) (sym (seen t (contains_it t ts t refl))))

pub ends_enters : (wake : Wake) (ts : List ℕ) (a n : Monitors) (table after : Threads) (l : Look) → HaveEndedWaits wake ts a table n after → IsDistinct same_thread ts → AreSeen ts table l
    → (o : ℕ) → (monitor_of n o).entry_list ≡ lined_up_by l o ts (monitor_of a o).entry_list
ends_enters wake [] a n table after l e one seen o = ap (λ m. (monitor_of m o).entry_list) e.0
ends_enters wake (t ∷ ts) a n table after l e one seen o =
    ends_enters wake ts e.0 n e.1 after l e.3 (distinct_parts t ts one).1 (rest_seen wake t ts table e.1 l seen one (e.2).threads) o
    ∙ ap (lined_up_by l o ts) (enters_moved t o (spot_in table t) a e.0 (e.2).monitors
    ∙ ap (λ s. if is_waiting o s then (monitor_of a o).entry_list ++ t ∷ [] else (monitor_of a o).entry_list) (sym (seen t (contains_it t ts t refl))))
