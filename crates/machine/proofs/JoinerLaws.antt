-- Whom the end of a thread puts: those that wait for it and are in no place, and the first in line for a monitor that it left.
use Rattle.std.proofs.Common.{◌≡◌, ◌≢◌, ◌⊎◌, inl, inr, ℕ, zero, suc, Bool, true, false, List, [], ◌∷◌, Option, None, Some, refl, ap, sym, subst, ◌∙◌, arith, cond}
use Rattle.std.specs.Prelude.{◌↔◌, Contains, filter, is_some, map, slice_get}
use Rattle.std.specs.Option.{option_map_or}
use Rattle.std.proofs.lemmas.Bool.{cases_Bool, eq-eqb, eqb-true}
use Rattle.items.specs.Options.{◌>>=◌}
use Rattle.vthread_state.specs.declared.phase.Phase.TheVariants.{Run, Throwing, Entering, Waiting, Reenter, Parked, Asleep, Joining}
use Rattle.vthread_state.specs.declared.thread.Status.{Status}
use Rattle.vthread_state.specs.declared.thread.Status.TheVariants.{New, Live, Done}
use Rattle.vthread_state.specs.Threads.{joins, joins_in, target_of_status}
use Rattle.continuation.specs.Continuation.{Continuation}
use Rattle.schedule_model.specs.Schedule.{Schedule, in_deques, places}
use Rattle.schedule_model.specs.Run.{Scheduled}
use Rattle.ref_model.specs.Setting.{Setting}
use Rattle.ref_model.specs.State.{JavaThread, State}
use Rattle.ref_model.specs.Enabled.{has_ended, is_done}
use Rattle.ref_model.specs.Ending.{ending, is_live}
use Rattle.schedule_soundness.specs.HistoryLaws.{IsProgramAfter}
use Rattle.schedule_soundness.specs.PutLaws.{Stays, no_thread, is_new, is_kept, rows_of}
use Rattle.program_state.specs.declared.state.ProgramState.{ProgramState}
use Rattle.program_state.specs.States.{IsKept, IsState, absent, mounted, waiting, idle}
use Rattle.program_state.specs.Waiting.{lies_in}
use Rattle.machine.specs.Insides.{is_out}
use Rattle.machine.specs.Hands.{IsLive}
use Rattle.machine.specs.Puts.{AreWokenWith, is_loose}
use Rattle.machine.proofs.PlaceLaws.{in_from, in_none}
use Rattle.machine.proofs.StateLaws.{lies, live_is}

no_both : (b : Bool) → b ≡ true → b ≡ false → ⊥
no_both b i j = absurd cc

same_thread : (o : Option JavaThread) (x y : JavaThread) → o ≡ Some x → o ≡ Some y → x ≡ y
same_thread o x y e f = cc

-- ---- a thread that joins another

-- the thread, and until when it waits
pub record Joins (o : Option JavaThread) (t : ℕ) : Type 0 where
  pub thread : JavaThread
  pub at : o ≡ Some thread
  pub deadline : Option ℕ
  pub status : thread.thread.status ≡ Live (Joining t deadline)

inner : (a b : ℕ) → ◌≡◌ {A = Option ℕ} (Some a) (Some b) → a ≡ b
inner a b e = cc

status_joins : (status : Status) (t : ℕ) → target_of_status status ≡ Some t → (deadline : Option ℕ) × (status ≡ Live (Joining t deadline))
status_joins New t e = absurd cc
status_joins Done t e = absurd cc
status_joins (Live (Joining u deadline)) t e = (deadline, ap (λ n. Live (Joining n deadline)) (inner u t e))
status_joins (Live Run) t e = absurd cc
status_joins (Live (Throwing o)) t e = absurd cc
status_joins (Live (Entering o)) t e = absurd cc
status_joins (Live (Waiting o count deadline)) t e = absurd cc
status_joins (Live (Reenter o count wake)) t e = absurd cc
status_joins (Live (Parked deadline)) t e = absurd cc
status_joins (Live (Asleep deadline)) t e = absurd cc

row_at : (xs : List JavaThread) (u : ℕ) → joins_in (map (λ (x : JavaThread). x.thread) xs) u ≡ (slice_get xs u >>= λ (x : JavaThread). target_of_status x.thread.status)
row_at [] u = refl
row_at (x ∷ xs) zero = refl
row_at (x ∷ xs) (suc u) = row_at xs u

pub joins_thread : (r : State) (u t : ℕ) → joins_in (rows_of r) u ≡ Some t → Joins (slice_get r.threads u) t
joins_thread r u t e = by (slice_get r.threads u) (sym (row_at r.threads u) ∙ e)
  where
    by : (o : Option JavaThread) → (o >>= λ (x : JavaThread). target_of_status x.thread.status) ≡ Some t → Joins o t
    by None f = absurd cc
    by (Some x) f =
        let s = status_joins x.thread.status t f in
        record { thread = x; at = refl; deadline = s.0; status = s.1 }

pub thread_joins : (r : State) (u t : ℕ) → Joins (slice_get r.threads u) t → joins_in (rows_of r) u ≡ Some t
thread_joins r u t j =
    row_at r.threads u ∙ ap (λ o. o >>= λ (x : JavaThread). target_of_status x.thread.status) j.at ∙ ap target_of_status j.status

-- ---- before the end of the thread and after it

pub joiner_before : (t u : ℕ) (before after : Option JavaThread) → Stays before after → Joins after t → Joins before t
joiner_before t u before after (no_thread none gone) j = let no : None ≡ Some j.thread = sym gone ∙ j.at in absurd cc
joiner_before t u before after (is_new y none there new) j =
    let same : y ≡ j.thread = same_thread after y j.thread there j.at in
    let no : New ≡ Live (Joining t j.deadline) = sym new ∙ ap (λ (z : JavaThread). z.thread.status) same ∙ j.status in
    absurd cc
joiner_before t u before after (is_kept x y here there status permit interrupted) j =
    let same : y ≡ j.thread = same_thread after y j.thread there j.at in
    record { thread = x; at = here; deadline = j.deadline; status = sym status ∙ ap (λ (z : JavaThread). z.thread.status) same ∙ j.status }

pub joiner_after : (t u : ℕ) (before after : Option JavaThread) → Stays before after → Joins before t → Joins after t
joiner_after t u before after (no_thread none gone) j = let no : None ≡ Some j.thread = sym none ∙ j.at in absurd cc
joiner_after t u before after (is_new y none there new) j = let no : None ≡ Some j.thread = sym none ∙ j.at in absurd cc
joiner_after t u before after (is_kept x y here there status permit interrupted) j =
    let same : x ≡ j.thread = same_thread before x j.thread here j.at in
    record { thread = y; at = there; deadline = j.deadline; status = status ∙ ap (λ (z : JavaThread). z.thread.status) same ∙ j.status }

-- ---- where its frames lie

pub lying_in : (u : ℕ) (b : Bool) (o : Option JavaThread) (place : Option (Option Continuation)) → IsKept u b o place
    → option_map_or (λ (k : Option Continuation). is_some k) place false ≡ true → b ≡ false
lying_in u b o place (absent off none at) lies = off
lying_in u b o place (mounted x out there at begun) lies =
    absurd (no_both (option_map_or (λ (k : Option Continuation). is_some k) place false) lies (ap (λ f. option_map_or (λ (k : Option Continuation). is_some k) f false) at))
lying_in u b o place (waiting x k off there at alive number frames) lies = off
lying_in u b o place (idle x off there at dead) lies = off

pub in_lying : (u t : ℕ) (b : Bool) (o : Option JavaThread) (place : Option (Option Continuation)) → IsKept u b o place → b ≡ false → Joins o t
    → option_map_or (λ (k : Option Continuation). is_some k) place false ≡ true
in_lying u t b o place (absent off none at) is j = let bad : None ≡ Some j.thread = sym none ∙ j.at in absurd cc
in_lying u t b o place (mounted x out there at begun) is j = absurd (no_both b out is)
in_lying u t b o place (waiting x k off there at alive number frames) is j = ap (λ f. option_map_or (λ (k : Option Continuation). is_some k) f false) at
in_lying u t b o place (idle x off there at dead) is j =
    let same : x ≡ j.thread = same_thread o x j.thread there j.at in
    absurd (no_both (is_live j.thread.thread.status) (ap is_live j.status) (ap (λ (z : JavaThread). is_live z.thread.status) (sym same) ∙ dead))

-- ---- who is put

-- what a filter keeps is in the list and passes
in_filter : (p : ℕ → Bool) (xs : List ℕ) (u : ℕ) → Contains (filter p xs) u → Contains xs u × (p u ≡ true)
in_filter p [] u (k, low, is) = absurd (omega arith)
in_filter p (x ∷ xs) u here =
    elim (cases_Bool (p x)) [
      | inl kept ↦ first (in_filter p xs u) kept (subst (λ ys. Contains ys u) (ap (λ b. cond b (x ∷ filter p xs) (filter p xs)) kept) here)
      | inr gone ↦
          let rest = in_filter p xs u (subst (λ ys. Contains ys u) (ap (λ b. cond b (x ∷ filter p xs) (filter p xs)) gone) here) in
          (behind rest.0, rest.1)
    ]
  where
    behind : Contains xs u → Contains (x ∷ xs) u
    behind (k, low, is) = (suc k, omega arith, is)

    first : (Contains (filter p xs) u → Contains xs u × (p u ≡ true)) → p x ≡ true → Contains (x ∷ filter p xs) u
        → Contains (x ∷ xs) u × (p u ≡ true)
    first later kept (zero, low, is) = let same : x ≡ u = is in ((zero, omega arith, same), subst (λ n. p n ≡ true) same kept)
    first later kept (suc k, low, is) = let rest = later (k, omega arith, is) in (behind rest.0, rest.1)

to_filter : (p : ℕ → Bool) (xs : List ℕ) (u : ℕ) → Contains xs u → p u ≡ true → Contains (filter p xs) u
to_filter p [] u (k, low, is) passes = absurd (omega arith)
to_filter p (x ∷ xs) u here passes =
    elim (cases_Bool (p x)) [
      | inl kept ↦ subst (λ ys. Contains ys u) (sym (ap (λ b. cond b (x ∷ filter p xs) (filter p xs)) kept)) (with_first (λ l. to_filter p xs u l passes) here)
      | inr gone ↦ subst (λ ys. Contains ys u) (sym (ap (λ b. cond b (x ∷ filter p xs) (filter p xs)) gone)) (without_first (λ l. to_filter p xs u l passes) gone here)
    ]
  where
    with_first : (Contains xs u → Contains (filter p xs) u) → Contains (x ∷ xs) u → Contains (x ∷ filter p xs) u
    with_first later (zero, low, is) = (zero, omega arith, is)
    with_first later (suc k, low, is) = let rest = later (k, omega arith, is) in (suc rest.0, omega (arith, rest.1), rest.2)

    without_first : (Contains xs u → Contains (filter p xs) u) → p x ≡ false → Contains (x ∷ xs) u → Contains (filter p xs) u
    without_first later gone (zero, low, is) = let same : x ≡ u = is in absurd (no_both (p u) passes (subst (λ n. p n ≡ false) same gone))
    without_first later gone (suc k, low, is) = later (k, omega arith, is)

-- a step of thread t, which is mounted, after which it has ended
pub record AtEnd (p : Setting) (first : State) (v : Scheduled State) (q : State) (state : ProgramState) (t : ℕ) : Type 0 where
  pub after : IsProgramAfter p first v
  pub going : ending v.state ≡ None
  pub out : is_out v.schedule t ≡ true
  pub others : (u : ℕ) → u ≢ t → Stays (slice_get v.state.threads u) (slice_get q.threads u)
  pub is : IsState state q (is_out v.schedule)
  pub ended : has_ended q t ≡ true

rows_joins : (state : ProgramState) (q : State) (out : ℕ → Bool) (u : ℕ) → IsState state q out → joins state.threads u ≡ joins_in (rows_of q) u
rows_joins state q out u is = ap (λ ts. joins_in ts u) is.rows

-- the thread that ended joins none
ended_joins : (q : State) (t u : ℕ) → has_ended q t ≡ true → Joins (slice_get q.threads t) u → ⊥
ended_joins q t u ended j =
    no_both (has_ended q t) ended
    (ap (λ o. option_map_or (λ (x : JavaThread). is_done x.thread.status) o false) j.at ∙ ap is_done j.status)

-- a thread that is neither mounted nor in a deque is in no place
pub no_place : (s : Schedule) (u : ℕ) → is_out s u ≡ false → in_deques u s ≡ 0 → places u s ≡ 0
no_place s u off loose = let down = in_none s u off in omega arith

-- the frames of a live thread that isn't mounted lie with those that no carrier runs
live_lying : (u : ℕ) (b : Bool) (o : Option JavaThread) (place : Option (Option Continuation)) (x : JavaThread) → IsKept u b o place → b ≡ false → o ≡ Some x
    → is_live x.thread.status ≡ true → option_map_or (λ (k : Option Continuation). is_some k) place false ≡ true
live_lying u b o place x kept off at alive = ap (λ f. option_map_or (λ (k : Option Continuation). is_some k) f false) (lies u b o place x kept off at alive).at

-- those that join the thread, or are the first in line, and are in no place
abbrev pub IsWokenWith : Scheduled State → ℕ → Option ℕ → ℕ → Type 0
IsWokenWith v t first u = ((joins_in (rows_of v.state) u ≡ Some t) ⊎ (first ≡ Some u)) × (places u v.schedule ≡ 0)

module _ (p : Setting) (begun : State) (v : Scheduled State) (q : State) (state : ProgramState) (t : ℕ) (first : Option ℕ) (woken : List ℕ) (h : AtEnd p begun v q state t)
    (are : AreWokenWith t state first woken) (lives : (u : ℕ) → first ≡ Some u → IsLive q u) where
  other : (u : ℕ) → Joins (slice_get q.threads u) t → u ≢ t
  other u j e = ended_joins q t t h.ended (subst (λ n. Joins (slice_get q.threads n) t) e j)

  -- before the step, and in the parts after it
  joined_before : (u : ℕ) → joins state.threads u ≡ Some t → joins_in (rows_of v.state) u ≡ Some t
  joined_before u joined =
      let j = joins_thread q u t (sym (rows_joins state q (is_out v.schedule) u h.is) ∙ joined) in
      thread_joins v.state u t (joiner_before t u (slice_get v.state.threads u) (slice_get q.threads u) (h.others u (other u j)) j)

  joined_after : (u : ℕ) → is_out v.schedule u ≡ false → joins_in (rows_of v.state) u ≡ Some t → Joins (slice_get q.threads u) t
  joined_after u off joined =
      let ne : u ≢ t = λ e. no_both (is_out v.schedule t) h.out (subst (λ n. is_out v.schedule n ≡ false) e off) in
      joiner_after t u (slice_get v.state.threads u) (slice_get q.threads u) (h.others u ne) (joins_thread v.state u t joined)

  to : (u : ℕ) → Contains (filter (is_loose v.schedule.deques) woken) u → IsWokenWith v t first u
  to u here =
      let kept = in_filter (is_loose v.schedule.deques) woken u here in
      let facts = (are.just_these u).0 kept.0 in
      let off = lying_in u (is_out v.schedule u) (slice_get q.threads u) (slice_get state.frozen.items u) (h.is.kept u) facts.1 in
      (who facts.0, no_place v.schedule u off (eqb-true (in_deques u v.schedule) 0 kept.1))
    where
      who : (joins state.threads u ≡ Some t) ⊎ (first ≡ Some u) → (joins_in (rows_of v.state) u ≡ Some t) ⊎ (first ≡ Some u)
      who (inl joined) = inl (joined_before u joined)
      who (inr is) = inr is

  from : (u : ℕ) → IsWokenWith v t first u → Contains (filter (is_loose v.schedule.deques) woken) u
  from u facts =
      let none = facts.1 in
      let off = in_from v.schedule u (omega arith) in
      let free : in_deques u v.schedule ≡ 0 = omega arith in
      to_filter (is_loose v.schedule.deques) woken u ((are.just_these u).1 (who off facts.0)) (eq-eqb (in_deques u v.schedule) 0 free)
    where
      who : is_out v.schedule u ≡ false → (joins_in (rows_of v.state) u ≡ Some t) ⊎ (first ≡ Some u)
          → ((joins state.threads u ≡ Some t) ⊎ (first ≡ Some u)) × (lies_in state.frozen.items u ≡ true)
      who off (inl joined) =
          let j = joined_after u off joined in (
            inl (rows_joins state q (is_out v.schedule) u h.is ∙ thread_joins q u t j),
            in_lying u t (is_out v.schedule u) (slice_get q.threads u) (slice_get state.frozen.items u) (h.is.kept u) off j,
          )
      who off (inr is) =
          let l = lives u is in (
            inr is,
            live_lying u (is_out v.schedule u) (slice_get q.threads u) (slice_get state.frozen.items u) l.live.thread (h.is.kept u) off l.live.at (live_is q u l),
          )

  pub put_woken : (u : ℕ) → Contains (filter (is_loose v.schedule.deques) woken) u ↔ IsWokenWith v t first u
  put_woken u = (to u, from u)

-- with no monitor that it left they are those that join it
pub put_joiners : (p : Setting) (begun : State) (v : Scheduled State) (q : State) (state : ProgramState) (t : ℕ) (first : Option ℕ) (woken : List ℕ) → first ≡ None
    → AtEnd p begun v q state t → AreWokenWith t state first woken → (u : ℕ)
    → Contains (filter (is_loose v.schedule.deques) woken) u ↔ ((joins_in (rows_of v.state) u ≡ Some t) × (places u v.schedule ≡ 0))
put_joiners p begun v q state t first woken none h are u = (λ here. only (both.0 here), λ facts. both.1 (inl facts.0, facts.1))
  where
    no_first : {A : Type 0} (i : ℕ) → first ≡ Some i → A
    no_first i is = let bad : ◌≡◌ {A = Option ℕ} None (Some i) = sym none ∙ is in absurd cc

    both : Contains (filter (is_loose v.schedule.deques) woken) u ↔ IsWokenWith v t first u
    both = put_woken p begun v q state t first woken h are (λ i is. no_first i is) u

    only : IsWokenWith v t first u → (joins_in (rows_of v.state) u ≡ Some t) × (places u v.schedule ≡ 0)
    only facts = (elim facts.0 [ inl joined ↦ joined | inr is ↦ no_first u is ], facts.1)
