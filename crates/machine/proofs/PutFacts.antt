-- Whom code puts.
use Rattle.std.proofs.Common.{◌≡◌, ◌⊎◌, inl, inr, ◌+◌, ◌-◌, ◌<◌, ◌≤◌, ◌&&◌, ℕ, zero, suc, Bool, true, false, List, [], ◌∷◌, Option, None, Some, Result, Ok, Err, IfOk, IfErr, length, get_or, refl, ap, sym, subst, ◌∙◌, arith, cond, not, ◌==◌}
use Rattle.std.specs.List.{insert}
use Rattle.std.specs.Result.{is_err, is_ok}
use Rattle.std.specs.List.Sorted.{IsBinarySearchResult, IsPermutation, IsStrictlyIncreasing}
use Rattle.std.specs.Ordering.{nat_cmp}
use Rattle.std.specs.Prelude.{Contains, filter, is_some, slice_get}
use Rattle.std.proofs.lemmas.Bool.{and_parts, cases_Bool, eqb-false, eqb-true}
use Rattle.std.proofs.lemmas.List.Edits.{get_or-insert_above, get_or-insert_at, get_or-insert_below, length-insert}
use Rattle.std.proofs.lemmas.List.Sorted.{Contains-permutation, IsPermutation-insert, IsPermutation-sym, searched}
use Rattle.std.proofs.lemmas.Option.{slice_get_within}
use Rattle.items.proofs.Binds.{some_is}
use Rattle.vthread_state.specs.declared.thread.Thread.{Thread}
use Rattle.vthread_state.specs.Threads.{joins, target_of_status}
use Rattle.thread_lists.specs.Lists.{count, push, total}
use Rattle.ref_model.specs.declared.ending.Ending.{Ending}
use Rattle.ref_model.specs.State.{State}
use Rattle.ref_model.specs.Enabled.{enabled}
use Rattle.program_state.specs.declared.state.ProgramState.{ProgramState}
use Rattle.program_state.specs.Waiting.{AreWoken, has_ended_in, lies_in}
use Rattle.machine.specs.declared.made.Others.{Others}
use Rattle.machine.specs.declared.made.Others.TheVariants as moves
use Rattle.machine.specs.Puts.{AreWokenWith, EndsSo, GoesSo, HasAlso, HasFirst, HasPut, IsBelow, IsPutAtEnd, all_over, at_end, first_freed, freed, goes_on, if_nowhere, is_loose, is_nowhere, is_quiet, is_to_go, nobody, started, woken}
use Rattle.machine.proofs.PlaceLaws.{push_none}
use Rattle.machine.proofs.PushLaws.{rising_once}

-- ---- with the end of a thread

-- the program has ended with it
pub put_over : (state : ProgramState) (t c : ℕ) (first : Option ℕ) (old new : List (List ℕ)) (o : Option Ending) → EndsSo state o → is_some o ≡ true
    → new ≡ push old c (if_nowhere state old first) → IsPutAtEnd state t first c old new
put_over state t c first old new None ends some lists = absurd cc
put_over state t c first old new (Some e) ends some lists =
    record { threads = if_nowhere state old first; who = all_over (record { told = e; is = ends }) refl; lists = lists }

none_ends : (state : ProgramState) (o : Option Ending) → EndsSo state o → is_some o ≡ false → EndsSo state None
none_ends state None ends none = ends
none_ends state (Some e) ends none = absurd cc

-- those that wait for the end, and the first in line
pub with_the_first : (state : ProgramState) (t : ℕ) (first : Option ℕ) (joiners roused : List ℕ) → AreWoken t state joiners → HasFirst state first joiners roused
    → AreWokenWith t state first roused
with_the_first state t first joiners roused are has = record { just_these = λ u. (to u, from u); rising = has.rising }
  where
    to : (u : ℕ) → Contains roused u → ((joins state.threads u ≡ Some t) ⊎ (first ≡ Some u)) × (lies_in state.frozen.items u ≡ true)
    to u here =
        elim ((has.members u).0 here) [
          | inl joined ↦ let facts = (are.just_these u).0 joined in (inl facts.0, facts.1)
          | inr facts ↦ (inr facts.0, facts.1)
        ]

    from : (u : ℕ) → ((joins state.threads u ≡ Some t) ⊎ (first ≡ Some u)) × (lies_in state.frozen.items u ≡ true) → Contains roused u
    from u facts = by facts.0
      where
        by : (joins state.threads u ≡ Some t) ⊎ (first ≡ Some u) → Contains roused u
        by (inl joined) = (has.members u).1 (inl ((are.just_these u).1 (joined, facts.1)))
        by (inr is) = (has.members u).1 (inr (is, facts.1))

pub put_joined : (state : ProgramState) (t c : ℕ) (first : Option ℕ) (old new : List (List ℕ)) (o : Option Ending) (joiners roused : List ℕ) → EndsSo state o → is_some o ≡ false
    → has_ended_in state.threads t ≡ true → AreWoken t state joiners → HasFirst state first joiners roused → new ≡ push old c (filter (is_loose old) roused)
    → IsPutAtEnd state t first c old new
put_joined state t c first old new o joiners roused ends none done are has lists =
    record { threads = filter (is_loose old) roused; who = goes_on roused done (none_ends state o ends none) (with_the_first state t first joiners roused are has) refl; lists = lists }

-- who joins is in the table
joins_below : (state : ProgramState) (u t : ℕ) → joins state.threads u ≡ Some t → u < length state.threads.threads
joins_below state u t e =
    let row = some_is (slice_get state.threads.threads u) (λ (x : Thread). target_of_status x.status) t e in
    slice_get_within state.threads.threads u row.0 row.1

first_below : (first : Option ℕ) (u n : ℕ) → IsBelow first n → first ≡ Some u → u < n
first_below None u n below is = absurd cc
first_below (Some f) u n below is = let same : f ≡ u = cc in subst (λ i. i < n) same below

pub woken_below : (state : ProgramState) (t n : ℕ) (first : Option ℕ) (joiners roused : List ℕ) → AreWoken t state joiners → HasFirst state first joiners roused
    → IsBelow first (length state.threads.threads) → length state.threads.threads ≤ n → (u : ℕ) → Contains roused u → u < n
woken_below state t n first joiners roused are has low room u here =
    elim ((has.members u).0 here) [
      | inl joined ↦ let below = joins_below state u t ((are.just_these u).0 joined).0 in omega arith
      | inr facts ↦ let below = first_below first u (length state.threads.threads) low facts.0 in omega arith
    ]

pub woken_once : (state : ProgramState) (first : Option ℕ) (joiners roused : List ℕ) → HasFirst state first joiners roused → (u : ℕ) → count u roused ≤ 1
woken_once state first joiners roused has u = rising_once u roused has.rising

-- ---- a number among others

-- it is there
pub also_there : (number i : ℕ) (xs : List ℕ) → IsStrictlyIncreasing xs → i < length xs → get_or xs i 0 ≡ number → HasAlso number xs xs
also_there number i xs rising within at = record { rising = rising; members = λ u. (λ here. inl here, from u) }
  where
    read : (ys : List ℕ) (k d : ℕ) → k < length ys → get_or ys k 0 ≡ number → get_or ys k d ≡ number
    read [] k d low e = absurd (omega arith)
    read (y ∷ ys) zero d low e = e
    read (y ∷ ys) (suc k) d low e = read ys k d (omega arith) e

    from : (u : ℕ) → Contains xs u ⊎ (number ≡ u) → Contains xs u
    from u (inl here) = here
    from u (inr is) = (i, within, read xs i u within at ∙ is)

-- it comes to its place
module _ (number at : ℕ) (xs : List ℕ) (rising : IsStrictlyIncreasing xs) (within : at ≤ length xs) (smaller : (k : ℕ) → k < at → get_or xs k 0 < number)
    (greater : (k : ℕ) → at ≤ k → k < length xs → number < get_or xs k 0) where
  still_rising : IsStrictlyIncreasing (insert xs at number)
  still_rising k low =
      let ys = insert xs at number in
      let long = length-insert xs at number within in
      let below : (i : ℕ) → i < at → get_or ys i 0 ≡ get_or xs i 0 = λ i under. get_or-insert_below xs at number 0 i under within in
      let here : (i : ℕ) → i ≡ at → get_or ys i 0 ≡ number = λ i is. ap (λ j. get_or ys j 0) is ∙ get_or-insert_at xs at number 0 within in
      let above : (i : ℕ) → at ≤ i → get_or ys (i + 1) 0 ≡ get_or xs i 0 = λ i over. get_or-insert_above xs at number 0 i over within in
      grind (arith, below k, below (k + 1), here k, here (k + 1), above k, above (k - 1), rising k, rising (k - 1), smaller k, greater k)

  also_put : HasAlso number xs (insert xs at number)
  also_put = record { rising = still_rising; members = λ u. (to u, from u) }
    where
      moved : IsPermutation (number ∷ xs) (insert xs at number)
      moved = IsPermutation-insert xs at number

      to : (u : ℕ) → Contains (insert xs at number) u → Contains xs u ⊎ (number ≡ u)
      to u inside = by (Contains-permutation (insert xs at number) (number ∷ xs) u (IsPermutation-sym (number ∷ xs) (insert xs at number) moved) inside)
        where
          by : Contains (number ∷ xs) u → Contains xs u ⊎ (number ≡ u)
          by (zero, low, is) = inr is
          by (suc k, low, is) = inl (k, omega arith, is)

      from : (u : ℕ) → Contains xs u ⊎ (number ≡ u) → Contains (insert xs at number) u
      from u (inl (k, low, is)) = Contains-permutation (number ∷ xs) (insert xs at number) u moved (suc k, omega arith, is)
      from u (inr is) = Contains-permutation (number ∷ xs) (insert xs at number) u moved (0, omega arith, is)

rising_to : (xs : List ℕ) → IsStrictlyIncreasing xs → (i j : ℕ) → i ≤ j → j < length xs → get_or xs i 0 ≤ get_or xs j 0
rising_to xs rising i zero le low = let same : i ≡ 0 = omega arith in omega (arith, ap (λ k. get_or xs k 0) same)
rising_to xs rising i (suc j) le low =
    elim (cases_Bool (i == suc j)) [
      | inl is ↦ omega (arith, ap (λ k. get_or xs k 0) (eqb-true i (suc j) is))
      | inr other ↦
          let differ = eqb-false i (suc j) other in
          let step : get_or xs j 0 < get_or xs (suc j) 0 = subst (λ k. get_or xs j 0 < get_or xs k 0) {x = j + 1} (omega arith) (rising j (omega arith)) in
          omega (arith, rising_to xs rising i j (omega arith) (omega arith), step)
    ]

-- what the search for it tells
pub also_searched : (number : ℕ) (xs ys : List ℕ) (found : Result ℕ ℕ) → IsStrictlyIncreasing xs → IsBinarySearchResult (λ y. nat_cmp y number) xs found
    → IfOk found (λ i. ys ≡ xs) → IfErr found (λ i. ys ≡ insert xs i number) → HasAlso number xs ys
also_searched number xs ys (Ok i) rising position same put =
    let at = searched xs number (Ok i) position (rising_to xs rising) in
    subst (HasAlso number xs) (sym same) (also_there number i xs rising at.0 at.1)
also_searched number xs ys (Err i) rising position same put =
    let at = searched xs number (Err i) position (rising_to xs rising) in
    subst (HasAlso number xs) (sym put) (also_put number i xs rising at.0 at.1 at.2)

pub inserted : {A E : Type 0} (result : Result A E) (number at : ℕ) (xs ys : List ℕ) → ys ≡ cond (is_ok result) (insert xs at number) xs → false ≡ is_err result
    → ys ≡ insert xs at number
inserted (Ok a) number at xs ys items done = items
inserted (Err e) number at xs ys items done = absurd cc

-- nobody else
pub also_none : (state : ProgramState) (first : Option ℕ) (xs : List ℕ) → IsStrictlyIncreasing xs → ((u : ℕ) → first ≡ Some u → lies_in state.frozen.items u ≡ true → ⊥)
    → HasFirst state first xs xs
also_none state first xs rising never = record { rising = rising; members = λ u. (λ here. inl here, from u) }
  where
    from : (u : ℕ) → Contains xs u ⊎ ((first ≡ Some u) × (lies_in state.frozen.items u ≡ true)) → Contains xs u
    from u (inl here) = here
    from u (inr facts) = absurd (never u facts.0 facts.1)

pub also_first : (state : ProgramState) (u : ℕ) (first : Option ℕ) (xs ys : List ℕ) → first ≡ Some u → lies_in state.frozen.items u ≡ true → HasAlso u xs ys
    → HasFirst state first xs ys
also_first state u first xs ys is lies also = record { rising = also.rising; members = λ n. (to n, from n) }
  where
    to : (n : ℕ) → Contains ys n → Contains xs n ⊎ ((first ≡ Some n) × (lies_in state.frozen.items n ≡ true))
    to n here =
        elim ((also.members n).0 here) [
          | inl old ↦ inl old
          | inr same ↦ inr (is ∙ ap Some same, subst (λ i. lies_in state.frozen.items i ≡ true) same lies)
        ]

    from : (n : ℕ) → Contains xs n ⊎ ((first ≡ Some n) × (lies_in state.frozen.items n ≡ true)) → Contains ys n
    from n (inl old) = (also.members n).1 (inl old)
    from n (inr facts) = let e : ◌≡◌ {A = Option ℕ} (Some u) (Some n) = sym is ∙ facts.0 in let same : u ≡ n = cc in (also.members n).1 (inr same)

-- ---- where the thread goes on

pub put_nobody : (state : ProgramState) (t c : ℕ) (others : Others) (lists : List (List ℕ)) → is_quiet others ≡ true → has_ended_in state.threads t ≡ false
    → HasPut state t others c lists lists
put_nobody state t c others lists quiet goes = record { threads = []; who = nobody quiet goes refl; lists = sym (push_none lists c) }

pub put_started : (state : ProgramState) (t c u : ℕ) (old new : List (List ℕ)) → has_ended_in state.threads t ≡ false → new ≡ push old c (u ∷ [])
    → HasPut state t (moves.Starts u) c old new
put_started state t c u old new goes lists = record { threads = u ∷ []; who = started u refl goes refl; lists = lists }

-- one got a permit or an interrupt
pub put_roused : (state : ProgramState) (t c u : ℕ) (old new : List (List ℕ)) (nowhere goes : Bool) (o : Option Ending) → has_ended_in state.threads t ≡ false
    → EndsSo state o → is_some o ≡ false → nowhere ≡ is_nowhere state old u → GoesSo state u goes → new ≡ push old c (cond (nowhere && goes) (u ∷ []) [])
    → HasPut state t (moves.Wakes u) c old new
put_roused state t c u old new nowhere goes o alive ends none is told lists = record {
  threads = cond (is_nowhere state old u && goes) (u ∷ []) [];
  who = woken u goes refl alive (none_ends state o ends none) told refl;
  lists = lists ∙ ap (λ b. push old c (cond (b && goes) (u ∷ []) [])) is;
}

-- the first in line
pub put_freed : (state : ProgramState) (t c : ℕ) (first : Option ℕ) (old new : List (List ℕ)) → has_ended_in state.threads t ≡ false
    → new ≡ push old c (if_nowhere state old first) → HasPut state t (moves.Frees first) c old new
put_freed state t c first old new goes lists = record { threads = if_nowhere state old first; who = freed first refl goes refl; lists = lists }

pub put_with_end : (state : ProgramState) (t c : ℕ) (others : Others) (first : Option ℕ) (old new : List (List ℕ)) → first_freed others ≡ Some first
    → IsPutAtEnd state t first c old new → HasPut state t others c old new
put_with_end state t c others first old new is put = record { threads = put.threads; who = at_end first is put.who; lists = put.lists }

pub alone_free : (state : ProgramState) (lists : List (List ℕ)) (u : ℕ) (nowhere : Bool) → nowhere ≡ is_nowhere state lists u → nowhere ≡ true
    → total (count u) lists ≡ 0
alone_free state lists u nowhere is yes_it =
    eqb-true (total (count u) lists) 0 (and_parts (lies_in state.frozen.items u) (is_loose lists u) (sym is ∙ yes_it)).1

pub nowhere_free : (state : ProgramState) (lists : List (List ℕ)) (u : ℕ) (nowhere goes : Bool) → nowhere ≡ is_nowhere state lists u
    → (nowhere && goes) ≡ true → total (count u) lists ≡ 0
nowhere_free state lists u nowhere goes is both = alone_free state lists u nowhere is (and_parts nowhere goes both).0

-- who is to go is in no deque
twice_not : (b : Bool) → not (not b) ≡ b
twice_not true = refl
twice_not false = refl

pub to_go_loose : (lists : List (List ℕ)) (u : ℕ) (lies goes holds : Bool) → holds ≡ not (total (count u) lists == 0) → ((lies && goes) && not holds) ≡ true
    → total (count u) lists ≡ 0
to_go_loose lists u lies goes holds is all =
    eqb-true (total (count u) lists) 0
    (sym (twice_not (total (count u) lists == 0)) ∙ sym (ap not is) ∙ (and_parts (lies && goes) (not holds) all).1)

pub to_go_is : (state : ProgramState) (r : State) (lists : List (List ℕ)) (u : ℕ) (lies goes holds : Bool) → lies ≡ lies_in state.frozen.items u
    → goes ≡ enabled r u → holds ≡ not (total (count u) lists == 0) → ((lies && goes) && not holds) ≡ is_to_go state r lists u
to_go_is state r lists u lies goes holds lies_is goes_is holds_is =
    ap (λ b. (b && goes) && not holds) lies_is ∙ ap (λ b. (lies_in state.frozen.items u && b) && not holds) goes_is
    ∙ ap (λ b. (lies_in state.frozen.items u && enabled r u) && not b) holds_is
    ∙ ap (λ b. (lies_in state.frozen.items u && enabled r u) && b) (twice_not (total (count u) lists == 0))
