-- Threads that are put into a deque one after the other.
use Rattle.std.proofs.Common.{◌≡◌, ◌+◌, ◌<◌, ◌≤◌, ◌==◌, inl, inr, ℕ, zero, suc, List, [], ◌∷◌, ◌++◌, length, get_or, take, refl, ap, sym, subst, ◌∙◌, arith, cond, Bool, ◌&&◌}
use Rattle.std.specs.Prelude.{Contains, filter}
use Rattle.std.specs.List.{AllPairs}
use Rattle.std.specs.List.Sorted.{IsStrictlyIncreasing}
use Rattle.std.proofs.lemmas.Bool.{cases_Bool}
use Rattle.std.proofs.lemmas.Bool.Decides.{eqb_tells}
use Rattle.std.proofs.lemmas.List.{append_assoc, take_more}
use Rattle.std.proofs.lemmas.List.Elements.{filter_more}
use Rattle.std.proofs.lemmas.List.Kept.{AllPairs-from_increasing}
use Rattle.thread_lists.specs.Lists.{count, push, total}
use Rattle.thread_lists.proofs.CountLaws.{count-append, count-cons, count-here, count-other, count-same, total-push}
use Rattle.machine.specs.Puts.{is_loose}

push_push : (lists : List (List ℕ)) (c : ℕ) (xs ys : List ℕ) → push (push lists c xs) c ys ≡ push lists c (xs ++ ys)
push_push [] c xs ys = refl
push_push (l ∷ lists) zero xs ys = ap (λ z. z ∷ lists) (append_assoc l xs ys)
push_push (l ∷ lists) (suc c) xs ys = ap (λ z. l ∷ z) (push_push lists c xs ys)

-- ---- how often a number is in a list

none_above : (x : ℕ) (xs : List ℕ) → ((j : ℕ) → j < length xs → x < get_or xs j 0) → count x xs ≡ 0
none_above x [] above = refl
none_above x (y ∷ ys) above =
    let first : x < y = above 0 (omega arith) in
    count-other x y ys (λ same. absurd (omega arith)) ∙ none_above x ys (λ j low. above (suc j) (omega arith))

pairs_once : (u : ℕ) (xs : List ℕ) → AllPairs (λ x y. x < y) xs → count u xs ≤ 1
pairs_once u [] pairs = let none : count u [] ≡ 0 = refl in omega arith
pairs_once u (x ∷ xs) pairs =
    elim (eqb_tells x u) [
      | inl here ↦
          let none : count x xs ≡ 0 = none_above x xs (λ j low. pairs 0 (suc j) 0 (omega arith) (omega arith)) in
          subst (λ n. count n (x ∷ xs) ≤ 1) here.1 (omega (arith, count-same x xs, none))
      | inr other ↦
          let rest = pairs_once u xs (λ i j d below low. pairs (suc i) (suc j) d (omega arith) (omega arith)) in
          omega (arith, count-other u x xs other.1, rest)
    ]

pub rising_once : (u : ℕ) (xs : List ℕ) → IsStrictlyIncreasing xs → count u xs ≤ 1
rising_once u xs rising = pairs_once u xs (AllPairs-from_increasing xs rising)

filter_less : (p : ℕ → Bool) (u : ℕ) (xs : List ℕ) → count u (filter p xs) ≤ count u xs
filter_less p u [] = omega arith
filter_less p u (x ∷ xs) =
    let rest = filter_less p u xs in
    elim (cases_Bool (p x)) [
      | inl kept ↦
          let is : filter p (x ∷ xs) ≡ x ∷ filter p xs = ap (λ b. cond b (x ∷ filter p xs) (filter p xs)) kept in
          omega (arith, rest, ap (count u) is, count-cons u x (filter p xs), count-cons u x xs)
      | inr gone ↦
          let is : filter p (x ∷ xs) ≡ filter p xs = ap (λ b. cond b (x ∷ filter p xs) (filter p xs)) gone in
          omega (arith, rest, ap (count u) is, count-cons u x xs)
    ]

take_less : (u : ℕ) (xs : List ℕ) (j : ℕ) → count u (take j xs) ≤ count u xs
take_less u [] zero = omega arith
take_less u [] (suc j) = omega arith
take_less u (x ∷ xs) zero = let none : count u [] ≡ 0 = refl in omega arith
take_less u (x ∷ xs) (suc j) = let rest = take_less u xs j in omega (arith, rest, count-cons u x (take j xs), count-cons u x xs)

-- a number that is in a list once isn't among those before it
none_before : (ts : List ℕ) (i : ℕ) → i < length ts → count (get_or ts i 0) ts ≤ 1 → count (get_or ts i 0) (take i ts) ≡ 0
none_before ts i within once =
    let x = get_or ts i 0 in
    let sum : count x (take (i + 1) ts) ≡ count x (take i ts) + count x (x ∷ []) = ap (count x) (take_more ts i 0 within) ∙ count-append x (take i ts) (x ∷ []) in
    let less = take_less x ts (i + 1) in
    omega (arith, sum, less, once, count-here x [])

-- ---- one more, of those that pass a test and are in none of the deques

module _ (passes : ℕ → Bool) (lists : List (List ℕ)) (c : ℕ) (ts : List ℕ) (i : ℕ) (within : i < length ts) where
  abbrev test : List (List ℕ) → ℕ → Bool
  test these u = passes u && is_loose these u

  abbrev pub so_far : List (List ℕ)
  so_far = push lists c (filter (λ u. passes u && is_loose lists u) (take i ts))

  same_loose : c < length lists → count (get_or ts i 0) ts ≤ 1 → test so_far (get_or ts i 0) ≡ test lists (get_or ts i 0)
  same_loose carrier once =
      let x = get_or ts i 0 in
      let before = none_before ts i within once in
      let kept = filter_less (test lists) x (take i ts) in
      let sum = total-push x lists c (filter (test lists) (take i ts)) carrier in
      let same : total (count x) so_far ≡ total (count x) lists = omega arith in
      ap (λ n. passes x && (n == 0)) same

  pub one_more : c < length lists → count (get_or ts i 0) ts ≤ 1
      → push so_far c (filter (λ u. passes u && is_loose so_far u) (get_or ts i 0 ∷ []))
      ≡ push lists c (filter (λ u. passes u && is_loose lists u) (take (i + 1) ts))
  one_more carrier once =
      let x = get_or ts i 0 in
      ap (λ b. push so_far c (cond b (x ∷ []) [])) (same_loose carrier once)
      ∙ push_push lists c (filter (test lists) (take i ts)) (cond (test lists x) (x ∷ []) [])
      ∙ ap (push lists c) (sym (filter_more (test lists) ts i 0 within))

-- the one at hand is one of them
pub is_one : (ts : List ℕ) (i : ℕ) → i < length ts → Contains ts (get_or ts i 0)
is_one ts i within = (i, within, same ts i within)
  where
    same : (xs : List ℕ) (k : ℕ) → k < length xs → get_or xs k (get_or xs k 0) ≡ get_or xs k 0
    same [] k h = absurd (omega arith)
    same (x ∷ xs) zero h = refl
    same (x ∷ xs) (suc k) h = same xs k (omega arith)
