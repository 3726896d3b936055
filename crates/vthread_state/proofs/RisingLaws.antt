-- Lists of threads in another order.
use Rattle.std.proofs.Common.{◌≡◌, ℕ, zero, suc, ◌+◌, ◌<◌, ◌≤◌, cond, List, [], ◌∷◌, length, get_or, Option, Some, None, refl, sym, ap, ◌∙◌, inl, inr, arith, add-one, eqb}
use Rattle.std.specs.Prelude.{Contains, IsPermutation, sum_by}
use Rattle.std.specs.List.Sorted.{IsNonDecreasing, IsStrictlyIncreasing}
use Rattle.std.proofs.lemmas.Bool.{cases_eq}
use Rattle.std.proofs.lemmas.Bool.Decides.{eqb_tells}
use Rattle.std.proofs.lemmas.List.Sorted.{sum_by-IsPermutation}
use Rattle.std.proofs.lemmas.List.Sums.{sum_by-cons}
use Rattle.thread_lists.specs.Lists.{count}
use Rattle.thread_lists.proofs.CountLaws.{count-cons, count-here, count-there, count-same, count-other}
use Rattle.vthread_state.specs.Joiners.{times}

sum_is_count : (u : ℕ) (xs : List ℕ) → sum_by (λ x. cond (eqb x u) 1 0) xs ≡ count u xs
sum_is_count u [] = refl
sum_is_count u (x ∷ xs) = sum_by-cons (λ y. cond (eqb y u) 1 0) x xs ∙ ap (λ (n : ℕ). cond (eqb x u) 1 0 + n) (sum_is_count u xs) ∙ sym (count-cons u x xs)

pub count_moved : (u : ℕ) (xs ys : List ℕ) → IsPermutation xs ys → count u ys ≡ count u xs
count_moved u xs ys moved = sym (sum_is_count u ys) ∙ sum_by-IsPermutation (λ x. cond (eqb x u) 1 0) xs ys moved ∙ sum_is_count u xs

pub counted : (u : ℕ) (xs : List ℕ) → Contains xs u → 0 < count u xs
counted u [] (k, low, is) = absurd (omega arith)
counted u (x ∷ xs) (zero, low, is) = let same : x ≡ u = is in ap-count same
  where
    ap-count : x ≡ u → 0 < count u (x ∷ xs)
    ap-count e = rw e (count-here u xs)
counted u (x ∷ xs) (suc k, low, is) = count-there u x xs (counted u xs (k, omega arith, is))

pub contained : (u : ℕ) (xs : List ℕ) → 0 < count u xs → Contains xs u
contained u [] some = absurd (omega arith)
contained u (x ∷ xs) some =
    elim (cases_eq x u) [
      | inl same ↦ (0, omega arith, same)
      | inr other ↦
          let behind : 0 < count u xs = omega (arith, some, count-other u x xs other) in
          let at = contained u xs behind in
          (suc at.0, omega (arith, at.1), at.2)
    ]

-- a number that is twice in a row
twice : (xs : List ℕ) (k : ℕ) → suc k < length xs → get_or xs k 0 ≡ get_or xs (suc k) 0 → 2 ≤ count (get_or xs k 0) xs
twice [] k low e = absurd (omega arith)
twice (x ∷ []) k low e = absurd (omega arith)
twice (x ∷ y ∷ xs) zero low e =
    let same : y ≡ x = sym e in
    let one : 0 < count x (y ∷ xs) = rw same (count-here x xs) in
    omega (arith, count-same x (y ∷ xs), one)
twice (x ∷ y ∷ xs) (suc k) low e =
    let later : 2 ≤ count (get_or (y ∷ xs) k 0) (y ∷ xs) = twice (y ∷ xs) k (omega arith) e in
    let more = count-cons (get_or (y ∷ xs) k 0) x (y ∷ xs) in
    omega (arith, more, later)

pub rising : (xs : List ℕ) → IsNonDecreasing xs → ((u : ℕ) → count u xs ≤ 1) → IsStrictlyIncreasing xs
rising xs sorted once k low =
    elim (cases_eq (get_or xs k 0) (get_or xs (k + 1) 0)) [
      | inl same ↦
          let next : get_or xs k 0 ≡ get_or xs (suc k) 0 = same ∙ ap (λ (n : ℕ). get_or xs n 0) (add-one k) in
          absurd (omega (arith, twice xs k (omega arith) next, once (get_or xs k 0)))
      | inr differ ↦ let le = sorted k (k + 1) 0 (omega arith) low in omega (arith, le, differ)
    ]

pub times_some : (o : Option ℕ) (t : ℕ) → 0 < times o t → o ≡ Some t
times_some None t some = absurd (omega arith)
times_some (Some x) t some =
    elim (eqb_tells x t) [
      | inl (e, same) ↦ ap (λ (n : ℕ). Some n) same
      | inr (e, other) ↦ let none : times (Some x) t ≡ 0 = rw e refl in absurd (omega (arith, some, none))
    ]

pub times_is_one : (o : Option ℕ) (t : ℕ) → o ≡ Some t → times o t ≡ 1
times_is_one o t e = ap (λ (p : Option ℕ). times p t) e ∙ same
  where
    same : times (Some t) t ≡ 1
    same = elim (eqb_tells t t) [ inl (f, is) ↦ rw f refl | inr (f, other) ↦ absurd (other refl) ]

pub times_at_most_one : (o : Option ℕ) (t : ℕ) → times o t ≤ 1
times_at_most_one None t = omega arith
times_at_most_one (Some x) t =
    elim (eqb_tells x t) [
      | inl (e, same) ↦ let one : times (Some x) t ≡ 1 = rw e refl in omega (arith, one)
      | inr (e, other) ↦ let none : times (Some x) t ≡ 0 = rw e refl in omega (arith, none)
    ]
