-- Those of the numbers below another that pass a test, in order.
use Rattle.std.proofs.Common.{◌≡◌, ℕ, zero, suc, ◌+◌, ◌<◌, ◌≤◌, Bool, true, false, List, [], ◌∷◌, length, get_or, refl, ap, sym, subst, ◌∙◌, arith, cond, inl, inr}
use Rattle.std.specs.Prelude.{Contains}
use Rattle.std.specs.List.{AllPairs, filter, range_with_len}
use Rattle.std.specs.List.Sorted.{IsStrictlyIncreasing}
use Rattle.std.proofs.lemmas.Bool.{cases_Bool}
use Rattle.std.proofs.lemmas.Bool.Decides.{eqb_tells}
use Rattle.std.proofs.lemmas.List.Kept.{AllPairs-from_increasing}
use Rattle.thread_lists.specs.Lists.{count}
use Rattle.thread_lists.proofs.CountLaws.{count-here, count-other, count-there}
use Rattle.vthread_state.proofs.RisingLaws.{contained, counted}

-- ---- numbers that rise, from this one on

abbrev Rises : ℕ → List ℕ → Type 0
Rises a [] = Unit {0}
Rises a (x ∷ xs) = (a ≤ x) × Rises (suc x) xs

low : (a u : ℕ) (xs : List ℕ) → Rises a xs → 0 < count u xs → a ≤ u
low a u [] rises there = absurd (omega arith)
low a u (x ∷ xs) rises there =
    elim (eqb_tells x u) [
      | inl here ↦ omega (arith, rises.0, here.1)
      | inr other ↦
          let behind : 0 < count u xs = omega (arith, there, count-other u x xs other.1) in
          omega (arith, rises.0, low (suc x) u xs rises.1 behind)
    ]

from_first : (a : ℕ) (xs : List ℕ) → (0 < length xs → a ≤ get_or xs 0 0) → AllPairs (λ x y. x < y) xs → Rises a xs
from_first a [] first pairs = tt
from_first a (x ∷ xs) first pairs =
    (first (omega arith), from_first (suc x) xs (λ some. next some) (λ i j d h k. pairs (suc i) (suc j) d (omega arith) (omega arith)))
  where
    next : 0 < length xs → suc x ≤ get_or xs 0 0
    next some = let h : x < get_or xs 0 0 = pairs 0 1 0 (omega arith) (omega arith) in omega arith

-- ---- the filter

no_both : (b : Bool) → b ≡ true → b ≡ false → ⊥
no_both b i j = absurd cc

filter_rises : (p : ℕ → Bool) (n a : ℕ) (xs : List ℕ) → Rises a xs → ((u : ℕ) → 0 < count u xs → (u < a + n) × (p u ≡ true))
    → ((u : ℕ) → a ≤ u → u < a + n → p u ≡ true → 0 < count u xs) → filter p (range_with_len a n) ≡ xs
filter_rises p zero a [] rises pass all = refl
filter_rises p zero a (x ∷ xs) rises pass all = absurd (omega (arith, rises.0, (pass x (count-here x xs)).0))
filter_rises p (suc n) a [] rises pass all =
    elim (cases_Bool (p a)) [
      | inl here ↦ absurd (let z : 0 < count a [] = all a (omega arith) (omega arith) here in omega arith)
      | inr gone ↦
          ap (λ b. cond b (a ∷ filter p (range_with_len (a + 1) n)) (filter p (range_with_len (a + 1) n))) gone
          ∙ filter_rises p n (a + 1) [] tt (λ u h. absurd (omega arith)) (λ u le lt e. all u (omega arith) (omega arith) e)
    ]
filter_rises p (suc n) a (x ∷ xs) rises pass all =
    elim (cases_Bool (p a)) [
      | inl here ↦
          let first = is_first here in
          ap (λ b. cond b (a ∷ filter p (range_with_len (a + 1) n)) (filter p (range_with_len (a + 1) n))) here
          ∙ ap (λ y. y ∷ filter p (range_with_len (a + 1) n)) (sym first)
          ∙ ap (λ ys. x ∷ ys) (filter_rises p n (a + 1) xs (subst (λ y. Rises y xs) (next first) rises.1)
          (λ u h. (omega (arith, (pass u (count-there u x xs h)).0), (pass u (count-there u x xs h)).1))
          (λ u le lt e. behind first u le (all u (omega arith) (omega arith) e)))
      | inr gone ↦
          ap (λ b. cond b (a ∷ filter p (range_with_len (a + 1) n)) (filter p (range_with_len (a + 1) n))) gone
          ∙ filter_rises p n (a + 1) (x ∷ xs) (above gone, rises.1) (λ u h. (omega (arith, (pass u h).0), (pass u h).1))
          (λ u le lt e. all u (omega arith) (omega arith) e)
    ]
  where
    is_first : p a ≡ true → x ≡ a
    is_first here =
        elim (eqb_tells x a) [
          | inl w ↦ w.1
          | inr w ↦
              let there : 0 < count a (x ∷ xs) = all a (omega arith) (omega arith) here in
              let later : 0 < count a xs = omega (arith, there, count-other a x xs w.1) in
              absurd (omega (arith, rises.0, low (suc x) a xs rises.1 later))
        ]

    next : x ≡ a → suc x ≡ a + 1
    next e = omega arith

    behind : x ≡ a → (u : ℕ) → a + 1 ≤ u → 0 < count u (x ∷ xs) → 0 < count u xs
    behind e u le there = omega (arith, there, count-other u x xs (λ i. absurd (omega arith)))

    above : p a ≡ false → a + 1 ≤ x
    above gone =
        elim (eqb_tells x a) [
          | inl w ↦ absurd (no_both (p x) (pass x (count-here x xs)).1 (ap p w.1 ∙ gone))
          | inr w ↦ omega (arith, rises.0, w.1)
        ]

pub filter_below : (p : ℕ → Bool) (n : ℕ) (xs : List ℕ) → IsStrictlyIncreasing xs → ((u : ℕ) → Contains xs u → (u < n) × (p u ≡ true))
    → ((u : ℕ) → u < n → p u ≡ true → Contains xs u) → filter p (range_with_len 0 n) ≡ xs
filter_below p n xs rising pass all =
    filter_rises p n 0 xs (from_first 0 xs (λ some. omega arith) (AllPairs-from_increasing xs rising))
    (λ u there. let h = pass u (contained u xs there) in (omega (arith, h.0), h.1))
    (λ u le lt e. counted u xs (all u (omega arith) e))
