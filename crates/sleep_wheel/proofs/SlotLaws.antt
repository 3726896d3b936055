-- Sleepers by key, and all of them.
use Rattle.std.proofs.Common.{◌≡◌, ℕ, zero, suc, Bool, true, false, List, [], ◌∷◌, Option, Some, None, refl, sym, ap, subst, ◌∙◌, ◌⊎◌, inl, inr}
use Rattle.std.specs.Prelude.{slice_set, IsPermutation}
use Rattle.std.specs.List.{filter}
use Rattle.std.proofs.lemmas.List.Sorted.{IsPermutation-refl, IsPermutation-cons, IsPermutation-trans, IsPermutation-middle}
use Rattle.sleep_wheel.specs.declared.sleeper.Sleeper.{Sleeper}
use Rattle.sleep_wheel.specs.Sleepers.{slot_at, values_of, is_due, left_after, NoneDue}

pub bool_cases : (b : Bool) → (b ≡ true) ⊎ (b ≡ false)
bool_cases true = inl refl
bool_cases false = inr refl

-- a key that is cleared
pub slot_cleared : (slots : List (Option Sleeper)) (key : ℕ) → slot_at (slice_set slots key None) key ≡ None
slot_cleared [] key = refl
slot_cleared (x ∷ slots) zero = refl
slot_cleared (x ∷ slots) (suc key) = slot_cleared slots key

-- what another key has after that, it had before
pub slot_kept : (slots : List (Option Sleeper)) (key other : ℕ) (u : Sleeper) → slot_at (slice_set slots key None) other ≡ Some u → slot_at slots other ≡ Some u
slot_kept [] key other u e = e
slot_kept (x ∷ slots) zero zero u e = absurd cc
slot_kept (x ∷ slots) zero (suc other) u e = e
slot_kept (x ∷ slots) (suc key) zero u e = e
slot_kept (x ∷ slots) (suc key) (suc other) u e = slot_kept slots key other u e

same_elements : (xs ys : List Sleeper) → xs ≡ ys → IsPermutation xs ys
same_elements xs ys e = subst (λ (zs : List Sleeper). IsPermutation xs zs) e (IsPermutation-refl xs)

-- a sleeper that passes the test is taken out of those that pass it
pub filter_out : (p : Sleeper → Bool) (slots : List (Option Sleeper)) (key : ℕ) (s : Sleeper) → slot_at slots key ≡ Some s → p s ≡ true
    → IsPermutation (filter p (values_of slots)) (s ∷ filter p (values_of (slice_set slots key None)))
filter_out p [] key s e passes = absurd cc
filter_out p (None ∷ slots) zero s e passes = absurd cc
filter_out p (None ∷ slots) (suc key) s e passes = filter_out p slots key s e passes
filter_out p (Some x ∷ slots) zero s e passes =
    let same : x ≡ s = cc in
    let here : p x ≡ true = ap p same ∙ passes in
    same_elements _ _ (rw here (ap (λ (y : Sleeper). y ∷ filter p (values_of slots)) same))
filter_out p (Some x ∷ slots) (suc key) s e passes =
    let rest = filter_out p slots key s e passes in
    elim (bool_cases (p x)) [
      | inl passed ↦
          let left = filter p (values_of slots) in
          let right = filter p (values_of (slice_set slots key None)) in
          let swap : IsPermutation (x ∷ s ∷ right) (s ∷ x ∷ right) = IsPermutation-middle (x ∷ []) s right in
          let both : IsPermutation (x ∷ left) (s ∷ x ∷ right) = IsPermutation-trans _ _ _ (IsPermutation-cons x left (s ∷ right) rest) swap in
          rw passed both
      | inr fails ↦ rw fails rest
    ]

-- none passes the test
pub filter_none : (p : Sleeper → Bool) (slots : List (Option Sleeper)) → ((key : ℕ) (s : Sleeper) → slot_at slots key ≡ Some s → p s ≡ false) → filter p (values_of slots) ≡ []
filter_none p [] none = refl
filter_none p (None ∷ slots) none = filter_none p slots (λ key s e. none (suc key) s e)
filter_none p (Some x ∷ slots) none = let no = none 0 x refl in rw no (filter_none p slots (λ key s e. none (suc key) s e))

-- what is left of a key that is cleared, where its sleeper was due
pub left_of_cleared : (now : ℕ) (slots : List (Option Sleeper)) (key : ℕ) (s : Sleeper) → slot_at slots key ≡ Some s → is_due now s ≡ true
    → (other : ℕ) → left_after now (slot_at (slice_set slots key None) other) ≡ left_after now (slot_at slots other)
left_of_cleared now [] key s e due other = refl
left_of_cleared now (x ∷ slots) zero s e due zero = let gone : left_after now (Some s) ≡ None = rw due refl in sym (ap (left_after now) e ∙ gone)
left_of_cleared now (x ∷ slots) zero s e due (suc other) = refl
left_of_cleared now (x ∷ slots) (suc key) s e due zero = refl
left_of_cleared now (x ∷ slots) (suc key) s e due (suc other) = left_of_cleared now slots key s e due other

-- where none is due, all are left
pub left_of_none : (now : ℕ) (slots : List (Option Sleeper)) → NoneDue now slots → (key : ℕ) (slot : Option Sleeper) → slot_at slots key ≡ slot → left_after now slot ≡ slot
left_of_none now slots none key None e = refl
left_of_none now slots none key (Some s) e = let no = none.none key s e in rw no refl
