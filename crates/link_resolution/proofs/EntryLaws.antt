-- Tables by index in which an entry may be missing.
use Rattle.std.proofs.Common.{◌≡◌, ℕ, zero, suc, List, [], ◌∷◌, Option, Some, slice_get, slice_set, subst}

-- what holds of an entry that is set and of all entries before, holds of all
pub all_set : {X : Type 0} (P : ℕ → X → Type 0) (table : List (Option X)) (i : ℕ) (x : X) → P i x → ((j : ℕ) (y : X) → slice_get table j ≡ Some (Some y) → P j y)
    → (j : ℕ) (y : X) → slice_get (slice_set table i (Some x)) j ≡ Some (Some y) → P j y
all_set P [] i x p old j y e = old j y e
all_set P (o ∷ os) zero x p old zero y e = subst (P 0) (let same : x ≡ y = cc e in same) p
all_set P (o ∷ os) zero x p old (suc j) y e = old (suc j) y e
all_set P (o ∷ os) (suc i) x p old zero y e = old 0 y e
all_set P (o ∷ os) (suc i) x p old (suc j) y e = all_set (λ k. P (suc k)) os i x p (λ k z. old (suc k) z) j y e
