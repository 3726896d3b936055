-- Whether any item of a list passes a test, by those from an index on.
use Rattle.std.proofs.Common.{◌≡◌, ◌≤◌, ℕ, zero, suc, Bool, true, false, List, [], ◌∷◌, length, drop, Some, refl, ap, sym, ◌∙◌, arith}
use Rattle.std.specs.Prelude.{slice_get, ◌||◌}
use Rattle.std.specs.List.{list_any}

pub any_here : {A : Type 0} (f : A → Bool) (xs : List A) (i : ℕ) (x : A) → slice_get xs i ≡ Some x → f x ≡ true → list_any f (drop i xs) ≡ true
any_here f [] i x at e = absurd cc
any_here f (y ∷ xs) zero x at e = let same : x ≡ y = cc in ap (λ b. b || list_any f xs) (ap f (sym same) ∙ e)
any_here f (y ∷ xs) (suc i) x at e = any_here f xs i x at e

pub any_behind : {A : Type 0} (f : A → Bool) (xs : List A) (i : ℕ) (x : A) → slice_get xs i ≡ Some x → f x ≡ false → list_any f (drop i xs) ≡ list_any f (drop (suc i) xs)
any_behind f [] i x at e = absurd cc
any_behind f (y ∷ xs) zero x at e = let same : x ≡ y = cc in ap (λ b. b || list_any f xs) (ap f (sym same) ∙ e)
any_behind f (y ∷ xs) (suc i) x at e = any_behind f xs i x at e

pub any_end : {A : Type 0} (f : A → Bool) (xs : List A) (i : ℕ) → length xs ≤ i → list_any f (drop i xs) ≡ false
any_end f [] zero h = refl
any_end f [] (suc i) h = refl
any_end f (x ∷ xs) zero h = absurd (omega arith)
any_end f (x ∷ xs) (suc i) h = any_end f xs i (omega arith)
