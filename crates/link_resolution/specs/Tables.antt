-- Tables: the values of a function at 0 and at the numbers after it.
use Rattle.std.specs.Prelude.{ℕ, zero, suc, List, [], ◌∷◌, ◌++◌, reverse, slice_get, unwrap_or, Option, option_and_then}

abbrev pub tabulate : {A : Type 0} → (ℕ → A) → ℕ → List A
tabulate f zero = []
tabulate f (suc n) = tabulate f n ++ f n ∷ []

-- the list at a number, which has no items past the end of the table
abbrev pub row_at : {A : Type 0} → List (List A) → ℕ → List A
row_at rows n = unwrap_or (slice_get rows n) []

-- what is above a class, where the table has it the other way round
abbrev pub above : List (List ℕ) → ℕ → List ℕ
above stacked c = reverse (row_at stacked c)

-- the superclass by a table
abbrev pub parent_at : List (Option ℕ) → ℕ → Option ℕ
parent_at parents c = option_and_then (λ parent. parent) (slice_get parents c)
