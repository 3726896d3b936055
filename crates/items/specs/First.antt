-- The first of several: of values in a list that may be there, and of what a function finds in a list.
use Rattle.std.specs.Prelude.{◌≡◌, Bool, List, [], ◌∷◌, ◌++◌, Option, Some, None, if◌then◌else◌}
use Rattle.std.specs.Option.{option_or}

-- this, unless the test has passed
abbrev pub unless : {A : Type 0} → Bool → A → Option A
unless passed x = if passed then None else Some x

-- the first that is there
abbrev pub first_some : {A : Type 0} → List (Option A) → Option A
first_some [] = None
first_some (None ∷ xs) = first_some xs
first_some (Some x ∷ xs) = Some x

-- what the function finds first in the list
abbrev pub first_in : {A B : Type 0} → (A → Option B) → List A → Option B
first_in find [] = None
first_in find (x ∷ xs) = option_or (find x) (first_in find xs)

-- ---- as relations

abbrev pub Each : {A : Type 0} → (A → Type 0) → List A → Type 0
Each P [] = Unit {0}
Each P (x ∷ xs) = P x × Each P xs

-- none is there
abbrev pub AllNone : {A : Type 0} → List (Option A) → Type 0
AllNone xs = Each (λ x. x ≡ None) xs

-- x is the first that is there
pub record IsFirst {A : Type 0} (xs : List (Option A)) (x : A) : Type 0 where
  pub front : List (Option A)
  pub rest : List (Option A)
  pub parts : xs ≡ front ++ Some x ∷ rest
  pub none : AllNone front
