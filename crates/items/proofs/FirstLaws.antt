-- The first of a list, by its definition and as a relation.
use Rattle.std.proofs.Common.{◌≡◌, Bool, true, false, List, [], ◌∷◌, ◌++◌, Option, Some, None, refl, ap, ◌∙◌}
use Rattle.std.specs.Prelude.{map}
use Rattle.std.specs.Option.{option_map, option_or}
use Rattle.std.specs.List.{flat_map}
use Rattle.items.specs.First.{unless, first_some, first_in, AllNone, IsFirst}

-- ---- one that may be there

pub passed : {A : Type 0} (test : Bool) (x : A) → unless test x ≡ None → test ≡ true
passed true x e = refl
passed false x e = absurd cc

pub not_there : {A : Type 0} (test : Bool) (x : A) → test ≡ true → unless test x ≡ None
not_there true x e = refl
not_there false x e = absurd cc

-- ---- none is first exactly where none is there

pub first_none : {A : Type 0} (xs : List (Option A)) → first_some xs ≡ None → AllNone xs
first_none [] e = tt
first_none (None ∷ xs) e = (refl, first_none xs e)
first_none (Some x ∷ xs) e = absurd cc

pub none_first : {A : Type 0} (xs : List (Option A)) → AllNone xs → first_some xs ≡ None
none_first [] none = refl
none_first (None ∷ xs) none = none_first xs none.1
none_first (Some x ∷ xs) none = let e = none.0 in absurd cc

-- ---- x is first exactly where none comes before it

pub first_found : {A : Type 0} (xs : List (Option A)) (x : A) → first_some xs ≡ Some x → IsFirst xs x
first_found [] x e = absurd cc
first_found (Some y ∷ xs) x e =
    let same : y ≡ x = cc in
    record { front = []; rest = xs; parts = ap (λ z. Some z ∷ xs) same; none = tt }
first_found (None ∷ xs) x e =
    let below = first_found xs x e in
    record { front = None ∷ below.front; rest = below.rest; parts = ap (λ ys. None ∷ ys) below.parts; none = (refl, below.none) }

first_behind : {A : Type 0} (front rest : List (Option A)) (x : A) → AllNone front → first_some (front ++ Some x ∷ rest) ≡ Some x
first_behind [] rest x none = refl
first_behind (None ∷ front) rest x none = first_behind front rest x none.1
first_behind (Some y ∷ front) rest x none = let e = none.0 in absurd cc

pub found_first : {A : Type 0} (xs : List (Option A)) (x : A) → IsFirst xs x → first_some xs ≡ Some x
found_first xs x is = ap (λ ys. first_some ys) is.parts ∙ first_behind is.front is.rest x is.none

-- ---- the first of a list that is made of others

pub first_append : {A : Type 0} (xs ys : List (Option A)) → first_some (xs ++ ys) ≡ option_or (first_some xs) (first_some ys)
first_append [] ys = refl
first_append (None ∷ xs) ys = first_append xs ys
first_append (Some x ∷ xs) ys = refl

-- of lists one after the other, one for each item
pub first_flat : {A B : Type 0} (f : A → List (Option B)) (xs : List A) → first_some (flat_map f xs) ≡ first_in (λ x. first_some (f x)) xs
first_flat f [] = refl
first_flat f (x ∷ xs) = first_append (f x) (flat_map f xs) ∙ ap (option_or (first_some (f x))) (first_flat f xs)

pub first_map : {A B : Type 0} (f : A → B) (xs : List (Option A)) → first_some (map (option_map f) xs) ≡ option_map f (first_some xs)
first_map f [] = refl
first_map f (None ∷ xs) = first_map f xs
first_map f (Some x ∷ xs) = refl
