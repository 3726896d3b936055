-- What holds of each item of a list, of the list that is made of it, and of what a test finds in it.
use Rattle.std.proofs.Common.{◌≡◌, ℕ, zero, suc, ◌+◌, Bool, true, false, cond, List, [], ◌∷◌, ◌++◌, Option, Some, None, refl, ap, sym, subst, arith}
use Rattle.std.specs.Prelude.{◌&&◌, not, map, filter, find, slice_get, is_some}
use Rattle.std.specs.Option.{option_map, option_map_or}
use Rattle.std.specs.List.{flat_map, enumerate_from, list_all, IsAmong}
use Rattle.std.proofs.lemmas.List.Sums.{AllPass-from_list_all}
use Rattle.std.proofs.lemmas.Option.{slice_get_within, get_or_from_slice_get}
use Rattle.items.specs.First.{Each, AllNone}

pub and_true : (a b : Bool) → (a && b) ≡ true → (a ≡ true) × (b ≡ true)
and_true true b e = (refl, e)
and_true false b e = absurd cc

pub not_true : (b : Bool) → not b ≡ true → b ≡ false
not_true true e = absurd cc
not_true false e = refl

-- ---- each of a list

pub each_split : {A : Type 0} (P : A → Type 0) (xs ys : List A) → Each P (xs ++ ys) → Each P xs × Each P ys
each_split P [] ys h = (tt, h)
each_split P (x ∷ xs) ys h = let both = each_split P xs ys h.1 in ((h.0, both.0), both.1)

pub each_flat : {A B : Type 0} (P : B → Type 0) (f : A → List B) (xs : List A) → Each P (flat_map f xs) → Each (λ x. Each P (f x)) xs
each_flat P f [] h = tt
each_flat P f (x ∷ xs) h = let both = each_split P (f x) (flat_map f xs) h in (both.0, each_flat P f xs both.1)

unmapped_one : {A B : Type 0} (f : A → B) (o : Option A) → option_map f o ≡ None → o ≡ None
unmapped_one f None e = refl
unmapped_one f (Some x) e = absurd cc

pub unmapped : {A B : Type 0} (f : A → B) (xs : List (Option A)) → AllNone (map (option_map f) xs) → AllNone xs
unmapped f [] none = tt
unmapped f (x ∷ xs) none = (unmapped_one f x none.0, unmapped f xs none.1)

pub empty : {A B : Type 0} (f : A → B) (xs : List A) → AllNone (map (λ x. Some (f x)) xs) → xs ≡ []
empty f [] none = refl
empty f (x ∷ xs) none = let e = none.0 in absurd cc

-- an item that a test finds, or one after it
found_by : {A : Type 0} (P : A → Type 0) (b : Bool) (y x : A) (below : Option A) → cond b (Some y) below ≡ Some x → P y → (below ≡ Some x → P x) → P x
found_by P true y x below e here behind = let is : y ≡ x = cc in subst P is here
found_by P false y x below e here behind = behind e

-- ---- and back

pub each_all : {A : Type 0} (P : A → Type 0) → ((x : A) → P x) → (xs : List A) → Each P xs
each_all P all [] = tt
each_all P all (x ∷ xs) = (all x, each_all P all xs)

pub each_join : {A : Type 0} (P : A → Type 0) (xs ys : List A) → Each P xs → Each P ys → Each P (xs ++ ys)
each_join P [] ys h g = g
each_join P (x ∷ xs) ys h g = (h.0, each_join P xs ys h.1 g)

pub flat_each : {A B : Type 0} (P : B → Type 0) (f : A → List B) (xs : List A) → Each (λ x. Each P (f x)) xs → Each P (flat_map f xs)
flat_each P f [] h = tt
flat_each P f (x ∷ xs) h = each_join P (f x) (flat_map f xs) h.0 (flat_each P f xs h.1)

pub each_kept : {A : Type 0} (P Q : A → Type 0) → ((x : A) → P x → Q x) → (xs : List A) → Each P xs → Each Q xs
each_kept P Q to [] h = tt
each_kept P Q to (x ∷ xs) h = (to x h.0, each_kept P Q to xs h.1)

pub mapped : {A B : Type 0} (f : A → B) (xs : List (Option A)) → AllNone xs → AllNone (map (option_map f) xs)
mapped f [] none = tt
mapped f (x ∷ xs) none = (ap (λ o. option_map f o) none.0, mapped f xs none.1)

pub true_and : (a b : Bool) → a ≡ true → b ≡ true → (a && b) ≡ true
true_and true b e g = g
true_and false b e g = absurd cc

pub each_found : {A : Type 0} (P : A → Type 0) (test : A → Bool) (xs : List A) (x : A) → Each P xs → find test xs ≡ Some x → P x
each_found P test [] x h e = absurd cc
each_found P test (y ∷ xs) x h e = found_by P (test y) y x (find test xs) e h.0 (λ found. each_found P test xs x h.1 found)

passes_by : {A : Type 0} (test : A → Bool) (b : Bool) (y x : A) (below : Option A) → test y ≡ b → cond b (Some y) below ≡ Some x
    → (below ≡ Some x → test x ≡ true) → test x ≡ true
passes_by test true y x below is e behind = let same : y ≡ x = cc in subst (λ z. test z ≡ true) same is
passes_by test false y x below is e behind = behind e

-- what is found passes the test
pub found_passes : {A : Type 0} (test : A → Bool) (xs : List A) (x : A) → find test xs ≡ Some x → test x ≡ true
found_passes test [] x e = absurd cc
found_passes test (y ∷ xs) x e = passes_by test (test y) y x (find test xs) refl e (λ found. found_passes test xs x found)

left_by : {A : Type 0} (b : Bool) (y : A) (xs : List A) → cond b (y ∷ xs) xs ≡ [] → (b ≡ false) × (xs ≡ [])
left_by true y xs e = absurd cc
left_by false y xs e = (refl, e)

-- what is found passes no test that leaves nothing
pub none_left : {A : Type 0} (p test : A → Bool) (xs : List A) (x : A) → filter p xs ≡ [] → find test xs ≡ Some x → p x ≡ false
none_left p test [] x none e = absurd cc
none_left {A} p test (y ∷ xs) x none e =
    let left = left_by (p y) y (filter p xs) none in
    let P : A → Type 0 = λ z. p z ≡ false in
    found_by P (test y) y x (find test xs) e left.0 (λ found. none_left p test xs x left.1 found)

-- ---- all of a list

pub among_all : {A : Type 0} (p : A → Bool) (xs : List A) (x : A) → list_all p xs ≡ true → IsAmong xs x → p x ≡ true
among_all {A} p xs x all among =
    let P : A → Type 0 = λ z. p z ≡ true in
    subst P (sym among.1.1) (AllPass-from_list_all p xs all among.0 x among.1.0)

pub at_all : {A : Type 0} (p : A → Bool) (xs : List A) (k : ℕ) (x : A) → list_all p xs ≡ true → slice_get xs k ≡ Some x → p x ≡ true
at_all {A} p xs k x all e =
    let P : A → Type 0 = λ z. p z ≡ true in
    subst P (get_or_from_slice_get xs k x x e) (AllPass-from_list_all p xs all k x (slice_get_within xs k x e))

-- ---- an option

pub option_true : {A : Type 0} (g : A → Bool) (o : Option A) → option_map_or g o false ≡ true → (x : A) × (o ≡ Some x) × (g x ≡ true)
option_true g None e = absurd cc
option_true g (Some x) e = (x, refl, e)

pub some_is_some : {A : Type 0} (o : Option A) → is_some o ≡ true → (x : A) × (o ≡ Some x)
some_is_some None e = absurd cc
some_is_some (Some x) e = (x, refl)

pub option_case : {A : Type 0} (G : Type 0) (o : Option A) → ((x : A) → o ≡ Some x → G) → (o ≡ None → G) → G
option_case G None found none = none refl
option_case G (Some x) found none = found x refl

-- ---- the item at an index, with its number

pub numbered : {A : Type 0} (P : ℕ × A → Type 0) (k n : ℕ) (xs : List A) (x : A) → Each P (enumerate_from k xs) → slice_get xs n ≡ Some x → P (k + n, x)
numbered P k n [] x h e = absurd cc
numbered {A} P k zero (y ∷ xs) x h e =
    let same : y ≡ x = cc in let here : k ≡ k + 0 = omega arith in
    let P' : ℕ → Type 0 = λ i. P (i, x) in
    subst P' here (subst (λ (z : A). P (k, z)) same h.0)
numbered P k (suc n) (y ∷ xs) x h e =
    let below = numbered P (k + 1) n xs x h.1 e in
    let here : k + 1 + n ≡ k + suc n = omega arith in
    let P' : ℕ → Type 0 = λ i. P (i, x) in
    subst P' here below
