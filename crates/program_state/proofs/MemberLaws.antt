-- What a list contains.
use Rattle.std.proofs.Common.{◌≡◌, ◌⊎◌, inl, inr, zero, suc, Bool, true, false, List, [], ◌∷◌, refl, ap, sym, ◌∙◌, arith}
use Rattle.std.specs.Prelude.{Contains, filter, map, if◌then◌else◌}

pub contains_first : {A : Type 0} (x : A) (xs : List A) (u : A) → Contains (x ∷ xs) u → (x ≡ u) ⊎ Contains xs u
contains_first x xs u (zero, lt, e) = inl e
contains_first x xs u (suc k, lt, e) = inr (k, omega arith, e)

pub contains_none : {A : Type 0} (u : A) → Contains [] u → ⊥
contains_none u (k, lt, e) = absurd (omega arith)

pub contains_it : {A : Type 0} (x : A) (xs : List A) (u : A) → x ≡ u → Contains (x ∷ xs) u
contains_it x xs u e = (zero, omega arith, e)

pub contains_more : {A : Type 0} (x : A) (xs : List A) (u : A) → Contains xs u → Contains (x ∷ xs) u
contains_more x xs u (k, lt, e) = (suc k, omega arith, e)

-- ---- of those that pass a test

abbrev pub HasBoth : {A : Type 0} → (A → Bool) → List A → A → Type 0
HasBoth p xs u = Contains xs u × (p u ≡ true)

filter_first : {A : Type 0} (p : A → Bool) (x : A) (xs : List A) (u : A) (b : Bool) → p x ≡ b → (Contains (filter p xs) u → HasBoth p xs u)
    → Contains (if b then x ∷ filter p xs else filter p xs) u → HasBoth p (x ∷ xs) u
filter_first p x xs u false e rest c = let r = rest c in (contains_more x xs u r.0, r.1)
filter_first p x xs u true e rest c = by (contains_first x (filter p xs) u c)
  where
    by : (x ≡ u) ⊎ Contains (filter p xs) u → HasBoth p (x ∷ xs) u
    by (inl same) = (contains_it x xs u same, ap p (sym same) ∙ e)
    by (inr more) = let r = rest more in (contains_more x xs u r.0, r.1)

pub filter_has : {A : Type 0} (p : A → Bool) (xs : List A) (u : A) → Contains (filter p xs) u → HasBoth p xs u
filter_has p [] u c = absurd (contains_none u c)
filter_has p (x ∷ xs) u c = filter_first p x xs u (p x) refl (filter_has p xs u) c

filter_keeps_first : {A : Type 0} (p : A → Bool) (x : A) (xs : List A) (u : A) (b : Bool) → p x ≡ b → p u ≡ true → (Contains xs u → Contains (filter p xs) u)
    → (x ≡ u) ⊎ Contains xs u → Contains (if b then x ∷ filter p xs else filter p xs) u
filter_keeps_first p x xs u true e passes rest (inl same) = contains_it x (filter p xs) u same
filter_keeps_first p x xs u true e passes rest (inr more) = contains_more x (filter p xs) u (rest more)
filter_keeps_first p x xs u false e passes rest (inl same) = let no : false ≡ true = sym e ∙ ap p same ∙ passes in absurd cc
filter_keeps_first p x xs u false e passes rest (inr more) = rest more

pub filter_keeps : {A : Type 0} (p : A → Bool) (xs : List A) (u : A) → p u ≡ true → Contains xs u → Contains (filter p xs) u
filter_keeps p [] u passes c = absurd (contains_none u c)
filter_keeps p (x ∷ xs) u passes c = filter_keeps_first p x xs u (p x) refl passes (filter_keeps p xs u passes) (contains_first x xs u c)

-- ---- of what is made of each

abbrev pub MadeOf : {A B : Type 0} → (A → B) → List A → B → Type 0
MadeOf {A} f xs u = (x : A) × Contains xs x × (f x ≡ u)

map_first : {A B : Type 0} (f : A → B) (x : A) (xs : List A) (u : B) → (Contains (map f xs) u → MadeOf f xs u) → (f x ≡ u) ⊎ Contains (map f xs) u → MadeOf f (x ∷ xs) u
map_first f x xs u rest (inl same) = (x, contains_it x xs x refl, same)
map_first f x xs u rest (inr more) = let r = rest more in (r.0, contains_more x xs r.0 r.1, r.2)

pub map_has : {A B : Type 0} (f : A → B) (xs : List A) (u : B) → Contains (map f xs) u → MadeOf f xs u
map_has f [] u c = absurd (contains_none u c)
map_has f (x ∷ xs) u c = map_first f x xs u (map_has f xs u) (contains_first (f x) (map f xs) u c)

map_keeps_first : {A B : Type 0} (f : A → B) (y : A) (xs : List A) (x : A) → (Contains xs x → Contains (map f xs) (f x)) → (y ≡ x) ⊎ Contains xs x → Contains (f y ∷ map f xs) (f x)
map_keeps_first f y xs x rest (inl same) = contains_it (f y) (map f xs) (f x) (ap f same)
map_keeps_first f y xs x rest (inr more) = contains_more (f y) (map f xs) (f x) (rest more)

pub map_keeps : {A B : Type 0} (f : A → B) (xs : List A) (x : A) → Contains xs x → Contains (map f xs) (f x)
map_keeps f [] x c = absurd (contains_none x c)
map_keeps f (y ∷ xs) x c = map_keeps_first f y xs x (map_keeps f xs x) (contains_first y xs x c)
