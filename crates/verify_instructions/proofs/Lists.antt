-- A stack lies in its vector the other way round.
use Rattle.std.proofs.Common.{◌≡◌, Bool, true, false, cond, List, [], ◌∷◌, ◌++◌, refl, ap, sym, ◌∙◌}
use Rattle.std.specs.Prelude.{◌&&◌, map, reverse}
use Rattle.std.specs.Cmp.Lexicographic.{pointwise}
use Rattle.std.specs.List.{list_any}
use Rattle.std.proofs.lemmas.List.{reverse-append, map-append}
use Rattle.std.proofs.lemmas.List.Sorted.{list_any-IsPermutation, IsPermutation-reverse}
use Rattle.stack_maps.specs.declared.types.VType.{VType}
use Rattle.verify_types.specs.TypeStates.{replaced}

pub any_reverse : (p : VType → Bool) (ts : List VType) → list_any p (reverse ts) ≡ list_any p ts
any_reverse p ts = sym (list_any-IsPermutation p ts (reverse ts) (IsPermutation-reverse ts))

map_reverse : (f : VType → VType) (ts : List VType) → reverse (map f ts) ≡ map f (reverse ts)
map_reverse f [] = refl
map_reverse f (t ∷ ts) =
    reverse-append (f t ∷ []) (map f ts)
    ∙ ap (λ us. us ++ f t ∷ []) (map_reverse f ts)
    ∙ sym (map-append f (reverse ts) (t ∷ []))
    ∙ ap (λ us. map f us) (sym (reverse-append (t ∷ []) ts))

pub replaced_reverse : (p : VType → Bool) (t : VType) (ts : List VType) → reverse (replaced p t ts) ≡ replaced p t (reverse ts)
replaced_reverse p t ts = map_reverse (λ x. cond (p x) t x) ts

-- ---- one by one, from the other end

and_false : (b : Bool) → (b && false) ≡ false
and_false true = refl
and_false false = refl

swapped : (a b c : Bool) → (a && (b && c)) ≡ (b && (a && c))
swapped true true c = refl
swapped true false c = refl
swapped false true c = refl
swapped false false c = refl

pub none_to_more : {A : Type 0} (E : A → A → Bool) (xs : List A) (x : A) → pointwise E [] (xs ++ x ∷ []) ≡ false
none_to_more E [] x = refl
none_to_more E (y ∷ xs) x = refl

more_to_none : {A : Type 0} (E : A → A → Bool) (xs : List A) (x : A) → pointwise E (xs ++ x ∷ []) [] ≡ false
more_to_none E [] x = refl
more_to_none E (y ∷ xs) x = refl

pub last_pair : {A : Type 0} (E : A → A → Bool) (xs ys : List A) (x y : A) → pointwise E (xs ++ x ∷ []) (ys ++ y ∷ []) ≡ (E x y && pointwise E xs ys)
last_pair E [] [] x y = refl
last_pair E [] (b ∷ ys) x y = ap (λ r. E x b && r) (none_to_more E ys y) ∙ and_false (E x b) ∙ sym (and_false (E x y))
last_pair E (a ∷ xs) [] x y = ap (λ r. E a y && r) (more_to_none E xs x) ∙ and_false (E a y) ∙ sym (and_false (E x y))
last_pair E (a ∷ xs) (b ∷ ys) x y = ap (λ r. E a b && r) (last_pair E xs ys x y) ∙ swapped (E a b) (E x y) (pointwise E xs ys)

pub pointwise_reverse : {A : Type 0} (E : A → A → Bool) (xs ys : List A) → pointwise E (reverse xs) (reverse ys) ≡ pointwise E xs ys
pointwise_reverse E [] [] = refl
pointwise_reverse E [] (y ∷ ys) = ap (λ zs. pointwise E [] zs) (reverse-append (y ∷ []) ys) ∙ none_to_more E (reverse ys) y
pointwise_reverse E (x ∷ xs) [] = ap (λ zs. pointwise E zs []) (reverse-append (x ∷ []) xs) ∙ more_to_none E (reverse xs) x
pointwise_reverse E (x ∷ xs) (y ∷ ys) =
    ap (λ zs. pointwise E zs (reverse (y ∷ ys))) (reverse-append (x ∷ []) xs)
    ∙ ap (λ zs. pointwise E (reverse xs ++ x ∷ []) zs) (reverse-append (y ∷ []) ys)
    ∙ last_pair E (reverse xs) (reverse ys) x y
    ∙ ap (λ r. E x y && r) (pointwise_reverse E xs ys)
