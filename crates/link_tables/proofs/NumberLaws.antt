-- Numbers in a table of meanings, while the table grows.
use Rattle.std.proofs.Common.{◌≡◌, ℕ, List, [], ◌∷◌, ◌++◌, Option, Some, get_or, map, slice_get, refl, ap, sym, zero, suc, length, ◌∙◌}
use Rattle.std.proofs.lemmas.List.{map-append}
use Rattle.link_resolution.specs.Tables.{row_at}
use Rattle.link_model.specs.declared.sites.Resolution.{Resolution}
use Rattle.link_model.specs.Resolutions.{numbered}
use Rattle.link_tables.specs.ResolutionTables.{AreListsOf, AreNumbersOf, Extends}

-- a table to which something is added keeps what it has
pub extends_appended : (old more : List Resolution) → Extends old (old ++ more)
extends_appended [] more n x e = absurd cc
extends_appended (y ∷ old) more zero x e = e
extends_appended (y ∷ old) more (suc n) x e = extends_appended old more n x e

pub added_at_end : (old : List Resolution) (x : Resolution) → slice_get (old ++ x ∷ []) (length old) ≡ Some x
added_at_end [] x = refl
added_at_end (y ∷ old) x = added_at_end old x

pub extends_twice : (a b c : List Resolution) → Extends a b → Extends b c → Extends a c
extends_twice a b c one two n x e = two n x (one n x e)

pub numbers_extended : (old new : List Resolution) → Extends old new → (ns : List ℕ) (xs : List Resolution) → AreNumbersOf old ns xs → AreNumbersOf new ns xs
numbers_extended old new extends [] [] e = refl
numbers_extended old new extends [] (x ∷ xs) e = absurd cc
numbers_extended old new extends (n ∷ ns) [] e = absurd cc
numbers_extended old new extends (n ∷ ns) (x ∷ xs) e =
    let first : slice_get old n ≡ Some x = cc in
    let rest : AreNumbersOf old ns xs = cc in
    let here : slice_get new n ≡ Some x = extends n x first in
    let behind : AreNumbersOf new ns xs = numbers_extended old new extends ns xs rest in
    ap (λ (o : Option Resolution). o ∷ map (slice_get new) ns) here ∙ ap (λ (os : List (Option Resolution)). Some x ∷ os) behind

pub lists_extended : (old new : List Resolution) → Extends old new → (nss : List (List ℕ)) (xss : List (List Resolution)) → AreListsOf old nss xss → AreListsOf new nss xss
lists_extended old new extends [] [] e = refl
lists_extended old new extends [] (xs ∷ xss) e = absurd cc
lists_extended old new extends (ns ∷ nss) [] e = absurd cc
lists_extended old new extends (ns ∷ nss) (xs ∷ xss) e =
    let first : AreNumbersOf old ns xs = cc in
    let rest : AreListsOf old nss xss = cc in
    let here : AreNumbersOf new ns xs = numbers_extended old new extends ns xs first in
    let behind : AreListsOf new nss xss = lists_extended old new extends nss xss rest in
    ap (λ (os : List (Option Resolution)). os ∷ map (map (slice_get new)) nss) here
    ∙ ap (λ (oss : List (List (Option Resolution))). map (λ (x : Resolution). Some x) xs ∷ oss) behind

found : (table : List Resolution) (n : ℕ) (x : Resolution) → slice_get table n ≡ Some x → numbered table n ≡ x
found [] n x e = absurd cc
found (y ∷ table) zero x e = cc
found (y ∷ table) (suc n) x e = found table n x e

-- what has these numbers
pub numbers_are : (table : List Resolution) (ns : List ℕ) (xs : List Resolution) → AreNumbersOf table ns xs → map (numbered table) ns ≡ xs
numbers_are table [] [] e = refl
numbers_are table [] (x ∷ xs) e = absurd cc
numbers_are table (n ∷ ns) [] e = absurd cc
numbers_are table (n ∷ ns) (x ∷ xs) e =
    let first : slice_get table n ≡ Some x = cc in
    let rest : AreNumbersOf table ns xs = cc in
    ap (λ (y : Resolution). y ∷ map (numbered table) ns) (found table n x first) ∙ ap (λ (ys : List Resolution). x ∷ ys) (numbers_are table ns xs rest)

pub lists_are : (table : List Resolution) (nss : List (List ℕ)) (xss : List (List Resolution)) → AreListsOf table nss xss → map (map (numbered table)) nss ≡ xss
lists_are table [] [] e = refl
lists_are table [] (xs ∷ xss) e = absurd cc
lists_are table (ns ∷ nss) [] e = absurd cc
lists_are table (ns ∷ nss) (xs ∷ xss) e =
    let first : AreNumbersOf table ns xs = cc in
    let rest : AreListsOf table nss xss = cc in
    ap (λ (ys : List Resolution). ys ∷ map (map (numbered table)) nss) (numbers_are table ns xs first) ∙ ap (λ (yss : List (List Resolution)). xs ∷ yss) (lists_are table nss xss rest)

joined : {A B C : Type 0} (f : A → C) (g : B → C) (ns ms : List A) (xs ys : List B) → map f ns ≡ map g xs → map f ms ≡ map g ys → map f (ns ++ ms) ≡ map g (xs ++ ys)
joined f g ns ms xs ys e h =
    map-append f ns ms ∙ ap (λ os. os ++ map f ms) e ∙ ap (λ os. map g xs ++ os) h ∙ sym (map-append g xs ys)

-- one more, while the table grows
pub number_more : (old new : List Resolution) (ns : List ℕ) (n : ℕ) (xs : List Resolution) (x : Resolution) → Extends old new → AreNumbersOf old ns xs → slice_get new n ≡ Some x
    → AreNumbersOf new (ns ++ n ∷ []) (xs ++ x ∷ [])
number_more old new ns n xs x extends e here =
    joined (slice_get new) (λ (y : Resolution). Some y) ns (n ∷ []) xs (x ∷ []) (numbers_extended old new extends ns xs e) (ap (λ (o : Option Resolution). o ∷ []) here)

-- those of one more method
pub list_more : (old new : List Resolution) (nss : List (List ℕ)) (ns : List ℕ) (xss : List (List Resolution)) (xs : List Resolution) → Extends old new → AreListsOf old nss xss
    → AreNumbersOf new ns xs → AreListsOf new (nss ++ ns ∷ []) (xss ++ xs ∷ [])
list_more old new nss ns xss xs extends e here =
    joined (map (slice_get new)) (map (λ (y : Resolution). Some y)) nss (ns ∷ []) xss (xs ∷ []) (lists_extended old new extends nss xss e) (ap (λ (os : List (Option Resolution)). os ∷ []) here)

-- what the numbers of one method mean
pub row_named : (table : List Resolution) (nss : List (List ℕ)) (m : ℕ) → map (numbered table) (row_at nss m) ≡ get_or (map (map (numbered table)) nss) m []
row_named table [] zero = refl
row_named table [] (suc m) = refl
row_named table (ns ∷ nss) zero = refl
row_named table (ns ∷ nss) (suc m) = row_named table nss m
