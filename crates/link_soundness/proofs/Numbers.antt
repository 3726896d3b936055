-- A class of a program has the number of its place among the names of the world.
use Rattle.std.proofs.Common.{◌≡◌, ℕ, suc, ◌+◌, Bool, true, false, cond, not, List, [], ◌∷◌, ◌++◌, length, Option, Some, None, nat_lt, refl, ap, sym, ◌∙◌, arith}
use Rattle.std.specs.Prelude.{is_some, map, position, if◌then◌else◌}
use Rattle.std.specs.Option.{option_map}
use Rattle.std.specs.List.{fold, prefix_len}
use Rattle.std.proofs.lemmas.Bool.Decides.{nat_tests}
use Rattle.std.proofs.lemmas.List.{append-nil, append_assoc}
use Rattle.class_grammar.specs.Text.{same_text}
use Rattle.descriptors.specs.declared.kind.ElementType.{ElementType}
use Rattle.descriptors.specs.declared.kind.ElementType.TheVariants as elements
use Rattle.descriptors.specs.declared.kind.Kind.{Kind}
use Rattle.link_rules.specs.Program.{Program, class_named, own_name}
use Rattle.link_model.specs.Numbering.{Numbering, first_numbers, kinds_of, number_of, numbering_of, with_class, with_element, with_kind}

-- ---- the first item that passes a test

position_step : {A : Type 0} (test : A → Bool) (x : A) (xs : List A) → position test (x ∷ xs) ≡ cond (test x) (Some 0) (option_map suc (position test xs))
position_step {A} test x xs = by (test x)
  where
    n : ℕ
    n = prefix_len (λ (y : A). not (test y)) xs

    some_suc : (k : ℕ) → nat_lt 0 (suc k) ≡ true
    some_suc k = grind (arith, nat_tests)

    lower_suc : (j k : ℕ) → nat_lt (1 + j) (suc k) ≡ nat_lt j k
    lower_suc j k = grind (arith, nat_tests)

    one_more : (j : ℕ) → 1 + j ≡ suc j
    one_more j = omega arith

    inner : (b : Bool) → cond b (Some (1 + n)) None ≡ option_map suc (cond b (Some n) None)
    inner true = ap (λ (j : ℕ). Some j) (one_more n)
    inner false = refl

    by : (b : Bool) → cond (nat_lt (cond (not b) (1 + n) 0) (suc (length xs))) (Some (cond (not b) (1 + n) 0)) None
        ≡ cond b (Some 0) (option_map suc (cond (nat_lt n (length xs)) (Some n) None))
    by true = ap (λ (b : Bool). cond b (Some 0) None) (some_suc (length xs))
    by false = ap (λ (b : Bool). cond b (Some (1 + n)) None) (lower_suc n (length xs)) ∙ inner (nat_lt n (length xs))

-- of the list that is made of the items, and of others after it
pub position_front : {A B : Type 0} (g : A → B) (test : B → Bool) (xs : List A) (more : List B) (k : ℕ) → position (λ x. test (g x)) xs ≡ Some k
    → position test (map g xs ++ more) ≡ Some k
position_front g test [] more k e = absurd cc
position_front {A} {B} g test (x ∷ xs) more k e =
    position_step test (g x) (map g xs ++ more)
    ∙ by (test (g x)) (position (λ y. test (g y)) xs) refl (sym (position_step (λ y. test (g y)) x xs) ∙ e) (λ j found. position_front g test xs more j found)
  where
    by : (b : Bool) (o : Option ℕ) → position (λ y. test (g y)) xs ≡ o → cond b (Some 0) (option_map suc o) ≡ Some k
        → ((j : ℕ) → position (λ y. test (g y)) xs ≡ Some j → position test (map g xs ++ more) ≡ Some j)
        → cond b (Some 0) (option_map suc (position test (map g xs ++ more))) ≡ Some k
    by true o is e rest = e
    by false None is e rest = absurd cc
    by false (Some j) is e rest = ap (option_map suc) (rest j is) ∙ e

-- ---- the names of a world

record HasFront {A : Type 0} (front all : List A) : Type 0 where
  pub rest : List A
  pub parts : all ≡ front ++ rest

whole : {A : Type 0} (xs : List A) → HasFront xs xs
whole xs = record { rest = []; parts = sym (append-nil xs) }

longer : {A : Type 0} (xs ys zs : List A) → HasFront xs ys → HasFront ys zs → HasFront xs zs
longer xs ys zs a b = record {
  rest = a.rest ++ b.rest;
  parts = b.parts ∙ ap (λ front. front ++ b.rest) a.parts ∙ append_assoc xs a.rest b.rest;
}

class_front : (n : Numbering) (name : List ℕ) → HasFront n.names (with_class n name).names
class_front n name = by (is_some (number_of n.names name))
  where
    by : (b : Bool) → HasFront n.names
        (if b then n else (let m : Numbering = record { names = n.names ++ name ∷ []; depths = n.depths ++ 0 ∷ [] } in m)).names
    by true = whole n.names
    by false = record { rest = name ∷ []; parts = refl }

element_front : (n : Numbering) (element : ElementType) → HasFront n.names (with_element n element).names
element_front n (elements.Class name) = class_front n name
element_front n elements.Byte = whole n.names
element_front n elements.Char = whole n.names
element_front n elements.Double = whole n.names
element_front n elements.Float = whole n.names
element_front n elements.Int = whole n.names
element_front n elements.Long = whole n.names
element_front n elements.Short = whole n.names
element_front n elements.Bool = whole n.names

kinds_front : (n : Numbering) (kinds : List Kind) → HasFront n.names (fold with_kind n kinds).names
kinds_front n [] = whole n.names
kinds_front n (kind ∷ kinds) =
    longer n.names (with_kind n kind).names (fold with_kind n (kind ∷ kinds)).names (element_front n kind.element) (kinds_front (with_kind n kind) kinds)

pub number_of_class : (p : Program) (name : List ℕ) (c : ℕ) → class_named p name ≡ Some c → number_of (numbering_of p).names name ≡ Some c
number_of_class p name c e =
    let h = kinds_front (first_numbers p) (kinds_of p) in
    ap (λ ns. number_of ns name) h.parts
    ∙ position_front own_name (λ (other : List ℕ). same_text other name) p.classes h.rest c e
