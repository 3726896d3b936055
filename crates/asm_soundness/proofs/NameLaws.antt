-- A descriptor of a method begins as one, and a descriptor of a field doesn't (JVMS 4.3).
use Rattle.std.proofs.Common.{◌≡◌, ℕ, ◌+◌, ◌==◌, Bool, true, false, ◌||◌, List, [], ◌∷◌, Option, Some, None, refl, sym, ◌∙◌, ap, if◌then◌else◌}
use Rattle.std.specs.Option.{is_none}
use Rattle.std.proofs.lemmas.Bool.{eqb-true}
use Rattle.descriptors.specs.Descriptors.{open_parenthesis}
use Rattle.descriptors.specs.declared.fronts.Front.TheVariants.{Brackets}
use Rattle.descriptors.specs.States.{State, Args, first_bad, is_field, is_method}
use Rattle.class_grammar.specs.Names.{is_like_method}

after_first : State → List ℕ → Option ℕ
after_first more us = first_bad more (0 + 1) us

pub method_like : (text : List ℕ) → is_method text ≡ true → is_like_method text ≡ true
unfolding after_first
method_like [] e = absurd cc
method_like (u ∷ us) e = by (u == open_parenthesis) e
  where
    first : Option State → Option ℕ
    first o = elim o [ None ↦ Some 0 | Some more ↦ after_first more us ]

    by : (b : Bool) → is_none (first (if b then Some (Args 0 (Brackets 0)) else None)) ≡ true → (b || false) ≡ true
    by true e = refl
    by false e = absurd cc

no_field : (us : List ℕ) → is_field (40 ∷ us) ≡ false
no_field us = refl

pub field_plain : (text : List ℕ) → is_field text ≡ true → is_like_method text ≡ false
field_plain [] e = refl
field_plain (u ∷ us) e = by (u == 40) refl
  where
    by : (b : Bool) → (u == 40) ≡ b → (u == 40) || false ≡ false
    by true t =
        let same : u ≡ 40 = eqb-true u 40 t in
        let no : true ≡ false = sym e ∙ ap (λ n. is_field (n ∷ us)) same ∙ no_field us in
        absurd cc
    by false t = ap (λ b. b || false) t
