-- The order of the classes and their initializers, one class after the other.
use Rattle.std.proofs.Common.{◌≡◌, ℕ, zero, suc, ◌+◌, ◌<◌, List, [], ◌∷◌, ◌++◌, length, take, get_or, Option, Some, None, refl, sym, ap, ◌∙◌, arith}
use Rattle.std.specs.Prelude.{filter_map}
use Rattle.std.specs.List.{cons_option, fold, range_with_len}
use Rattle.std.specs.Option.{option_to_list}
use Rattle.std.proofs.lemmas.Grind.{common_steps}
use Rattle.std.proofs.lemmas.List.Elements.{filter_map-append}
use Rattle.std.proofs.lemmas.List.Sums.{fold-append}
use Rattle.link_rules.specs.Program.{Program}
use Rattle.ref_model.specs.Opening.{with_superclasses}

range_from : (a n : ℕ) → range_with_len a (suc n) ≡ range_with_len a n ++ (a + n) ∷ []
range_from a zero = let e : a ≡ a + 0 = omega arith in ap (λ k. k ∷ []) e
range_from a (suc n) =
    let e : a + 1 + n ≡ a + suc n = omega arith in
    ap (λ xs. a ∷ xs) (range_from (a + 1) n ∙ ap (λ k. range_with_len (a + 1) n ++ k ∷ []) e)

range_more : (n : ℕ) → range_with_len 0 (n + 1) ≡ range_with_len 0 n ++ n ∷ []
range_more n =
    let next : n + 1 ≡ suc n = omega arith in
    let same : 0 + n ≡ n = omega arith in
    ap (range_with_len 0) next ∙ range_from 0 n ∙ ap (λ k. range_with_len 0 n ++ k ∷ []) same

-- one class more
pub order_more : (p : Program) (n : ℕ) (old new : List ℕ) → old ≡ fold (with_superclasses p) [] (range_with_len 0 n)
    → new ≡ with_superclasses p old n → new ≡ fold (with_superclasses p) [] (range_with_len 0 (n + 1))
order_more p n old new before step =
    step ∙ ap (λ (order : List ℕ). with_superclasses p order n) before
    ∙ sym (ap (fold (with_superclasses p) []) (range_more n) ∙ fold-append (with_superclasses p) [] (range_with_len 0 n) (n ∷ []))

one_option : (o : Option ℕ) → option_to_list o ≡ cons_option o []
one_option None = refl
one_option (Some n) = refl

-- one initializer more, if the class has one
pub found_more : (f : ℕ → Option ℕ) (xs : List ℕ) (i : ℕ) (old new : List ℕ) → i < length xs → old ≡ filter_map f (take i xs)
    → new ≡ old ++ option_to_list (f (get_or xs i 0)) → new ≡ filter_map f (take (i + 1) xs)
found_more f xs i old new inside before step =
    let x = get_or xs i 0 in
    let t : take (i + 1) xs ≡ take i xs ++ x ∷ [] = grind (arith, common_steps) in
    step ∙ ap (λ ys. ys ++ option_to_list (f x)) before ∙ ap (λ ys. filter_map f (take i xs) ++ ys) (one_option (f x))
    ∙ sym (filter_map-append f (take i xs) (x ∷ [])) ∙ ap (filter_map f) (sym t)
