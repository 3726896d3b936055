-- The marks of a set of classes.
use Rattle.std.proofs.Common.{◌≡◌, ℕ, ◌<◌, ◌≢◌, Bool, true, false, ◌||◌, List, [], ◌∷◌, ◌++◌, length, get_or, refl, sym, ap, ◌∙◌, ⊎_elim, arith}
use Rattle.std.specs.Prelude.{slice_set, ◌==◌}
use Rattle.std.proofs.lemmas.List.{get_or-set_same, get_or-set_other}
use Rattle.std.proofs.lemmas.List.Folds.{list_any-append}
use Rattle.std.proofs.lemmas.Bool.{cases_eq}
use Rattle.std.proofs.lemmas.Bool.Decides.{nat_tests}
use Rattle.link_rules.specs.Hierarchy.{is_among}

last : (b : Bool) (x c : ℕ) → (x == c) ≡ true → true ≡ (b || (x == c || false))
last true x c e = refl
last false x c e = grind (arith, nat_tests)

earlier : (b : Bool) (x c : ℕ) → (x == c) ≡ false → b ≡ (b || (x == c || false))
earlier true x c e = refl
earlier false x c e = grind (arith, nat_tests)

-- one class more is marked
pub one_more : (flags : List Bool) (list : List ℕ) (x : ℕ) → ((c : ℕ) → get_or flags c false ≡ is_among list c) → x < length flags
    → (c : ℕ) → get_or (slice_set flags x true) c false ≡ is_among (list ++ x ∷ []) c
one_more flags list x marked h c =
    ⊎_elim
    (λ (e : c ≡ x). ap (λ k. get_or (slice_set flags x true) k false) e ∙ get_or-set_same flags x true false h
    ∙ last (is_among list c) x c (grind (arith, nat_tests)) ∙ sym (list_any-append (λ d. d == c) list (x ∷ [])))
    (λ (ne : c ≢ x). get_or-set_other flags x c true false ne ∙ marked c
    ∙ earlier (is_among list c) x c (grind (arith, nat_tests)) ∙ sym (list_any-append (λ d. d == c) list (x ∷ [])))
    (cases_eq c x)
