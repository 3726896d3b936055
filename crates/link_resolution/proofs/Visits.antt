-- One class met is one step of the definition.
use Rattle.std.proofs.Common.{◌≡◌, ℕ, zero, suc, Bool, true, false, cond, List, [], ◌∷◌, ◌++◌, refl, ap, ◌∙◌}
use Rattle.link_rules.specs.Hierarchy.{visit, is_among}

pub visit_step : (above : ℕ → List ℕ) (n c : ℕ) (todo seen todo' seen' : List ℕ)
    → todo' ≡ cond (is_among seen c) todo (above c ++ todo) → seen' ≡ cond (is_among seen c) seen (seen ++ c ∷ [])
    → visit above n todo' seen' ≡ visit above (suc n) (c ∷ todo) seen
visit_step above n c todo seen todo' seen' t s =
    ap (λ xs. visit above n xs seen') t ∙ ap (λ ys. visit above n (cond (is_among seen c) todo (above c ++ todo)) ys) s ∙ either (is_among seen c)
  where
    either : (b : Bool) → visit above n (cond b todo (above c ++ todo)) (cond b seen (seen ++ c ∷ [])) ≡ cond b (visit above n todo seen) (visit above n (above c ++ todo) (seen ++ c ∷ []))
    either true = refl
    either false = refl

-- nothing is left to do
pub visit_none : (above : ℕ → List ℕ) (n : ℕ) (seen : List ℕ) → visit above n [] seen ≡ seen
visit_none above zero seen = refl
visit_none above (suc n) seen = refl
