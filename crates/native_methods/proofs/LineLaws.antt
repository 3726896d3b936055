-- The bytes of a text with the end of a line.
use Rattle.std.proofs.Common.{ℕ, ◌≡◌, Bool, true, false, List, [], ◌∷◌, ◌++◌, Option, Some, None, refl, ap, ◌∙◌, append_assoc, sym}
use Rattle.std.specs.Prelude.{if◌then◌else◌}
use Rattle.std.specs.Char.{encode_utf8}
use Rattle.ref_model.specs.Texts.{bytes_behind, is_high, is_low, joined, question_mark, unit_bytes, text_bytes}

-- what was written before the bytes of two texts that differ by a line's end
behind : (front : List ℕ) (more less : List ℕ) → more ≡ less ++ 10 ∷ [] → front ++ more ≡ (front ++ less) ++ 10 ∷ []
behind front more less e = ap (λ bytes. front ++ bytes) e ∙ sym (append_assoc front less (10 ∷ []))

choice : (b : Bool) (x y u v : List ℕ) → x ≡ u ++ 10 ∷ [] → y ≡ v ++ 10 ∷ [] → (if b then x else y) ≡ (if b then u else v) ++ 10 ∷ []
choice true x y u v e f = e
choice false x y u v e f = f

pub line_behind : (before : Option ℕ) (units : List ℕ) → bytes_behind before (units ++ 10 ∷ []) ≡ bytes_behind before units ++ 10 ∷ []
unfolding encode_utf8
line_behind None [] = refl
line_behind (Some high) [] = refl
line_behind None (u ∷ us) = choice (is_high u) _ _ _ _ (line_behind (Some u) us) (behind (unit_bytes u) _ _ (line_behind None us))
line_behind (Some high) (u ∷ us) =
    choice (is_low u) _ _ _ _ (behind (encode_utf8 (joined high u)) _ _ (line_behind None us))
    (choice (is_high u) _ _ _ _ (behind question_mark _ _ (line_behind (Some u) us))
    (ap (λ bytes. (question_mark ++ unit_bytes u) ++ bytes) (line_behind None us) ∙ sym (append_assoc (question_mark ++ unit_bytes u) (bytes_behind None us) (10 ∷ []))))

pub line_bytes : (units : List ℕ) → text_bytes (units ++ 10 ∷ []) ≡ text_bytes units ++ 10 ∷ []
line_bytes units = line_behind None units

-- a line's end after a text that was written
pub line_written : (old new end : List ℕ) (units : List ℕ) → new ≡ old ++ text_bytes units → end ≡ new ++ 10 ∷ [] →
    end ≡ old ++ text_bytes (units ++ 10 ∷ [])
line_written old new end units e f =
    f ∙ ap (λ bytes. bytes ++ 10 ∷ []) e ∙ append_assoc old (text_bytes units) (10 ∷ []) ∙ ap (λ bytes. old ++ bytes) (sym (line_bytes units))
