-- A hash with the four units at the front of a text.
use Rattle.std.proofs.Common.{◌≡◌, ℕ, ◌-◌, ◌≤◌, List, [], ◌∷◌, length, take, drop, sym, ap, ◌∙◌, arith}
use Rattle.std.proofs.Math.ListN.{get_or}
use Rattle.std.proofs.Math.Seq.{take-length}
use Rattle.link_resolution.specs.TextNumbers.{hash_from, hash_of, mixed, word_of}

pub four_more : (text left : List ℕ) (hash more word : ℕ) → 4 ≤ length left → hash_of text ≡ hash_from hash left → more ≡ mixed hash word → word ≡ word_of (get_or left 0 0) (get_or left 1 0) (get_or left 2 0) (get_or left 3 0)
    → hash_of text ≡ hash_from more (take (length left - 4) (drop 4 left))
four_more text [] hash more word h inv e w = absurd (omega arith)
four_more text (a ∷ []) hash more word h inv e w = absurd (omega arith)
four_more text (a ∷ b ∷ []) hash more word h inv e w = absurd (omega arith)
four_more text (a ∷ b ∷ c ∷ []) hash more word h inv e w = absurd (omega arith)
four_more text (a ∷ b ∷ c ∷ d ∷ rest) hash more word h inv e w =
    let four : length (a ∷ b ∷ c ∷ d ∷ rest) - 4 ≡ length rest = omega arith in
    inv ∙ ap (λ (x : ℕ). hash_from x rest) (sym (e ∙ ap (mixed hash) w)) ∙ ap (hash_from more) (sym (ap (λ (n : ℕ). take n rest) four ∙ take-length rest))
