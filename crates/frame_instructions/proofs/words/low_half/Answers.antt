use Rattle.std.proofs.Common.{ℕ, ℤ, ◌%◌, ap, ◌∙◌, rules, to_z, of_z}
use Rattle.std.specs.Int.{w32, w64}
use Rattle.std.proofs.lemmas.Int.{to_z-of_z}
use Rattle.frame_instructions.proofs.LowWords.{low_word}
use Rattle.frame_instructions.proofs.words.low_half.Goals as goal

pub returns : goal.returns
returns c =
    to_z-of_z w32 c.cast_signed.result (search rules) ∙ c.cast_signed.ensures
    ∙ ap (λ (n : ℕ). to_z w32 (n % 4294967296)) c.cast_unsigned.ensures
    ∙ ap (λ (z : ℤ). to_z w32 (of_z w64 z % 4294967296)) (to_z-of_z w64 c.args.a c.ranges.a)
    ∙ low_word c.args.a c.ranges.a
