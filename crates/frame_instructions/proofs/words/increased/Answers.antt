use Rattle.std.proofs.Common.{ℤ, ◌+ℤ◌, ◌∙◌, ap, rules}
use Rattle.std.specs.Int.{w16, w32, int_wrap}
use Rattle.std.proofs.lemmas.Int.{to_z-of_z, wrapping_add_is}
use Rattle.frame_instructions.proofs.words.increased.Goals as goal

pub returns : goal.returns
returns c =
    wrapping_add_is w32 c.args.a c.from.result c.ranges.a (search rules)
    ∙ ap (λ (z : ℤ). int_wrap w32 (c.args.a +ℤ z)) (c.from.ensures ∙ to_z-of_z w16 c.args.amount c.ranges.amount)
