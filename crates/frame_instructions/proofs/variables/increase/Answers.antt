use Rattle.std.proofs.Common.{ℤ, ◌+ℤ◌, ◌∙◌, ap, arith, rules, to_z, of_z}
use Rattle.std.specs.Int.{w16, w32, int_wrap}
use Rattle.std.proofs.lemmas.Int.{to_z-of_z}
use Rattle.frame_instructions.proofs.MadeRows.{reads_int}
use Rattle.frame_instructions.proofs.VariableRows.{incremented, increment_one}
use Rattle.frame_instructions.proofs.variables.increase.Goals as goal

pub int_at-a-requires : goal.int_at-a-requires
int_at-a-requires c = let h = incremented c.args.n c.args.amount c.args.slots.now c.args.locals c.args.used c.requires.acts in omega (arith, h.inside)

pub returns : goal.returns
returns c =
    let a = reads_int c.args.slots.now c.args.n c.int_at-a.result (to_z-of_z w32 c.int_at-a.result (search rules)) c.int_at-a.ensures in
    increment_one c.args.n c.args.amount c.args.slots.now c.put_int.new.slots c.args.locals c.args.used (to_z w32 (of_z w32 c.int_at-a.result)) (to_z w32 (of_z w32 c.increased.result))
    c.requires.acts a (to_z-of_z w32 c.increased.result (search rules) ∙ c.increased.ensures ∙ ap (λ (z : ℤ). int_wrap w32 (to_z w32 (of_z w32 c.int_at-a.result) +ℤ z)) (to_z-of_z w16 c.args.amount c.ranges.amount)) c.put_int.ensures (omega arith)

pub put_int-requires : goal.put_int-requires
put_int-requires c = let h = incremented c.args.n c.args.amount c.args.slots.now c.args.locals c.args.used c.requires.acts in omega (arith, h.inside)
