use Rattle.std.proofs.Common.{ℤ, ◌+◌, ◌-◌, ◌∙◌, Some, ap, sym, arith, rules, to_z, of_z}
use Rattle.std.specs.Int.{w32, w64}
use Rattle.std.proofs.lemmas.Int.{to_z-of_z}
use Rattle.opcodes.specs.declared.op.ValueKind.TheVariants as kinds
use Rattle.jvm_words.specs.Words.{long_shift_result}
use Rattle.frame_instructions.proofs.MadeRows.{long_of_one, long_takes_one, reads_long}
use Rattle.frame_instructions.proofs.longs.long_shift_by.Goals as goal

pub overflow_sub-at : goal.overflow_sub-at
overflow_sub-at c =
    let few = long_takes_one kinds.Long (λ a. Some (long_shift_result c.args.op a c.args.n)) c.args.slots.now c.args.locals c.args.used c.requires.acts in
    omega (arith, few)

pub returns : goal.returns
returns c =
    let slots = c.args.slots.now in
    let at = c.args.locals + c.args.used - 2 in
    let few = long_takes_one kinds.Long (λ a. Some (long_shift_result c.args.op a c.args.n)) slots c.args.locals c.args.used c.requires.acts in
    let a = reads_long slots at c.long_at-a.result (to_z-of_z w64 c.long_at-a.result (search rules)) c.long_at-a.ensures in
    long_of_one kinds.Long (λ a. Some (long_shift_result c.args.op a c.args.n)) slots c.put_long.new.slots c.args.locals c.args.used at c.args.used (to_z w64 (of_z w64 c.long_at-a.result)) (to_z w64 (of_z w64 c.l_shift.result))
    c.requires.acts a (omega (arith, few)) (omega (arith, few)) (ap Some (ap (λ (n : ℤ). long_shift_result c.args.op (to_z w64 (of_z w64 c.long_at-a.result)) n) (sym (to_z-of_z w32 c.args.n (search rules))) ∙ sym (to_z-of_z w64 c.l_shift.result (search rules) ∙ c.l_shift.ensures))) c.put_long.ensures (omega (arith, few))

pub put_long-requires : goal.put_long-requires
put_long-requires c =
    let few = long_takes_one kinds.Long (λ a. Some (long_shift_result c.args.op a c.args.n)) c.args.slots.now c.args.locals c.args.used c.requires.acts in
    omega (arith, few)
