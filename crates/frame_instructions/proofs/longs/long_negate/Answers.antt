use Rattle.std.proofs.Common.{◌+◌, ◌-◌, ◌∙◌, Some, ap, sym, arith, rules, to_z, of_z, pos}
use Rattle.std.specs.Int.{w64}
use Rattle.std.proofs.lemmas.Int.{to_z-of_z}
use Rattle.opcodes.specs.declared.op.ValueKind.TheVariants as kinds
use Rattle.jvm_words.specs.declared.operation.LongOp.TheVariants as long_ops
use Rattle.jvm_words.specs.Words.{long_result}
use Rattle.frame_instructions.proofs.MadeRows.{long_of_one, long_takes_one, reads_long}
use Rattle.frame_instructions.proofs.longs.long_negate.Goals as goal

pub overflow_sub-at : goal.overflow_sub-at
overflow_sub-at c =
    let slots = c.args.slots.now in
    let can = c.requires.acts in
    let few = long_takes_one kinds.Long (λ a. long_result long_ops.Sub (pos 0) a) slots c.args.locals c.args.used can in
    omega (arith, few)

pub returns : goal.returns
returns c =
    let slots = c.args.slots.now in
    let can = c.requires.acts in
    let few = long_takes_one kinds.Long (λ a. long_result long_ops.Sub (pos 0) a) slots c.args.locals c.args.used can in
    let at = c.args.locals + c.args.used - 2 in
    let a = reads_long slots at c.long_at-a.result (to_z-of_z w64 c.long_at-a.result (search rules)) c.long_at-a.ensures in
    long_of_one kinds.Long (λ a. long_result long_ops.Sub (pos 0) a) slots c.put_long.new.slots c.args.locals c.args.used at (c.args.used) (to_z w64 (of_z w64 c.long_at-a.result)) (to_z w64 (of_z w64 c.negated_long.result))
    can a (omega (arith, few)) (omega (arith, few)) (ap Some (sym (to_z-of_z w64 c.negated_long.result (search rules) ∙ c.negated_long.ensures))) c.put_long.ensures (omega (arith, few))
