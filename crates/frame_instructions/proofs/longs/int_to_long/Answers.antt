use Rattle.std.proofs.Common.{◌+◌, ◌-◌, ◌∙◌, Some, ap, sym, arith, rules, to_z, of_z}
use Rattle.std.specs.Int.{w32, w64}
use Rattle.std.proofs.lemmas.Int.{to_z-of_z}
use Rattle.opcodes.specs.declared.op.ValueKind.TheVariants as kinds
use Rattle.frame_instructions.proofs.MadeRows.{long_of_one, long_takes_one, reads_int}
use Rattle.frame_instructions.proofs.longs.int_to_long.Goals as goal

pub overflow_sub-at : goal.overflow_sub-at
overflow_sub-at c =
    let slots = c.args.slots.now in
    let can = c.requires.acts in
    let few = long_takes_one kinds.Int (λ a. Some a) slots c.args.locals c.args.used can in
    omega (arith, few)

pub returns : goal.returns
returns c =
    let slots = c.args.slots.now in
    let can = c.requires.acts in
    let few = long_takes_one kinds.Int (λ a. Some a) slots c.args.locals c.args.used can in
    let at = c.args.locals + c.args.used - 1 in
    let a = reads_int slots at c.int_at-a.result (to_z-of_z w32 c.int_at-a.result (search rules)) c.int_at-a.ensures in
    long_of_one kinds.Int (λ a. Some a) slots c.put_long.new.slots c.args.locals c.args.used at (c.args.used + 1) (to_z w32 (of_z w32 c.int_at-a.result)) (to_z w64 (of_z w64 c.from.result))
    can a (omega (arith, few)) (omega (arith, few)) (ap Some (sym (to_z-of_z w64 c.from.result (search rules) ∙ c.from.ensures))) c.put_long.ensures (omega (arith, few))
