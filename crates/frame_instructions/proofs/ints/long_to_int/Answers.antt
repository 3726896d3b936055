use Rattle.std.proofs.Common.{◌+◌, ◌-◌, ◌∙◌, Some, ap, sym, arith, rules, to_z, of_z}
use Rattle.std.specs.Int.{w32, w64, int_wrap}
use Rattle.std.proofs.lemmas.Int.{to_z-of_z}
use Rattle.opcodes.specs.declared.op.ValueKind.TheVariants as kinds
use Rattle.frame_instructions.proofs.MadeRows.{int_of_one, int_takes_one, reads_long}
use Rattle.frame_instructions.proofs.ints.long_to_int.Goals as goal

pub overflow_sub-at : goal.overflow_sub-at
overflow_sub-at c =
    let slots = c.args.slots.now in
    let can = c.requires.acts in
    let few = int_takes_one kinds.Long (λ a. Some (int_wrap w32 a)) slots c.args.locals c.args.used can in
    omega (arith, few)

pub returns : goal.returns
returns c =
    let slots = c.args.slots.now in
    let can = c.requires.acts in
    let few = int_takes_one kinds.Long (λ a. Some (int_wrap w32 a)) slots c.args.locals c.args.used can in
    let at = c.args.locals + c.args.used - 2 in
    let a = reads_long slots at c.long_at-a.result (to_z-of_z w64 c.long_at-a.result (search rules)) c.long_at-a.ensures in
    int_of_one kinds.Long (λ a. Some (int_wrap w32 a)) slots c.put_int.new.slots c.args.locals c.args.used at (c.args.used - 1) (to_z w64 (of_z w64 c.long_at-a.result)) (to_z w32 (of_z w32 c.low_half.result))
    can a (omega (arith, few)) (omega (arith, few)) (ap Some (sym (to_z-of_z w32 c.low_half.result (search rules) ∙ c.low_half.ensures))) c.put_int.ensures (omega (arith, few))
