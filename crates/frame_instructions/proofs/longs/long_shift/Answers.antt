use Rattle.std.proofs.Common.{◌+◌, ◌-◌, ◌∙◌, Some, ap, sym, refl, arith, rules, to_z, of_z}
use Rattle.std.specs.Int.{w32, w64}
use Rattle.std.proofs.lemmas.Int.{to_z-of_z}
use Rattle.opcodes.specs.declared.op.ValueKind.TheVariants as kinds
use Rattle.jvm_words.specs.Words.{long_shift_result}
use Rattle.frame_instructions.proofs.MadeRows.{long_of_two, long_takes_two, reads_int, reads_long}
use Rattle.frame_instructions.proofs.longs.long_shift.Goals as goal

pub overflow_sub-at : goal.overflow_sub-at
overflow_sub-at c =
    let slots = c.args.slots.now in
    let op = c.args.op in
    let can = c.requires.acts in
    let few = long_takes_two kinds.Int kinds.Long (λ count a. Some (long_shift_result op a count)) slots c.args.locals c.args.used can in
    omega (arith, few)

pub returns : goal.returns
returns c =
    let slots = c.args.slots.now in
    let op = c.args.op in
    let can = c.requires.acts in
    let few = long_takes_two kinds.Int kinds.Long (λ count a. Some (long_shift_result op a count)) slots c.args.locals c.args.used can in
    let at = c.args.locals + c.args.used - 3 in
    let a = reads_long slots at c.long_at-a.result (to_z-of_z w64 c.long_at-a.result (search rules)) c.long_at-a.ensures in
    let b = reads_int slots (at + 2) c.int_at-b.result (to_z-of_z w32 c.int_at-b.result (search rules)) c.int_at-b.ensures in
    long_of_two kinds.Int kinds.Long (λ count a. Some (long_shift_result op a count)) slots c.put_long.new.slots c.args.locals c.args.used at (at + 2) (c.args.used - 1) (to_z w32 (of_z w32 c.int_at-b.result)) (to_z w64 (of_z w64 c.long_at-a.result)) (to_z w64 (of_z w64 c.l_shift.result))
    can b a refl (omega (arith, few)) (omega (arith, few)) (omega arith) (omega (arith, few)) (ap Some (sym (to_z-of_z w64 c.l_shift.result (search rules) ∙ c.l_shift.ensures))) c.put_long.ensures (omega (arith, few))

pub int_at-b-requires : goal.int_at-b-requires
int_at-b-requires c =
    let slots = c.args.slots.now in
    let op = c.args.op in
    let can = c.requires.acts in
    let few = long_takes_two kinds.Int kinds.Long (λ count a. Some (long_shift_result op a count)) slots c.args.locals c.args.used can in
    omega (arith, few)

pub put_long-requires : goal.put_long-requires
put_long-requires c =
    let slots = c.args.slots.now in
    let op = c.args.op in
    let can = c.requires.acts in
    let few = long_takes_two kinds.Int kinds.Long (λ count a. Some (long_shift_result op a count)) slots c.args.locals c.args.used can in
    omega (arith, few)
