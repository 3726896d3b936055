use Rattle.std.proofs.Common.{◌+◌, ◌-◌, ◌∙◌, Some, ap, sym, refl, arith, rules, to_z, of_z}
use Rattle.std.specs.Int.{w32, w64}
use Rattle.std.proofs.lemmas.Int.{to_z-of_z}
use Rattle.opcodes.specs.declared.op.ValueKind.TheVariants as kinds
use Rattle.jvm_words.specs.Words.{long_order}
use Rattle.frame_instructions.proofs.MadeRows.{int_of_two, int_takes_two, reads_long}
use Rattle.frame_instructions.proofs.ints.long_compare.Goals as goal

pub overflow_sub-at : goal.overflow_sub-at
overflow_sub-at c =
    let slots = c.args.slots.now in
    let can = c.requires.acts in
    let few = int_takes_two kinds.Long kinds.Long (λ b a. Some (long_order a b)) slots c.args.locals c.args.used can in
    omega (arith, few)

pub returns : goal.returns
returns c =
    let slots = c.args.slots.now in
    let can = c.requires.acts in
    let few = int_takes_two kinds.Long kinds.Long (λ b a. Some (long_order a b)) slots c.args.locals c.args.used can in
    let at = c.args.locals + c.args.used - 4 in
    let a = reads_long slots at c.long_at-a.result (to_z-of_z w64 c.long_at-a.result (search rules)) c.long_at-a.ensures in
    let b = reads_long slots (at + 2) c.long_at-b.result (to_z-of_z w64 c.long_at-b.result (search rules)) c.long_at-b.ensures in
    int_of_two kinds.Long kinds.Long (λ b a. Some (long_order a b)) slots c.put_int.new.slots c.args.locals c.args.used at (at + 2) (c.args.used - 3) (to_z w64 (of_z w64 c.long_at-b.result)) (to_z w64 (of_z w64 c.long_at-a.result)) (to_z w32 (of_z w32 c.l_compare.result))
    can b a refl (omega (arith, few)) (omega (arith, few)) (ap Some (sym (to_z-of_z w32 c.l_compare.result (search rules) ∙ c.l_compare.ensures))) c.put_int.ensures (omega (arith, few))

pub long_at-b-requires : goal.long_at-b-requires
long_at-b-requires c =
    let slots = c.args.slots.now in
    let can = c.requires.acts in
    let few = int_takes_two kinds.Long kinds.Long (λ b a. Some (long_order a b)) slots c.args.locals c.args.used can in
    omega (arith, few)

pub overflow_sub-result : goal.overflow_sub-result
overflow_sub-result c =
    let slots = c.args.slots.now in
    let can = c.requires.acts in
    let few = int_takes_two kinds.Long kinds.Long (λ b a. Some (long_order a b)) slots c.args.locals c.args.used can in
    omega (arith, few)
