use Rattle.std.proofs.Common.{◌+◌, ◌-◌, ◌∙◌, Some, ap, sym, refl, arith, rules, to_z, of_z}
use Rattle.std.specs.Int.{w64}
use Rattle.std.proofs.lemmas.Int.{to_z-of_z}
use Rattle.opcodes.specs.declared.op.ValueKind.TheVariants as kinds
use Rattle.jvm_words.specs.Words.{long_result}
use Rattle.frame_instructions.proofs.MadeRows.{long_of_two, long_takes_two, long_is_given, reads_long}
use Rattle.frame_instructions.proofs.longs.long_binary.Goals as goal

pub overflow_sub-at : goal.overflow_sub-at
overflow_sub-at c =
    let op = c.args.op in
    let few = long_takes_two kinds.Long kinds.Long (λ b a. long_result op a b) c.args.slots.now c.args.locals c.args.used c.requires.acts in
    omega (arith, few)

pub unreachable-requires : goal.unreachable-requires
unreachable-requires c =
    let op = c.args.op in
    let slots = c.args.slots.now in
    let at = c.args.locals + c.args.used - 4 in
    let few = long_takes_two kinds.Long kinds.Long (λ b a. long_result op a b) slots c.args.locals c.args.used c.requires.acts in
    let a = reads_long slots at c.long_at-a.result (to_z-of_z w64 c.long_at-a.result (search rules)) c.long_at-a.ensures in
    let b = reads_long slots (at + 2) c.long_at-b.result (to_z-of_z w64 c.long_at-b.result (search rules)) c.long_at-b.ensures in
    long_is_given kinds.Long kinds.Long (λ b a. long_result op a b) slots c.args.locals c.args.used at (at + 2) (to_z w64 (of_z w64 c.long_at-b.result)) (to_z w64 (of_z w64 c.long_at-a.result))
    c.requires.acts b a refl (omega (arith, few)) (omega (arith, few)) (sym c.l_binary.ensures ∙ c.in-None.is)

pub returns : goal.returns
returns c =
    let op = c.args.op in
    let slots = c.args.slots.now in
    let at = c.args.locals + c.args.used - 4 in
    let few = long_takes_two kinds.Long kinds.Long (λ b a. long_result op a b) slots c.args.locals c.args.used c.requires.acts in
    let a = reads_long slots at c.long_at-a.result (to_z-of_z w64 c.long_at-a.result (search rules)) c.long_at-a.ensures in
    let b = reads_long slots (at + 2) c.long_at-b.result (to_z-of_z w64 c.long_at-b.result (search rules)) c.long_at-b.ensures in
    let n = to_z-of_z w64 c.in-Some.n (search rules) in
    long_of_two kinds.Long kinds.Long (λ b a. long_result op a b) slots c.put_long.new.slots c.args.locals c.args.used at (at + 2) (c.args.used - 2) (to_z w64 (of_z w64 c.long_at-b.result)) (to_z w64 (of_z w64 c.long_at-a.result)) (to_z w64 (of_z w64 c.in-Some.n))
    c.requires.acts b a refl (omega (arith, few)) (omega (arith, few)) (omega arith) (omega (arith, few)) (sym c.l_binary.ensures ∙ c.in-Some.is ∙ ap Some (sym n)) c.put_long.ensures (omega (arith, few))

pub long_at-b-requires : goal.long_at-b-requires
long_at-b-requires c =
    let op = c.args.op in
    let few = long_takes_two kinds.Long kinds.Long (λ b a. long_result op a b) c.args.slots.now c.args.locals c.args.used c.requires.acts in
    omega (arith, few)
