use Rattle.std.proofs.Common.{◌+◌, ◌-◌, ◌∙◌, Some, ap, sym, refl, arith, rules, to_z, of_z}
use Rattle.std.specs.Int.{w32}
use Rattle.std.proofs.lemmas.Int.{to_z-of_z}
use Rattle.opcodes.specs.declared.op.ValueKind.TheVariants as kinds
use Rattle.jvm_words.specs.Words.{int_result}
use Rattle.frame_instructions.proofs.MadeRows.{int_of_two, int_takes_two, int_is_given, reads_int}
use Rattle.frame_instructions.proofs.ints.int_binary.Goals as goal

pub overflow_sub-at : goal.overflow_sub-at
overflow_sub-at c =
    let op = c.args.op in
    let few = int_takes_two kinds.Int kinds.Int (λ b a. int_result op a b) c.args.slots.now c.args.locals c.args.used c.requires.acts in
    omega (arith, few)

pub unreachable-requires : goal.unreachable-requires
unreachable-requires c =
    let op = c.args.op in
    let slots = c.args.slots.now in
    let at = c.args.locals + c.args.used - 2 in
    let few = int_takes_two kinds.Int kinds.Int (λ b a. int_result op a b) slots c.args.locals c.args.used c.requires.acts in
    let a = reads_int slots at c.int_at-a.result (to_z-of_z w32 c.int_at-a.result (search rules)) c.int_at-a.ensures in
    let b = reads_int slots (at + 1) c.int_at-b.result (to_z-of_z w32 c.int_at-b.result (search rules)) c.int_at-b.ensures in
    int_is_given kinds.Int kinds.Int (λ b a. int_result op a b) slots c.args.locals c.args.used at (at + 1) (to_z w32 (of_z w32 c.int_at-b.result)) (to_z w32 (of_z w32 c.int_at-a.result))
    c.requires.acts b a refl (omega (arith, few)) (omega (arith, few)) (sym c.i_binary.ensures ∙ c.in-None.is)

pub returns : goal.returns
returns c =
    let op = c.args.op in
    let slots = c.args.slots.now in
    let at = c.args.locals + c.args.used - 2 in
    let few = int_takes_two kinds.Int kinds.Int (λ b a. int_result op a b) slots c.args.locals c.args.used c.requires.acts in
    let a = reads_int slots at c.int_at-a.result (to_z-of_z w32 c.int_at-a.result (search rules)) c.int_at-a.ensures in
    let b = reads_int slots (at + 1) c.int_at-b.result (to_z-of_z w32 c.int_at-b.result (search rules)) c.int_at-b.ensures in
    let n = to_z-of_z w32 c.in-Some.n (search rules) in
    int_of_two kinds.Int kinds.Int (λ b a. int_result op a b) slots c.put_int.new.slots c.args.locals c.args.used at (at + 1) (c.args.used - 1) (to_z w32 (of_z w32 c.int_at-b.result)) (to_z w32 (of_z w32 c.int_at-a.result)) (to_z w32 (of_z w32 c.in-Some.n))
    c.requires.acts b a refl (omega (arith, few)) (omega (arith, few)) (sym c.i_binary.ensures ∙ c.in-Some.is ∙ ap Some (sym n)) c.put_int.ensures (omega (arith, few))
