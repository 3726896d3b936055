use Rattle.std.proofs.Common.{ℤ, ◌+◌, ◌-◌, ◌∙◌, Some, ap, sym, arith, rules, to_z, of_z}
use Rattle.std.specs.Int.{w32}
use Rattle.std.proofs.lemmas.Int.{to_z-of_z}
use Rattle.opcodes.specs.declared.op.ValueKind.TheVariants as kinds
use Rattle.jvm_words.specs.Words.{int_result}
use Rattle.frame_instructions.proofs.MadeRows.{int_of_one, int_takes_one, int_of_one_given, reads_int}
use Rattle.frame_instructions.proofs.ints.int_with.Goals as goal

pub overflow_sub-at : goal.overflow_sub-at
overflow_sub-at c =
    let few = int_takes_one kinds.Int (λ a. int_result c.args.op a c.args.n) c.args.slots.now c.args.locals c.args.used c.requires.acts in
    omega (arith, few)

pub unreachable-requires : goal.unreachable-requires
unreachable-requires c =
    let slots = c.args.slots.now in
    let at = c.args.locals + c.args.used - 1 in
    let few = int_takes_one kinds.Int (λ a. int_result c.args.op a c.args.n) slots c.args.locals c.args.used c.requires.acts in
    let a = reads_int slots at c.int_at-a.result (to_z-of_z w32 c.int_at-a.result (search rules)) c.int_at-a.ensures in
    int_of_one_given kinds.Int (λ a. int_result c.args.op a c.args.n) slots c.args.locals c.args.used at (to_z w32 (of_z w32 c.int_at-a.result))
    c.requires.acts a (omega (arith, few)) (omega (arith, few)) (ap (λ (n : ℤ). int_result c.args.op (to_z w32 (of_z w32 c.int_at-a.result)) n) (sym (to_z-of_z w32 c.args.n (search rules))) ∙ sym c.i_binary.ensures ∙ c.in-None.is)

pub returns : goal.returns
returns c =
    let slots = c.args.slots.now in
    let at = c.args.locals + c.args.used - 1 in
    let few = int_takes_one kinds.Int (λ a. int_result c.args.op a c.args.n) slots c.args.locals c.args.used c.requires.acts in
    let a = reads_int slots at c.int_at-a.result (to_z-of_z w32 c.int_at-a.result (search rules)) c.int_at-a.ensures in
    let n = to_z-of_z w32 c.in-Some.made (search rules) in
    int_of_one kinds.Int (λ a. int_result c.args.op a c.args.n) slots c.put_int.new.slots c.args.locals c.args.used at c.args.used (to_z w32 (of_z w32 c.int_at-a.result)) (to_z w32 (of_z w32 c.in-Some.made))
    c.requires.acts a (omega (arith, few)) (omega (arith, few)) (ap (λ (n : ℤ). int_result c.args.op (to_z w32 (of_z w32 c.int_at-a.result)) n) (sym (to_z-of_z w32 c.args.n (search rules))) ∙ sym c.i_binary.ensures ∙ c.in-Some.is ∙ ap Some (sym n)) c.put_int.ensures (omega (arith, few))
