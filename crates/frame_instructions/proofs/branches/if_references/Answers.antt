use Rattle.std.proofs.Common.{◌+◌, ◌-◌, sym, refl, arith}
use Rattle.opcodes.specs.declared.op.ValueKind.TheVariants as kinds
use Rattle.instruction_rows.specs.Comparisons.{are_so}
use Rattle.frame_instructions.proofs.MadeRows.{reads_object, tests_two, branch_of_two}
use Rattle.frame_instructions.proofs.branches.if_references.Goals as goal

pub overflow_sub-at : goal.overflow_sub-at
overflow_sub-at c =
    let s = c.args.s in
    let slots = c.args.slots.now in
    let few = tests_two kinds.Reference kinds.Reference (λ b a. are_so s a b) slots c.args.locals c.args.used c.requires.tests in
    omega (arith, few)

pub returns : goal.returns
returns c =
    let s = c.args.s in
    let slots = c.args.slots.now in
    let few = tests_two kinds.Reference kinds.Reference (λ b a. are_so s a b) slots c.args.locals c.args.used c.requires.tests in
    let at = c.args.locals + c.args.used - 2 in
    let a = reads_object slots at c.object_at-a.result c.object_at-a.ensures in
    let b = reads_object slots (at + 1) c.object_at-b.result c.object_at-b.ensures in
    λ target. branch_of_two kinds.Reference kinds.Reference (λ b a. are_so s a b) slots c.args.locals c.args.used at (at + 1) (c.args.used - 2) target c.object_at-b.result c.object_at-a.result c.are_so.result
    c.requires.tests b a refl (omega (arith, few)) (omega (arith, few)) (sym c.are_so.ensures) (omega (arith, few))
