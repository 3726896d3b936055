use Rattle.std.proofs.Common.{◌+◌, ◌-◌, None, sym, arith}
use Rattle.opcodes.specs.declared.op.ValueKind.TheVariants as kinds
use Rattle.instruction_rows.specs.Comparisons.{are_so}
use Rattle.frame_instructions.proofs.MadeRows.{reads_object, tests_one, branch_of_one}
use Rattle.frame_instructions.proofs.branches.if_null.Goals as goal

pub overflow_sub-at : goal.overflow_sub-at
overflow_sub-at c =
    let s = c.args.s in
    let slots = c.args.slots.now in
    let few = tests_one kinds.Reference (λ a. are_so s a None) slots c.args.locals c.args.used c.requires.tests in
    omega (arith, few)

pub returns : goal.returns
returns c =
    let s = c.args.s in
    let slots = c.args.slots.now in
    let few = tests_one kinds.Reference (λ a. are_so s a None) slots c.args.locals c.args.used c.requires.tests in
    let at = c.args.locals + c.args.used - 1 in
    let a = reads_object slots at c.object_at-a.result c.object_at-a.ensures in
    λ target. branch_of_one kinds.Reference (λ a. are_so s a None) slots c.args.locals c.args.used at (c.args.used - 1) target c.object_at-a.result c.are_so.result
    c.requires.tests a (omega (arith, few)) (omega (arith, few)) (sym c.are_so.ensures) (omega (arith, few))
