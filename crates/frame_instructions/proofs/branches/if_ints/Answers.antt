use Rattle.std.proofs.Common.{◌+◌, ◌-◌, sym, refl, arith, rules, to_z, of_z}
use Rattle.std.specs.Int.{w32}
use Rattle.std.proofs.lemmas.Int.{to_z-of_z}
use Rattle.opcodes.specs.declared.op.ValueKind.TheVariants as kinds
use Rattle.instruction_rows.specs.Comparisons.{compares}
use Rattle.frame_instructions.proofs.MadeRows.{reads_int, tests_two, branch_of_two}
use Rattle.frame_instructions.proofs.branches.if_ints.Goals as goal

pub overflow_sub-at : goal.overflow_sub-at
overflow_sub-at c =
    let order = c.args.order in
    let slots = c.args.slots.now in
    let few = tests_two kinds.Int kinds.Int (λ b a. compares order a b) slots c.args.locals c.args.used c.requires.tests in
    omega (arith, few)

pub returns : goal.returns
returns c =
    let order = c.args.order in
    let slots = c.args.slots.now in
    let few = tests_two kinds.Int kinds.Int (λ b a. compares order a b) slots c.args.locals c.args.used c.requires.tests in
    let at = c.args.locals + c.args.used - 2 in
    let a = reads_int slots at c.int_at-a.result (to_z-of_z w32 c.int_at-a.result (search rules)) c.int_at-a.ensures in
    let b = reads_int slots (at + 1) c.int_at-b.result (to_z-of_z w32 c.int_at-b.result (search rules)) c.int_at-b.ensures in
    λ target. branch_of_two kinds.Int kinds.Int (λ b a. compares order a b) slots c.args.locals c.args.used at (at + 1) (c.args.used - 2) target (to_z w32 (of_z w32 c.int_at-b.result)) (to_z w32 (of_z w32 c.int_at-a.result)) c.compares.result
    c.requires.tests b a refl (omega (arith, few)) (omega (arith, few)) (sym c.compares.ensures) (omega (arith, few))
