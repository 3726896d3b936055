use Rattle.std.proofs.Common.{ℤ, ◌+◌, ◌-◌, ◌∙◌, ap, sym, arith, rules, to_z, of_z}
use Rattle.std.specs.Int.{w32}
use Rattle.std.proofs.lemmas.Int.{to_z-of_z}
use Rattle.opcodes.specs.declared.op.ValueKind.TheVariants as kinds
use Rattle.instruction_rows.specs.Comparisons.{compares}
use Rattle.frame_instructions.proofs.MadeRows.{reads_int, tests_one, branch_of_one}
use Rattle.frame_instructions.proofs.branches.if_int.Goals as goal

pub overflow_sub-at : goal.overflow_sub-at
overflow_sub-at c =
    let order = c.args.order in
    let slots = c.args.slots.now in
    let few = tests_one kinds.Int (λ a. compares order a c.args.n) slots c.args.locals c.args.used c.requires.tests in
    omega (arith, few)

pub returns : goal.returns
returns c =
    let order = c.args.order in
    let slots = c.args.slots.now in
    let few = tests_one kinds.Int (λ a. compares order a c.args.n) slots c.args.locals c.args.used c.requires.tests in
    let at = c.args.locals + c.args.used - 1 in
    let a = reads_int slots at c.int_at-a.result (to_z-of_z w32 c.int_at-a.result (search rules)) c.int_at-a.ensures in
    λ target. branch_of_one kinds.Int (λ a. compares order a c.args.n) slots c.args.locals c.args.used at (c.args.used - 1) target (to_z w32 (of_z w32 c.int_at-a.result)) c.compares.result
    c.requires.tests a (omega (arith, few)) (omega (arith, few)) (ap (λ (n : ℤ). compares order (to_z w32 (of_z w32 c.int_at-a.result)) n) (sym (to_z-of_z w32 c.args.n (search rules))) ∙ sym c.compares.ensures) (omega (arith, few))
