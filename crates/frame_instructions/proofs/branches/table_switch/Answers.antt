use Rattle.std.proofs.Common.{◌+◌, ◌-◌, ◌∙◌, arith, rules, to_z, of_z}
use Rattle.std.specs.Int.{w32, w64}
use Rattle.std.proofs.lemmas.Int.{to_z-of_z}
use Rattle.instruction_rows.specs.Switches.{table_target, table_targets}
use Rattle.frame_instructions.proofs.MadeRows.{reads_int, selects, selected}
use Rattle.frame_instructions.proofs.branches.table_switch.Goals as goal

pub overflow_sub-locals : goal.overflow_sub-locals
overflow_sub-locals c = let few = selects (table_target c.args.s.now) (table_targets c.args.s.now) c.args.slots.now c.args.locals c.args.used c.requires.acts in omega (arith, few)

pub int_at-a-requires : goal.int_at-a-requires
int_at-a-requires c = let few = selects (table_target c.args.s.now) (table_targets c.args.s.now) c.args.slots.now c.args.locals c.args.used c.requires.acts in omega (arith, few)

pub returns : goal.returns
returns c =
    let slots = c.args.slots.now in
    let few = selects (table_target c.args.s.now) (table_targets c.args.s.now) slots c.args.locals c.args.used c.requires.acts in
    let at = c.args.locals + c.args.used - 1 in
    let a = reads_int slots at c.int_at-a.result (to_z-of_z w32 c.int_at-a.result (search rules)) c.int_at-a.ensures in
    selected (table_target c.args.s.now) (table_targets c.args.s.now) slots c.args.locals c.args.used at (c.args.used - 1) (to_z w32 (of_z w32 c.int_at-a.result)) (to_z w64 (of_z w64 c.table_choice.result))
    c.requires.acts a (omega (arith, few)) (omega (arith, few)) (to_z-of_z w64 c.table_choice.result (search rules) ∙ c.table_choice.ensures) (omega (arith, few))
