use Rattle.std.proofs.Common.{◌+◌, ◌-◌, refl, arith, rules, to_z, of_z}
use Rattle.std.specs.Int.{w32}
use Rattle.std.proofs.lemmas.Int.{to_z-of_z}
use Rattle.opcodes.specs.declared.op.ValueKind.TheVariants as kinds
use Rattle.instruction_rows.specs.declared.value.Value.TheVariants as values
use Rattle.instruction_rows.specs.declared.value.Slot.TheVariants.{One}
use Rattle.frame_instructions.proofs.MadeRows.{reads_int}
use Rattle.frame_instructions.proofs.VariableRows.{store_one, store_inside, store_takes, int_on_top}
use Rattle.frame_instructions.proofs.variables.store_int.Goals as goal

pub int_at-a-requires : goal.int_at-a-requires
int_at-a-requires c = let few = store_takes kinds.Int c.args.n c.args.slots.now c.args.locals c.args.used c.requires.acts in omega (arith, few)

pub overflow_sub-locals : goal.overflow_sub-locals
overflow_sub-locals c = let few = store_takes kinds.Int c.args.n c.args.slots.now c.args.locals c.args.used c.requires.acts in omega (arith, few)

pub put_int-requires : goal.put_int-requires
put_int-requires c = let inside = store_inside kinds.Int c.args.n c.args.slots.now c.args.locals c.args.used c.requires.acts in omega (arith, inside)

pub overflow_sub-result : goal.overflow_sub-result
overflow_sub-result c = let few = store_takes kinds.Int c.args.n c.args.slots.now c.args.locals c.args.used c.requires.acts in omega (arith, few)

pub returns : goal.returns
returns c =
    let few = store_takes kinds.Int c.args.n c.args.slots.now c.args.locals c.args.used c.requires.acts in
    let at = c.args.locals + c.args.used - 1 in
    let x = to_z w32 (of_z w32 c.int_at-a.result) in
    let read = reads_int c.args.slots.now at c.int_at-a.result (to_z-of_z w32 c.int_at-a.result (search rules)) c.int_at-a.ensures in
    store_one kinds.Int c.args.n c.args.slots.now c.put_int.new.slots c.args.locals c.args.used at (c.args.used - 1) (One (values.Int x))
    c.requires.acts refl (int_on_top c.args.n c.args.slots.now c.args.locals c.args.used at x c.requires.acts read (omega (arith, few)) (omega arith)) c.put_int.ensures (omega (arith, few)) (omega arith) (omega (arith, few))
