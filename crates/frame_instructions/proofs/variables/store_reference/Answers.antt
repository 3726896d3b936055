use Rattle.std.proofs.Common.{◌+◌, ◌-◌, refl, arith}
use Rattle.opcodes.specs.declared.op.ValueKind.TheVariants as kinds
use Rattle.frame_instructions.proofs.VariableRows.{store_one, store_inside, store_takes}
use Rattle.frame_instructions.proofs.variables.store_reference.Goals as goal

pub stored_at-a-requires : goal.stored_at-a-requires
stored_at-a-requires c = let few = store_takes kinds.Reference c.args.n c.args.slots.now c.args.locals c.args.used c.requires.acts in omega (arith, few)

pub overflow_sub-locals : goal.overflow_sub-locals
overflow_sub-locals c = let few = store_takes kinds.Reference c.args.n c.args.slots.now c.args.locals c.args.used c.requires.acts in omega (arith, few)

pub put_one-requires : goal.put_one-requires
put_one-requires c = let inside = store_inside kinds.Reference c.args.n c.args.slots.now c.args.locals c.args.used c.requires.acts in omega (arith, inside)

pub overflow_sub-result : goal.overflow_sub-result
overflow_sub-result c = let few = store_takes kinds.Reference c.args.n c.args.slots.now c.args.locals c.args.used c.requires.acts in omega (arith, few)

pub returns : goal.returns
returns c =
    let few = store_takes kinds.Reference c.args.n c.args.slots.now c.args.locals c.args.used c.requires.acts in
    store_one kinds.Reference c.args.n c.args.slots.now c.put_one.new.slots c.args.locals c.args.used (c.args.locals + c.args.used - 1) (c.args.used - 1) c.stored_at-a.result
    c.requires.acts refl c.stored_at-a.ensures c.put_one.ensures (omega (arith, few)) (omega arith) (omega (arith, few))
