use Rattle.std.proofs.Common.{◌+◌, ◌-◌, arith, rules, to_z, of_z}
use Rattle.std.specs.Int.{w64}
use Rattle.std.proofs.lemmas.Int.{to_z-of_z}
use Rattle.opcodes.specs.declared.op.ValueKind.TheVariants as kinds
use Rattle.frame_instructions.proofs.MadeRows.{reads_long}
use Rattle.frame_instructions.proofs.VariableRows.{store_two, store_long_inside, store_takes}
use Rattle.frame_instructions.proofs.variables.store_long.Goals as goal

pub long_at-a-requires : goal.long_at-a-requires
long_at-a-requires c = let few = store_takes kinds.Long c.args.n c.args.slots.now c.args.locals c.args.used c.requires.acts in omega (arith, few)

pub overflow_sub-locals : goal.overflow_sub-locals
overflow_sub-locals c = let few = store_takes kinds.Long c.args.n c.args.slots.now c.args.locals c.args.used c.requires.acts in omega (arith, few)

pub put_long-requires : goal.put_long-requires
put_long-requires c = let inside = store_long_inside c.args.n c.args.slots.now c.args.locals c.args.used c.requires.acts in omega (arith, inside)

pub overflow_sub-result : goal.overflow_sub-result
overflow_sub-result c = let few = store_takes kinds.Long c.args.n c.args.slots.now c.args.locals c.args.used c.requires.acts in omega (arith, few)

pub returns : goal.returns
returns c =
    let few = store_takes kinds.Long c.args.n c.args.slots.now c.args.locals c.args.used c.requires.acts in
    let at = c.args.locals + c.args.used - 2 in
    let a = reads_long c.args.slots.now at c.long_at-a.result (to_z-of_z w64 c.long_at-a.result (search rules)) c.long_at-a.ensures in
    store_two c.args.n c.args.slots.now c.put_long.new.slots c.args.locals c.args.used at (c.args.used - 2) (to_z w64 (of_z w64 c.long_at-a.result))
    c.requires.acts a c.put_long.ensures (omega (arith, few)) (omega arith) (omega (arith, few))
