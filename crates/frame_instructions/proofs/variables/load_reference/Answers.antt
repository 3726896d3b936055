use Rattle.std.proofs.Common.{◌+◌, refl, arith}
use Rattle.opcodes.specs.declared.op.ValueKind.TheVariants as kinds
use Rattle.frame_instructions.proofs.VariableRows.{loaded, load_one}
use Rattle.frame_instructions.proofs.variables.load_reference.Goals as goal

pub stored_at-a-requires : goal.stored_at-a-requires
stored_at-a-requires c = let h = loaded kinds.Reference c.args.n c.args.slots.now c.args.locals c.args.used c.requires.acts in omega (arith, h.inside)

pub returns : goal.returns
returns c =
    load_one kinds.Reference c.args.n c.args.slots.now c.put_one.new.slots c.args.locals c.args.used (c.args.used + 1) c.stored_at-a.result
    c.requires.acts refl c.stored_at-a.ensures c.put_one.ensures (omega arith) refl
