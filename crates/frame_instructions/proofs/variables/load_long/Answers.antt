use Rattle.std.proofs.Common.{◌+◌, refl, arith, rules, to_z, of_z}
use Rattle.std.specs.Int.{w64}
use Rattle.std.proofs.lemmas.Int.{to_z-of_z}
use Rattle.opcodes.specs.declared.op.ValueKind.TheVariants as kinds
use Rattle.frame_instructions.proofs.MadeRows.{reads_long}
use Rattle.frame_instructions.proofs.VariableRows.{loaded, load_two}
use Rattle.frame_instructions.proofs.variables.load_long.Goals as goal

pub long_at-a-requires : goal.long_at-a-requires
long_at-a-requires c = let h = loaded kinds.Long c.args.n c.args.slots.now c.args.locals c.args.used c.requires.acts in omega (arith, h.inside)

pub returns : goal.returns
returns c =
    let a = reads_long c.args.slots.now c.args.n c.long_at-a.result (to_z-of_z w64 c.long_at-a.result (search rules)) c.long_at-a.ensures in
    load_two c.args.n c.args.slots.now c.put_long.new.slots c.args.locals c.args.used (c.args.used + 2) (to_z w64 (of_z w64 c.long_at-a.result))
    c.requires.acts a c.put_long.ensures c.requires.room refl
