use Rattle.std.proofs.Common.{◌+◌, refl, arith, rules, to_z, of_z}
use Rattle.std.specs.Int.{w32}
use Rattle.std.proofs.lemmas.Int.{to_z-of_z}
use Rattle.opcodes.specs.declared.op.ValueKind.TheVariants as kinds
use Rattle.instruction_rows.specs.declared.value.Value.TheVariants as values
use Rattle.instruction_rows.specs.declared.value.Slot.TheVariants.{One}
use Rattle.frame_instructions.proofs.MadeRows.{reads_int}
use Rattle.frame_instructions.proofs.VariableRows.{loaded, load_one, int_held}
use Rattle.frame_instructions.proofs.variables.load_int.Goals as goal

pub int_at-a-requires : goal.int_at-a-requires
int_at-a-requires c = let h = loaded kinds.Int c.args.n c.args.slots.now c.args.locals c.args.used c.requires.acts in omega (arith, h.inside)

pub returns : goal.returns
returns c =
    let x = to_z w32 (of_z w32 c.int_at-a.result) in
    let read = reads_int c.args.slots.now c.args.n c.int_at-a.result (to_z-of_z w32 c.int_at-a.result (search rules)) c.int_at-a.ensures in
    load_one kinds.Int c.args.n c.args.slots.now c.put_int.new.slots c.args.locals c.args.used (c.args.used + 1) (One (values.Int x))
    c.requires.acts refl (int_held c.args.n c.args.slots.now c.args.locals c.args.used x c.requires.acts read (omega arith)) c.put_int.ensures (omega arith) refl
