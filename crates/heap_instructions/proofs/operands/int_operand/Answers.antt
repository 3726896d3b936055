use Rattle.std.proofs.Common.{arith, ap, sym, ◌∙◌, rules, to_z, of_z, to_z-of_z}
use Rattle.std.specs.Prelude.{FitsSigned, Some}
use Rattle.std.specs.Int.{w32}
use Rattle.opcodes.specs.declared.op.ValueKind.TheVariants as kinds
use Rattle.heap_instructions.specs.Operands.{operands}
use Rattle.heap_instructions.proofs.OperandLaws.{operand_is, slot_holds}
use Rattle.heap_instructions.proofs.operands.int_operand.Goals as goal

pub int_in-requires : goal.int_in-requires
int_in-requires c = slot_holds kinds.Int c.args.depth c.args.depth (operands c.args.mounted.now) c.operand.result (omega arith) c.operand.ensures c.requires

pub returns-clause-read : goal.returns-clause-read
returns-clause-read c =
    let fits : FitsSigned w32 c.int_in.result = search rules in
    let v = to_z w32 (of_z w32 c.int_in.result) in
    operand_is kinds.Int v c.args.depth c.args.depth (operands c.args.mounted.now) c.operand.result (omega arith) c.operand.ensures (c.int_in.ensures ∙ ap Some (sym (to_z-of_z fits)))
