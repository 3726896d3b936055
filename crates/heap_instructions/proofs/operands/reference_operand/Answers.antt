use Rattle.std.proofs.Common.{arith}
use Rattle.opcodes.specs.declared.op.ValueKind.TheVariants as kinds
use Rattle.heap_instructions.specs.Operands.{operands}
use Rattle.heap_instructions.proofs.OperandLaws.{operand_is, slot_holds}
use Rattle.heap_instructions.proofs.operands.reference_operand.Goals as goal

pub reference_in-requires : goal.reference_in-requires
reference_in-requires c = slot_holds kinds.Reference c.args.depth c.args.depth (operands c.args.mounted.now) c.operand.result (omega arith) c.operand.ensures c.requires

pub returns-clause-read : goal.returns-clause-read
returns-clause-read c =
    operand_is kinds.Reference c.reference_in.result c.args.depth c.args.depth (operands c.args.mounted.now) c.operand.result (omega arith) c.operand.ensures c.reference_in.ensures
