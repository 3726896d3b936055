use Rattle.std.proofs.Common.{ap, rules, to_z-of_z, to_z, of_z}
use Rattle.std.specs.Prelude.{FitsSigned}
use Rattle.std.specs.Int.{w32, w64}
use Rattle.opcodes.specs.declared.op.ValueKind.TheVariants as kinds
use Rattle.instruction_rows.specs.declared.value.Value.TheVariants as values
use Rattle.heap_instructions.proofs.OperandLaws.{operand_value}
use Rattle.heap_instructions.specs.Operands.{operands}
use Rattle.heap_instructions.proofs.operands.value_operand.Goals as goal

pub returns-in-Int-clause-read : goal.returns-in-Int-clause-read
returns-in-Int-clause-read c =
    let n = c.int_operand.result in
    let fits : FitsSigned w32 n = search rules in
    operand_value c.args.kind kinds.Int n (values.Int (to_z w32 (of_z w32 n))) c.args.depth (operands c.args.mounted.now) c.in-Int.is (ap values.Int (to_z-of_z fits)) c.int_operand.ensures.read

pub returns-in-Long-clause-read : goal.returns-in-Long-clause-read
returns-in-Long-clause-read c =
    let n = c.long_operand.result in
    let fits : FitsSigned w64 n = search rules in
    operand_value c.args.kind kinds.Long n (values.Long (to_z w64 (of_z w64 n))) c.args.depth (operands c.args.mounted.now) c.in-Long.is (ap values.Long (to_z-of_z fits)) c.long_operand.ensures.read

pub returns-in-Reference-clause-read : goal.returns-in-Reference-clause-read
returns-in-Reference-clause-read c =
    operand_value c.args.kind kinds.Reference c.reference_operand.result c.reference_value.result c.args.depth (operands c.args.mounted.now) c.in-Reference.is c.reference_value.ensures
    c.reference_operand.ensures.read
