use Rattle.heap_instructions.specs.Operands.{operands}
use Rattle.heap_instructions.proofs.OperandLaws.{stored_is}
use Rattle.heap_instructions.proofs.fields.stored.Goals as goal

pub returns-clause-stored : goal.returns-clause-stored
returns-clause-stored c =
    stored_is c.args.field.now c.value_kind.result c.value_operand.result c.kept.result (operands c.args.mounted.now) c.value_kind.ensures c.kept.ensures c.value_operand.ensures.read
