use Rattle.std.proofs.Common.{◌-◌, arith}
use Rattle.heap_instructions.specs.Operands.{operands}
use Rattle.heap_instructions.proofs.OperandLaws.{int_below, ints_within}
use Rattle.heap_instructions.proofs.array_making.ints_on_top.Goals as goal

pub int_operand-requires : goal.int_operand-requires
int_operand-requires c = int_below c.args.count (c.loop-left.left - 1) (operands c.args.mounted.now) c.requires (omega arith)

pub returns-in_err-push-clause-within : goal.returns-in_err-push-clause-within
returns-in_err-push-clause-within c = ints_within c.args.count (operands c.args.mounted.now) c.requires

pub returns-clause-within : goal.returns-clause-within
returns-clause-within c = ints_within c.args.count (operands c.args.mounted.now) c.requires
