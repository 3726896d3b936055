use Rattle.operand_soundness.proofs.OperandLaws.{natives_found, operands_found}
use Rattle.operand_soundness.proofs.next_operands_are_there.Goals as goal

pub returns-clause-operands : goal.returns-clause-operands
returns-clause-operands c = λ w frames i ready typed at. operands_found w frames i ready typed at

pub returns-clause-natives : goal.returns-clause-natives
returns-clause-natives c = λ w a m frames i top ready typed at. natives_found w a m frames i top ready typed at
