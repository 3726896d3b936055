use Rattle.frame_soundness.proofs.OperandProofs.{operands_are_there}
use Rattle.frame_soundness.proofs.operands_are_there.Goals as goal

pub returns : goal.returns
returns c = operands_are_there
