use Rattle.frame_soundness.proofs.OperandProofs.{arguments_are_there, static_arguments_are_there}
use Rattle.frame_soundness.proofs.arguments_are_there.Goals as goal

pub returns-clause-of_objects : goal.returns-clause-of_objects
returns-clause-of_objects c = arguments_are_there

pub returns-clause-of_classes : goal.returns-clause-of_classes
returns-clause-of_classes c = static_arguments_are_there
