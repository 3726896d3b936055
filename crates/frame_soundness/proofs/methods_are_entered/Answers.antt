use Rattle.frame_soundness.proofs.EnterProofs.{methods_are_entered, statics_are_entered}
use Rattle.frame_soundness.proofs.methods_are_entered.Goals as goal

pub returns-clause-of_objects : goal.returns-clause-of_objects
returns-clause-of_objects c = methods_are_entered

pub returns-clause-of_classes : goal.returns-clause-of_classes
returns-clause-of_classes c = statics_are_entered
