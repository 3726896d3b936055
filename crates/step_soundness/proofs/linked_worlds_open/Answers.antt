use Rattle.step_soundness.proofs.LinkedWorlds.{dimensions_are_there, main_is_found, initializers_are_such}
use Rattle.step_soundness.proofs.linked_worlds_open.Goals as goal

pub returns-clause-dimensions : goal.returns-clause-dimensions
returns-clause-dimensions c = dimensions_are_there

pub returns-clause-main : goal.returns-clause-main
returns-clause-main c = λ w name n e. main_is_found w name n e

pub returns-clause-initializers : goal.returns-clause-initializers
returns-clause-initializers c = initializers_are_such
