use Rattle.link_soundness.proofs.States.{linked_states_fit}
use Rattle.link_soundness.proofs.Statics.{linked_statics_fit}
use Rattle.link_soundness.proofs.linked_values_fit.Goals as goal

pub returns-clause-statics : goal.returns-clause-statics
returns-clause-statics c = λ p links has. linked_statics_fit p links has

pub returns-clause-states : goal.returns-clause-states
returns-clause-states c = λ p links has. linked_states_fit p links has
