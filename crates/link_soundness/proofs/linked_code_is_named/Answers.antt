use Rattle.link_soundness.proofs.Steps.{linked_code_is_named}
use Rattle.link_soundness.proofs.linked_code_is_named.Goals as goal

pub returns : goal.returns
returns c = λ p links has. linked_code_is_named p links has
