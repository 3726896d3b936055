use Rattle.link_soundness.proofs.OpeningClasses.{linked_classes_open}
use Rattle.link_soundness.proofs.linked_classes_open.Goals as goal

pub returns : goal.returns
returns c = λ p main links has is. linked_classes_open p main links has is
