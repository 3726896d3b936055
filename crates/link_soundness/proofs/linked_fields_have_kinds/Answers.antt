use Rattle.link_soundness.proofs.FieldNumbers.{linked_fields_have_kinds}
use Rattle.link_soundness.proofs.linked_fields_have_kinds.Goals as goal

pub returns : goal.returns
returns c = λ p links. linked_fields_have_kinds p links
