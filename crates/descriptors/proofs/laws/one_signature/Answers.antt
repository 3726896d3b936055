use Rattle.descriptors.proofs.MeaningLaws.{one_signature}
use Rattle.descriptors.proofs.laws.one_signature.Goals as goal

pub returns : goal.returns
returns c = λ a b f g e. one_signature a b f g e
