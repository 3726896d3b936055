use Rattle.descriptors.proofs.MeaningLaws.{one_kind}
use Rattle.descriptors.proofs.laws.one_kind.Goals as goal

pub returns : goal.returns
returns c = λ a b f g e. one_kind a b e
