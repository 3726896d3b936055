use Rattle.ref_model.proofs.StepLaws.{entry_is_local}
use Rattle.ref_model.proofs.laws.entries_are_local.Goals as goal

pub returns : goal.returns
returns c = entry_is_local
