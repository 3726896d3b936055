use Rattle.class_file.proofs.OutcomeLaws.{one_value}
use Rattle.class_file.proofs.laws.one_value.Goals as goal

pub returns : goal.returns
returns c = one_value
