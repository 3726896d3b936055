use Rattle.java_cli.proofs.DueLaws.{one_is_due}
use Rattle.java_cli.proofs.laws.one_answer.Goals as goal

pub returns : goal.returns
returns c = one_is_due
