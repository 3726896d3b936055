use Rattle.class_file.proofs.OutcomeLaws.{none_bad, some_spelled}
use Rattle.class_file.proofs.laws.one_outcome.Goals as goal

pub returns-clause-none_bad : goal.returns-clause-none_bad
returns-clause-none_bad c = none_bad

pub returns-clause-some_spelled : goal.returns-clause-some_spelled
returns-clause-some_spelled c = some_spelled
