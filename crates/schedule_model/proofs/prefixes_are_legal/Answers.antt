use Rattle.schedule_model.proofs.PrefixLaws as laws
use Rattle.schedule_model.proofs.prefixes_are_legal.Goals as goal

pub returns-clause-legal : goal.returns-clause-legal
returns-clause-legal g c = λ m. laws.prefixes_are_legal m

pub returns-clause-on : goal.returns-clause-on
returns-clause-on g c = λ m. laws.histories_go_on m
