use Rattle.schedule_soundness.proofs.Histories.{history_prefixes, histories_go_on, histories_run}
use Rattle.schedule_soundness.proofs.histories_run.Goals as goal

pub returns-clause-prefixes : goal.returns-clause-prefixes
returns-clause-prefixes c = λ p first carriers front back legal. history_prefixes p first carriers front back legal

pub returns-clause-on : goal.returns-clause-on
returns-clause-on c = λ p first v w a k what e. histories_go_on p first v w a k what e

pub returns-clause-same : goal.returns-clause-same
returns-clause-same c = λ p first carriers history v begins e. histories_run p first carriers history v begins e
