use Rattle.monitor_soundness.proofs.TickLaws.{ticks_move_the_due, ticks_put_the_due}
use Rattle.monitor_soundness.proofs.ticks_are_seen_by_deadlines.Goals as goal

pub returns-clause-lists : goal.returns-clause-lists
returns-clause-lists c = λ w r q s now o due listed tick going these. ticks_move_the_due w r q s now o due listed tick going these

pub returns-clause-put : goal.returns-clause-put
returns-clause-put c = λ p first v q now lists due a goes tick going these. ticks_put_the_due p first v q now lists due a goes tick going these
