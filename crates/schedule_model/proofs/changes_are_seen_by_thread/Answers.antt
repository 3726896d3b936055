use Rattle.schedule_model.proofs.ChangeLaws.{steps_by_the_last, steps_by_threads, ticks_by_threads}
use Rattle.schedule_model.proofs.changes_are_seen_by_thread.Goals as goal

pub returns-clause-steps : goal.returns-clause-steps
returns-clause-steps c = steps_by_threads

pub returns-clause-ticks : goal.returns-clause-ticks
returns-clause-ticks c = ticks_by_threads

pub returns-clause-last : goal.returns-clause-last
returns-clause-last c = steps_by_the_last
