use Rattle.schedule_soundness.proofs.TimeLaws.{ticks_leave_threads, ticks_put_who_is_due}
use Rattle.schedule_soundness.proofs.puts_are_seen_by_time.Goals as goal

pub returns-clause-threads : goal.returns-clause-threads
returns-clause-threads c = λ r now later nobody. ticks_leave_threads r now later nobody

pub returns-clause-due : goal.returns-clause-due
returns-clause-due c = λ p first v q now lists due a goes tick nobody these. ticks_put_who_is_due p first v q now lists due a goes tick nobody these
