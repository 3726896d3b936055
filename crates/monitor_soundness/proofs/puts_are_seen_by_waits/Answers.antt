use Rattle.monitor_soundness.proofs.MonitorPuts.{notifies_put_nobody, interrupts_put_the_waiter, wakes_in_line_put_nobody}
use Rattle.monitor_soundness.proofs.puts_are_seen_by_waits.Goals as goal

pub returns-clause-notified : goal.returns-clause-notified
returns-clause-notified c = λ p v q k t o lists mounts goes tells ends. notifies_put_nobody p v q k t o lists mounts goes tells ends

pub returns-clause-interrupted : goal.returns-clause-interrupted
returns-clause-interrupted c = λ p v q k t u o lists mounts goes on others ends was now.
    interrupts_put_the_waiter p v q k t u o lists mounts goes on others ends was now

pub returns-clause-in_line : goal.returns-clause-in_line
returns-clause-in_line c = λ p v q k t u lists mounts goes others ends woken in_line.
    wakes_in_line_put_nobody p v q k t u lists mounts goes others ends woken in_line
