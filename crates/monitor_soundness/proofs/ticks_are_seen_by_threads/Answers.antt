use Rattle.monitor_soundness.proofs.OpenWaits.{waits_are_open}
use Rattle.monitor_soundness.proofs.Times.{ticks_change_time, ticks_leave_others, ticks_wake_waiters}
use Rattle.monitor_soundness.proofs.ticks_are_seen_by_threads.Goals as goal

pub returns-clause-open : goal.returns-clause-open
returns-clause-open c = λ p first v a early. waits_are_open p first v a early

pub returns-clause-woken : goal.returns-clause-woken
returns-clause-woken c = λ w r q now t x tick at waiting due. ticks_wake_waiters w r q now t x tick at waiting due

pub returns-clause-others : goal.returns-clause-others
returns-clause-others c = λ w r q now t x tick going at off. ticks_leave_others w r q now t x tick going at off

pub returns-clause-time : goal.returns-clause-time
returns-clause-time c = λ r q now tick. ticks_change_time r q now tick
