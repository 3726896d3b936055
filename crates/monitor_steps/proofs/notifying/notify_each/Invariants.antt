use Rattle.monitor_steps.specs.Waits.{NotifiesSome}
use Rattle.monitor_steps.proofs.notifying.notify_each.Given as goal

abbrev pub invariant-loop : goal.invariant-loop
invariant-loop l = NotifiesSome l.o l.fn.state l.state
