use Rattle.std.proofs.Common.{take}
use Rattle.vthread_state.specs.declared.phase.Wake.TheVariants.{TimedOut}
use Rattle.program_state.specs.Monitors.{HaveEndedWaits}
use Rattle.program_state.proofs.monitor_waits.end_monitor_waits.Given as goal

abbrev pub invariant-loop-t : goal.invariant-loop-t
invariant-loop-t l = HaveEndedWaits TimedOut (take l.t-index l.due) l.initial.monitors l.initial.threads l.monitors l.threads
