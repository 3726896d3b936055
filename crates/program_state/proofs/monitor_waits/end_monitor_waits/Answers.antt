use Rattle.std.proofs.Common.{take}
use Rattle.vthread_state.specs.declared.phase.Wake.TheVariants.{TimedOut}
use Rattle.program_state.proofs.WaitTimeLaws.{ends_all, ends_more, ends_seated}
use Rattle.program_state.proofs.monitor_waits.end_monitor_waits.Goals as goal

pub end_monitor_wait-requires : goal.end_monitor_wait-requires
end_monitor_wait-requires c =
    ends_seated TimedOut (take c.loop-t.t-index c.args.due.now) c.args.monitors.now c.loop-t.monitors c.args.threads.now c.loop-t.threads c.requires c.loop-t.invariant

pub loop-t-preserved : goal.loop-t-preserved
loop-t-preserved c =
    ends_more TimedOut c.args.due.now c.loop-t.t-index c.args.monitors.now c.loop-t.monitors c.end_monitor_wait.new.monitors c.args.threads.now c.loop-t.threads c.end_monitor_wait.new.threads
    c.loop-t-test.true c.loop-t.invariant c.end_monitor_wait.ensures

pub returns : goal.returns
returns c =
    ends_all TimedOut c.args.due.now c.loop-t.t-index c.args.monitors.now c.loop-t.monitors c.args.threads.now c.loop-t.threads c.loop-t-test.false c.loop-t.invariant
