use Rattle.std.proofs.Common.{ℕ, subst, sym}
use Rattle.program_state.proofs.StepLaws.{on_ok}
use Rattle.monitors.specs.Monitors.{IsInLine, monitor_of}
use Rattle.monitor_steps.specs.Entries.{TakesTo}
use Rattle.monitor_steps.proofs.FinishLaws.{call_resumes}
use Rattle.monitor_steps.proofs.finishing.resume_call.Goals as goal

pub returns-clause-steps : goal.returns-clause-steps
returns-clause-steps g c =
    let w = g.W.EventWorld.world c.args.world.now in
    let a = c.args.state.now in
    let m = c.args.mounted.now in
    let new = c.take_monitor.new.state in
    on_ok c.enter_synchronized.result c.enter_synchronized.ensures.begun (λ begun.
    call_resumes w c.args.call m.thread c.args.line a new m c.enter_synchronized.new.mounted c.requires.resumes
    (subst (λ (t : ℕ). TakesTo t c.args.line a new) c.thread.ensures c.in_ok-take_monitor.ensures.takes) c.requires.calls begun)

pub take_monitor-requires : goal.take_monitor-requires
take_monitor-requires g c = subst (λ (t : ℕ). IsInLine t (monitor_of c.args.state.now.monitors c.args.line.monitor)) (sym c.thread.ensures) c.requires.in_line
