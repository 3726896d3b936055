use Rattle.std.proofs.Common.{ℕ, sym, subst, ◌∙◌}
use Rattle.monitors.specs.Monitors.{IsInLine, monitor_of}
use Rattle.monitor_steps.specs.Entries.{TakesTo}
use Rattle.monitor_steps.proofs.FinishLaws.{request_resumes}
use Rattle.monitor_steps.proofs.finishing.resume_request.Goals as goal

pub returns-clause-steps : goal.returns-clause-steps
returns-clause-steps g c =
    let w = g.W.EventWorld.world c.args.world.now in
    let a = c.args.state.now in
    let m = c.args.mounted.now in
    let new = c.take_monitor.new.state in
    request_resumes w c.args.pending m.thread c.args.line a new m.stack.frames c.go_on.new.mounted.stack.frames c.requires.resumes
    (subst (λ (t : ℕ). TakesTo t c.args.line a new) c.thread.ensures c.in_ok-take_monitor.ensures.takes) c.requires.asks (sym c.may_line_up.ensures ∙ c.if-not-may_line_up.false) c.go_on.ensures.frames

pub take_monitor-requires : goal.take_monitor-requires
take_monitor-requires g c = subst (λ (t : ℕ). IsInLine t (monitor_of c.args.state.now.monitors c.args.line.monitor)) (sym c.thread.ensures) c.requires.in_line
