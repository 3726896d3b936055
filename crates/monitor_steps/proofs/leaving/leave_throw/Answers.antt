use Rattle.std.proofs.Common.{Option, Some, None, ℕ, subst}
use Rattle.monitor_steps.specs.declared.outcome.MonitorOutcome.{MonitorOutcome}
use Rattle.monitor_steps.specs.Owners.{IsLeft}
use Rattle.program_state.proofs.RequestLaws.{first_of}
use Rattle.monitor_steps.proofs.LeaveLaws.{exit_moves, throw_made, throw_unowned}
use Rattle.monitor_steps.proofs.leaving.leave_throw.Goals as goal

pub returns-in_ok-drop_frame-in-Some-clause-made : goal.returns-in_ok-drop_frame-in-Some-clause-made
returns-in_ok-drop_frame-in-Some-clause-made g c =
    let w = g.W.EventWorld.world c.args.world.now in
    let a = c.args.state.now in
    let m = c.args.mounted.now in
    let q = c.args.q in
    let mid = c.leave_once.new.monitors in
    let top = first_of m.stack.frames c.requires.frame in
    throw_made w q c.args.o m.thread c.in-Some.outcome a c.drop_frame.new.state mid m.stack.frames c.drop_frame.new.mounted.stack.frames top.0 top.1 top.2 c.requires.throws
    (subst (λ (t : ℕ). IsLeft t q.monitor (Some c.in-Some.outcome) a.monitors mid) c.thread.ensures
    (subst (λ (x : Option MonitorOutcome). IsLeft c.thread.result q.monitor x a.monitors mid) c.in-Some.is c.in_ok-outcome.ensures))
    (c.in_ok-drop_frame-in-Some).ensures.leads (c.in_ok-drop_frame-in-Some).ensures.monitors

pub returns-in_ok-drop_frame-in-Some-clause-lists : goal.returns-in_ok-drop_frame-in-Some-clause-lists
returns-in_ok-drop_frame-in-Some-clause-lists g c =
    exit_moves c.thread.result c.args.q.monitor c.in_ok-outcome.field-0 c.args.state.now.monitors c.drop_frame.new.state c.leave_once.new.monitors c.in_ok-outcome.ensures
    (c.in_ok-drop_frame-in-Some).ensures.monitors

pub returns-in_ok-throw_other-in-None-clause-made : goal.returns-in_ok-throw_other-in-None-clause-made
returns-in_ok-throw_other-in-None-clause-made g c =
    let w = g.W.EventWorld.world c.args.world.now in
    let a = c.args.state.now in
    let m = c.args.mounted.now in
    let q = c.args.q in
    let mid = c.leave_once.new.monitors in
    let top = first_of m.stack.frames c.requires.frame in
    throw_unowned w q c.args.o m.thread a c.throw_other.new.state mid m.stack.frames c.throw_other.new.mounted.stack.frames top.0 top.1 top.2 c.requires.throws
    (subst (λ (t : ℕ). IsLeft t q.monitor None a.monitors mid) c.thread.ensures
    (subst (λ (x : Option MonitorOutcome). IsLeft c.thread.result q.monitor x a.monitors mid) c.in-None.is c.in_ok-outcome.ensures))
    (c.in_ok-throw_other-in-None).ensures.leads

pub returns-in_ok-throw_other-in-None-clause-lists : goal.returns-in_ok-throw_other-in-None-clause-lists
returns-in_ok-throw_other-in-None-clause-lists g c =
    exit_moves c.thread.result c.args.q.monitor c.in_ok-outcome.field-0 c.args.state.now.monitors c.throw_other.new.state c.leave_once.new.monitors c.in_ok-outcome.ensures
    (c.in_ok-throw_other-in-None).ensures.monitors
