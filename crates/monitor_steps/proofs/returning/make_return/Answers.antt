use Rattle.std.proofs.Common.{Option, Some, None, ℕ, subst}
use Rattle.monitor_steps.specs.declared.outcome.MonitorOutcome.{MonitorOutcome}
use Rattle.monitor_steps.specs.Owners.{IsLeft}
use Rattle.program_state.specs.Replying.{IsRaised}
use Rattle.ref_model.specs.declared.exception.Exception.TheVariants as exceptions
use Rattle.monitor_steps.proofs.LeaveLaws.{exit_moves, first_frame, return_made, return_operands, return_throws}
use Rattle.monitor_steps.proofs.returning.make_return.Goals as goal

pub leave_frame-requires-clause-frame : goal.leave_frame-requires-clause-frame
leave_frame-requires-clause-frame g c = first_frame c.args.mounted.now.stack.frames c.requires.frame c.requires.below c.requires.top

pub leave_frame-requires-clause-operands : goal.leave_frame-requires-clause-operands
leave_frame-requires-clause-operands g c = return_operands (g.W.EventWorld.world c.args.world.now) c.args.q c.args.mounted.now c.requires

pub returns-in_ok-leave_frame-in-Some-clause-made : goal.returns-in_ok-leave_frame-in-Some-clause-made
returns-in_ok-leave_frame-in-Some-clause-made g c =
    let w = g.W.EventWorld.world c.args.world.now in
    let a = c.args.state.now in
    let m = c.args.mounted.now in
    let q = c.args.q in
    let mid = c.leave_once.new.monitors in
    return_made w q m.thread c.in-Some.outcome a c.leave_frame.new.state mid m.stack.frames c.leave_frame.new.mounted.stack.frames c.requires
    (subst (λ (t : ℕ). IsLeft t q.monitor (Some c.in-Some.outcome) a.monitors mid) c.thread-t.ensures
    (subst (λ (x : Option MonitorOutcome). IsLeft c.thread-t.result q.monitor x a.monitors mid) c.in-Some.is c.in_ok-outcome.ensures))
    (c.in_ok-leave_frame-in-Some).ensures.leads (c.in_ok-leave_frame-in-Some).ensures.monitors

pub returns-in_ok-leave_frame-in-Some-clause-lists : goal.returns-in_ok-leave_frame-in-Some-clause-lists
returns-in_ok-leave_frame-in-Some-clause-lists g c =
    exit_moves c.thread-t.result c.args.q.monitor c.in_ok-outcome.field-0 c.args.state.now.monitors c.leave_frame.new.state c.leave_once.new.monitors c.in_ok-outcome.ensures
    (c.in_ok-leave_frame-in-Some).ensures.monitors

pub returns-in_ok-throw-in-None-clause-made : goal.returns-in_ok-throw-in-None-clause-made
returns-in_ok-throw-in-None-clause-made g c =
    let w = g.W.EventWorld.world c.args.world.now in
    let a = c.args.state.now in
    let m = c.args.mounted.now in
    let q = c.args.q in
    let mid = c.leave_once.new.monitors in
    return_throws w q m.thread a c.throw.new.state mid m.stack.frames c.requires
    (subst (λ (t : ℕ). IsLeft t q.monitor None a.monitors mid) c.thread-t.ensures
    (subst (λ (x : Option MonitorOutcome). IsLeft c.thread-t.result q.monitor x a.monitors mid) c.in-None.is c.in_ok-outcome.ensures))
    (subst (λ (t : ℕ). IsRaised w exceptions.IllegalMonitorStateException t (record a { monitors = mid }) c.throw.new.state) c.thread-t.ensures (c.in_ok-throw-in-None).ensures.raised)

pub returns-in_ok-throw-in-None-clause-lists : goal.returns-in_ok-throw-in-None-clause-lists
returns-in_ok-throw-in-None-clause-lists g c =
    exit_moves c.thread-t.result c.args.q.monitor c.in_ok-outcome.field-0 c.args.state.now.monitors c.throw.new.state c.leave_once.new.monitors c.in_ok-outcome.ensures
    (c.in_ok-throw-in-None).ensures.monitors
