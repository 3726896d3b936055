use Rattle.std.proofs.Common.{subst}
use Rattle.thread_steps.specs.declared.throwing.Thrown.{Thrown}
use Rattle.ref_run.specs.States.{state_of}
use Rattle.ref_run.specs.Steps.{IsThrown}
use Rattle.ref_run.proofs.LeaveLaws.{throw_left}
use Rattle.ref_run.proofs.PhaseLaws.{on_ok}
use Rattle.ref_run.proofs.throwing.throwing_step.Goals as goal

pub returns-in-Holds : goal.returns-in-Holds
returns-in-Holds g c =
    let w = g.W.EventWorld.world c.args.world.now in
    let r = state_of c.args.state.now in
    let s = state_of c.throw_object.new.state in
    let thrown = subst (λ (x : Thrown). IsThrown w r c.args.t c.args.o x s) c.in-Holds.is c.in_ok-thrown.ensures in
    on_ok c.leave_monitor.result c.leave_monitor.ensures (λ leads frames has.
    throw_left w r s (state_of c.leave_monitor.new.state) c.args.t c.args.o c.in-Holds.held frames thrown.1 has (thrown.0 frames has) leads)
