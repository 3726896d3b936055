use Rattle.std.proofs.Common.{subst}
use Rattle.ref_run.specs.declared.starting.Start.{Start}
use Rattle.ref_run.specs.Starting.{IsStart}
use Rattle.ref_run.specs.States.{state_of}
use Rattle.ref_run.proofs.StartLaws.{start_answered}
use Rattle.ref_run.proofs.starting.start_thread.Goals as goal

pub returns-else-t-u : goal.returns-else-t-u
returns-else-t-u g c =
    let w = g.W.EventWorld.world c.args.world.now in
    let r = state_of c.args.state.now in
    start_answered w c.args.t c.args.u r (state_of c.begin_thread.new.state) c.in-Begins.first c.if-t-u.false
    (subst (λ (x : Start). IsStart w c.args.u r x) c.in-Begins.is c.in_ok-first.ensures) c.begin_thread.ensures
