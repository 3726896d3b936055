use Rattle.std.proofs.Common.{sym, ◌∙◌}
use Rattle.ref_run.specs.States.{state_of}
use Rattle.ref_run.proofs.LeaveLaws.{result_stays, return_owned, return_unowned}
use Rattle.ref_run.proofs.PhaseLaws.{on_ok}
use Rattle.ref_run.proofs.returning.return_method.Goals as goal

pub return_frame-requires : goal.return_frame-requires
return_frame-requires g c =
    result_stays (state_of c.args.state.now) (state_of c.leave.new.state) c.args.t c.args.back.monitor c.args.back.kind c.in_ok-leave.ensures c.requires

pub returns-then-not-owns : goal.returns-then-not-owns
returns-then-not-owns g c =
    let w = g.W.EventWorld.world c.args.world.now in
    on_ok c.throw.result c.throw.ensures (λ raises.
    return_unowned w (state_of c.args.state.now) (state_of c.throw.new.state) c.args.t c.args.back (sym c.owns.ensures ∙ c.if-not-owns.true) raises)

pub returns : goal.returns
returns g c =
    let w = g.W.EventWorld.world c.args.world.now in
    on_ok c.return_frame.result c.return_frame.ensures (λ leads.
    return_owned w (state_of c.args.state.now) (state_of c.leave.new.state) (state_of c.return_frame.new.state) c.args.t c.args.back (sym c.owns.ensures ∙ c.if-not-owns.false)
    c.in_ok-leave.ensures leads)
