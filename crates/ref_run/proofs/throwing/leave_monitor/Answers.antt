use Rattle.std.proofs.Common.{sym, ◌∙◌}
use Rattle.ref_run.specs.States.{state_of}
use Rattle.ref_run.proofs.LeaveLaws as laws
use Rattle.ref_run.proofs.PhaseLaws.{on_ok}
use Rattle.ref_run.proofs.throwing.leave_monitor.Goals as goal

pub returns-then-not-owns : goal.returns-then-not-owns
returns-then-not-owns g c =
    let w = g.W.EventWorld.world c.args.world.now in
    on_ok c.throw_unowned.result c.throw_unowned.ensures (λ throws.
    laws.throw_unowned w (state_of c.args.state.now) (state_of c.throw_unowned.new.state) c.args.t c.args.held (sym c.owns.ensures ∙ c.if-not-owns.true) throws)

pub returns : goal.returns
returns g c =
    let w = g.W.EventWorld.world c.args.world.now in
    on_ok c.drop_frame.result c.drop_frame.ensures (λ drops.
    laws.throw_owned w (state_of c.args.state.now) (state_of c.leave.new.state) (state_of c.drop_frame.new.state) c.args.t c.args.held (sym c.owns.ensures ∙ c.if-not-owns.false)
    c.in_ok-leave.ensures drops)
