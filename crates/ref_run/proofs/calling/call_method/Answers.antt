use Rattle.std.proofs.Common.{sym, ◌∙◌}
use Rattle.ref_run.specs.States.{state_of}
use Rattle.ref_run.proofs.CallLaws.{call_goes, call_waits}
use Rattle.ref_run.proofs.PhaseLaws.{on_ok}
use Rattle.ref_run.proofs.calling.call_method.Goals as goal

pub returns-then-not-may_take : goal.returns-then-not-may_take
returns-then-not-may_take c =
    call_waits (state_of c.args.state.now) (state_of c.set_status.new.state) c.args.t c.args.call (sym c.may_take.ensures ∙ c.if-not-may_take.true) c.set_status.ensures

pub returns : goal.returns
returns c =
    on_ok c.go_into.result c.go_into.ensures (λ goes.
    call_goes (state_of c.args.state.now) (state_of c.enter.new.state) (state_of c.go_into.new.state) c.args.t c.args.call (sym c.may_take.ensures ∙ c.if-not-may_take.false)
    c.in_ok-enter.ensures goes)
