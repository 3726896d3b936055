use Rattle.ref_run.specs.States.{state_of}
use Rattle.ref_run.proofs.CallLaws.{call_ends}
use Rattle.ref_run.proofs.PhaseLaws.{on_ok}
use Rattle.ref_run.proofs.calling.finish_call.Goals as goal

pub returns : goal.returns
returns c =
    on_ok c.go_into.result c.go_into.ensures (λ goes.
    call_ends (state_of c.args.state.now) (state_of c.set_status.new.state) (state_of c.go_into.new.state) c.args.t c.args.call c.set_status.ensures goes)
