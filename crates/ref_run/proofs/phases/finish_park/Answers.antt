use Rattle.ref_run.specs.States.{state_of}
use Rattle.ref_run.proofs.PhaseLaws.{on_ok, parked_over}
use Rattle.ref_run.proofs.phases.finish_park.Goals as goal

pub returns-clause-step : goal.returns-clause-step
returns-clause-step c =
    on_ok c.finish.result c.finish.ensures.step (λ over frames has.
    parked_over c.args.program.now (state_of c.args.state.now) (state_of c.set_permit.new.state) (state_of c.finish.new.state) c.args.t frames c.set_permit.ensures has over)
