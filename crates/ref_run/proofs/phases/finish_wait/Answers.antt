use Rattle.ref_run.specs.States.{state_of}
use Rattle.ref_run.proofs.PhaseLaws.{on_ok, wait_thrown}
use Rattle.ref_run.proofs.phases.finish_wait.Goals as goal

pub returns-in-Interrupted-clause-step : goal.returns-in-Interrupted-clause-step
returns-in-Interrupted-clause-step c =
    on_ok c.throw_interrupted.result c.throw_interrupted.ensures (λ thrown frames has.
    wait_thrown c.args.program.now (state_of c.args.state.now) (state_of c.set_owner.new.state) (state_of c.throw_interrupted.new.state) c.args.t c.args.o c.args.count c.args.wake frames
    c.in_ok-set_owner.ensures c.in-Interrupted.is thrown)
