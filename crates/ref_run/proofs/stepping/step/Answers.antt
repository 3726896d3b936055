use Rattle.ref_run.specs.States.{state_of}
use Rattle.ref_run.proofs.EntryLaws.{step_typed}
use Rattle.ref_run.proofs.stepping.step.Goals as goal

pub returns-clause-typed : goal.returns-clause-typed
returns-clause-typed c =
    step_typed c.args.program.now (state_of c.args.state.now) c.args.t c.args.pick c.make_step.result c.make_step.new.state c.steps_keep.ensures c.requires.ready c.requires.typed
    c.make_step.ensures.step
