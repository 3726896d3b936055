use Rattle.std.proofs.Common.{arith}
use Rattle.ref_run.specs.States.{state_of}
use Rattle.ref_run.proofs.EntryLaws.{no_first, one_step}
use Rattle.ref_run.proofs.entries.advance.Goals as goal

pub returns-in-Ok-clause-steps : goal.returns-in-Ok-clause-steps
returns-in-Ok-clause-steps c =
    one_step c.args.program.now (state_of c.args.state.now) (state_of c.run_ahead.new.state) c.args.t c.args.most c.in_ok-local.local c.step.new.state c.requires.some
    (λ more. omega arith) c.in_ok-local.ensures.steps c.in-Ok.ensures.step

pub returns-in-Err-clause-steps : goal.returns-in-Err-clause-steps
returns-in-Err-clause-steps c =
    no_first c.args.program.now (state_of c.args.state.now) (state_of c.run_ahead.new.state) c.args.t c.args.most c.in_ok-local.local c.in-Err.fault c.step.new.state
    (λ more. omega arith) c.in_ok-local.ensures.steps c.in-Err.ensures.step
