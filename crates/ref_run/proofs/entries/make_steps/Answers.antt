use Rattle.std.proofs.Common.{◌≡◌, ◌-◌, ap, arith, ◌∙◌}
use Rattle.ref_run.specs.States.{state_of}
use Rattle.ref_run.specs.Steps.{made_steps}
use Rattle.ref_run.proofs.EntryLaws.{more_steps, steps_stop}
use Rattle.ref_run.proofs.entries.make_steps.Goals as goal

pub loop-made-preserved : goal.loop-made-preserved
loop-made-preserved c =
    record {
      steps = more_steps c.args.program.now (state_of c.args.state.now) (state_of c.loop-made.state) c.args.t c.loop-made.made c.in-Ok.steps c.advance.new.state
          c.loop-made.invariant.steps c.in-Ok.ensures.steps.2;
      few = omega (arith, c.in-Ok.ensures.steps.1);
      typed = c.in-Ok.ensures.typed;
      selected = c.advance.ensures.cache;
    }

pub returns-in-Err-clause-steps : goal.returns-in-Err-clause-steps
returns-in-Err-clause-steps c =
    steps_stop c.args.program.now (state_of c.args.state.now) (state_of c.loop-made.state) c.args.t c.loop-made.made c.args.count (c.args.count - c.loop-made.made) c.in-Err.fault
    c.advance.new.state c.advance.new.state (omega arith) c.loop-made.invariant.steps c.in-Err.ensures.steps

pub returns-clause-steps : goal.returns-clause-steps
returns-clause-steps c =
    let all : c.args.count ≡ c.loop-made.made = omega (arith, c.loop-made.invariant.few) in
    ap (λ n. made_steps c.args.program.now n (state_of c.args.state.now) c.args.t) all ∙ c.loop-made.invariant.steps
