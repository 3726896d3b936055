use Rattle.std.proofs.Common.{ap, sym, ◌∙◌, ◌||◌}
use Rattle.std.specs.Prelude.{is_some}
use Rattle.ref_model.specs.Step.{enabled}
use Rattle.program_state.specs.Deadlines.{deadlines_of}
use Rattle.machine.proofs.stalls.is_coming.Goals as goal

pub returns-then-may_step : goal.returns-then-may_step
returns-then-may_step c = λ r out is.
    ap (λ b. b || is_some (deadlines_of r.now r.threads c.args.t)) (sym c.if-may_step.true ∙ c.may_step.ensures r out is)

pub returns : goal.returns
returns c = λ r out is.
    c.is_timed.ensures r out is ∙ ap (λ b. b || is_some (deadlines_of r.now r.threads c.args.t)) (sym c.if-may_step.false ∙ c.may_step.ensures r out is)
