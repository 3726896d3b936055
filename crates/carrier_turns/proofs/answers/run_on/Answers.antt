use Rattle.std.proofs.Common.{ap, refl, sym, ◌∙◌}
use Rattle.std.specs.Prelude.{is_some}
use Rattle.carrier_turns.specs.Steps.{goes_over, goes_to_run}
use Rattle.carrier_turns.proofs.EndingLaws.{ends_by_limit, none_by}
use Rattle.carrier_turns.proofs.answers.run_on.Goals as goal

pub returns-then-is_at_limit-clause-way : goal.returns-then-is_at_limit-clause-way
returns-then-is_at_limit-clause-way c =
    let ends = ends_by_limit c.args.machine.now c.requires.legal c.requires.going in
    goes_over (ap is_some ends ∙ sym c.is_at_limit.ensures ∙ c.if-is_at_limit.true) c.stop.ensures.over

pub returns-clause-way : goal.returns-clause-way
returns-clause-way c =
    let ends = ends_by_limit c.args.machine.now c.requires.legal c.requires.going in
    goes_to_run (none_by _ (ap is_some ends ∙ sym c.is_at_limit.ensures ∙ c.if-is_at_limit.false)) c.requires.runs refl
