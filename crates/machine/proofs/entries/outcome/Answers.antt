use Rattle.std.proofs.Common.{sym, ◌∙◌}
use Rattle.std.specs.Prelude.{nat_lt}
use Rattle.ref_model.specs.Enabled.{has_ended}
use Rattle.ref_model.specs.Looks.{pins_of}
use Rattle.ref_model.specs.Step.{enabled}
use Rattle.machine.specs.Steps.{told_of}
use Rattle.machine.proofs.EnterLaws.{becomes_by_pins}
use Rattle.machine.proofs.OutcomeLaws.{goes_by, yields_or_stops}
use Rattle.machine.proofs.StepLaws.{ended_in}
use Rattle.machine.proofs.entries.outcome.Goals as goal

pub returns-then-not-yields-clause-becomes : goal.returns-then-not-yields-clause-becomes
returns-then-not-yields-clause-becomes c = λ r out is.
    goes_by (has_ended r c.args.t) (nat_lt 0 (pins_of c.args.program.now c.args.mounted.now.stack.frames)) c.args.yields (enabled r c.args.t)
    (sym (ended_in c.args.state.now r out c.args.t is) ∙ sym c.is_done.ensures ∙ c.if-is_done.false) c.if-not-yields.true
    (sym (c.may_step-goes_on.ensures r out is) ∙ c.if-goes_on.true)

pub returns-clause-becomes : goal.returns-clause-becomes
returns-clause-becomes c =
    becomes_by_pins c.args.program.now c.args.state.now c.args.t c.args.mounted.now.stack.frames c.args.yields c.may_step-goes_on.result (told_of c.outcome_of_pins.result)
    (c.outcome_of_pins.ensures.becomes c.args.yields (yields_or_stops c.args.yields c.may_step-goes_on.result c.else-goes_on.either))
    (λ r out is. (sym (ended_in c.args.state.now r out c.args.t is) ∙ sym c.is_done.ensures ∙ c.if-is_done.false, c.may_step-goes_on.ensures r out is))
