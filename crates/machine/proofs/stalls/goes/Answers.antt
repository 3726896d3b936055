use Rattle.std.proofs.Common.{ap, sym, ◌∙◌}
use Rattle.machine.specs.Stalls.{goes_on}
use Rattle.machine.proofs.stalls.goes.Goals as goal

pub returns-in-Some : goal.returns-in-Some
returns-in-Some c = λ r out is. c.may_step.ensures r out is ∙ ap (goes_on r) (sym c.in-Some.is)
