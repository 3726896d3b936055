use Rattle.std.proofs.Common.{Option, ap, ◌∙◌}
use Rattle.std.specs.Option.{option_or}
use Rattle.ref_model.specs.declared.ending.Ending.{Ending}
use Rattle.machine.specs.Machines.{limit_reached}
use Rattle.machine.proofs.endings.ended_within.Goals as goal

pub returns-in-Some : goal.returns-in-Some
returns-in-Some c = λ r out is. ap (λ (o : Option Ending). option_or o (limit_reached c.args.limits c.args.entries)) (c.in-Some.ensures r out is)

pub returns-in-None : goal.returns-in-None
returns-in-None c = λ r out is.
    c.limit_within.ensures ∙ ap (λ (o : Option Ending). option_or o (limit_reached c.args.limits c.args.entries)) (c.in-None.ensures r out is)
