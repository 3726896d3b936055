use Rattle.std.proofs.Common.{sym, ◌∙◌}
use Rattle.carrier_turns.proofs.FitLaws.{frozen_by}
use Rattle.carrier_turns.proofs.TurnLaws.{settle_act}
use Rattle.carrier_turns.proofs.acts.put_down.Goals as goal

pub settle-requires-clause-hand : goal.settle-requires-clause-hand
settle-requires-clause-hand c =
    (frozen_by c.args.machine.now c.args.carrier c.args.hand.now c.in-Some.frozen c.requires.may (sym c.take.ensures.value ∙ c.in-Some.is)).holds

pub returns-clause-act : goal.returns-clause-act
returns-clause-act c = λ now.
    settle_act c.args.machine.now c.settle.new.self c.args.carrier now c.in-Some.frozen c.args.hand.now _ c.unless_over.result c.requires.may
    (sym c.take.ensures.value ∙ c.in-Some.is) c.settle.ensures.entry c.settle.ensures.idle c.unless_over.ensures c.requires.may.done c.requires.may.works
