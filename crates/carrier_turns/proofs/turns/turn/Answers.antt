use Rattle.std.specs.Prelude.{is_some}
use Rattle.std.proofs.Common.{ap, sym, ◌∙◌}
use Rattle.carrier_turns.proofs.TurnLaws.{over_turn}
use Rattle.carrier_turns.proofs.turns.turn.Goals as goal

pub returns-then-is_some-clause-turn : goal.returns-then-is_some-clause-turn
returns-then-is_some-clause-turn c =
    over_turn c.args.machine.now c.args.carrier c.args.now c.args.hand.now (ap is_some (sym c.ending.ensures) ∙ sym c.is_some.ensures ∙ c.if-is_some.true) c.requires.done
