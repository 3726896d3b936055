use Rattle.carrier_turns.proofs.PlayLaws.{turn_below}
use Rattle.carrier_turns.proofs.plays.play.Goals as goal

pub play_one-requires-clause-below : goal.play_one-requires-clause-below
play_one-requires-clause-below c =
    turn_below c.args.machine.now c.loop-turn.machine c.args.turns.now c.loop-turn.turn-index _ c.requires.turns c.loop-turn.invariant.grown c.loop-turn-test.true
