use Rattle.std.proofs.Common.{refl}
use Rattle.carrier_turns.proofs.PlayLaws.{hand_there, hands_fit}
use Rattle.carrier_turns.proofs.plays.play_one.Goals as goal

pub turn_and_do-requires-clause-hand : goal.turn_and_do-requires-clause-hand
turn_and_do-requires-clause-hand c =
    hand_there c.args.machine.now c.args.hands.now c.args.at.carrier c.index-hands-at.result c.requires.hands c.requires.below

pub returns-clause-hands : goal.returns-clause-hands
returns-clause-hands c =
    hands_fit c.args.machine.now c.turn_and_do.new.machine c.args.at.carrier c.args.at.now c.args.hands.now _ _ c.turn_and_do.new.hand c.turn_and_do.result c.is_legal.ensures
    c.requires.hands refl c.turn_and_do.ensures.turn c.turn_and_do.ensures.hand
