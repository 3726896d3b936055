use Rattle.carrier_turns.specs.Plays.{GoesOnFrom, HandsFit}
use Rattle.carrier_turns.proofs.plays.play.Given as goal

abbrev pub invariant-loop-turn : goal.invariant-loop-turn
invariant-loop-turn l = record {
  hands : HandsFit l.machine l.hands;
  grown : GoesOnFrom l.fn.machine l.machine;
}
