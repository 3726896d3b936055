use Rattle.carrier_turns.proofs.NewHandLaws.{AreReady}
use Rattle.carrier_turns.proofs.plays.new_hands.Given as goal

abbrev pub invariant-loop : goal.invariant-loop
invariant-loop l = record {
  ready : AreReady l.machine l.hands.items l.counter;
}
