use Rattle.carrier_turns.proofs.NewHandLaws.{next_ready}
use Rattle.carrier_turns.proofs.plays.new_hands.Goals as goal

pub loop-preserved : goal.loop-preserved
loop-preserved c = record {
  ready = next_ready c.args.machine.now c.loop.hands.items c.push.new.self.items c.in_ok-new.field-0 c.loop.counter c.carriers-end.result c.requires.idle
      c.loop.invariant.ready c.in_ok-push.ensures.items c.loop-test.true c.carriers-end.ensures c.in_ok-new.ensures.fits c.in_ok-new.ensures.done;
}
