use Rattle.carrier_turns.proofs.TimedTurnLaws.{off_in_time}
use Rattle.carrier_turns.proofs.acts.go_on.Goals as goal

pub returns-then-is_off-clause-in_time : goal.returns-then-is_off-clause-in_time
returns-then-is_off-clause-in_time c = λ wants.
    off_in_time c.args.machine.now c.args.carrier c.args.thread c.args.least c.args.hand.now c.requires.may c.requires.mounted (c.is_off.ensures.off c.if-is_off.true)
