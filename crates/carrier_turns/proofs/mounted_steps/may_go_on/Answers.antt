use Rattle.carrier_turns.proofs.ActLaws.{may_go}
use Rattle.carrier_turns.proofs.mounted_steps.may_go_on.Goals as goal

pub returns : goal.returns
returns c = may_go c.args.machine.now c.args.carrier c.args.thread c.args.hand.now c.requires.may c.requires.mounted c.requires.enabled
