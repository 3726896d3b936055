use Rattle.thread_steps.proofs.ReturnLaws.{unlocked_returned}
use Rattle.thread_steps.proofs.returns.return_unlocked.Goals as goal

pub returns-in-Returned : goal.returns-in-Returned
returns-in-Returned g c =
    unlocked_returned (g.W.EventWorld.world c.args.world.now) c.args.parts.now c.args.kind c.args.mounted.now c.return_unlocked.new.mounted c.in-Returned.ensures.left
