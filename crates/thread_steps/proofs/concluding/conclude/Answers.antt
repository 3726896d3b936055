use Rattle.thread_steps.proofs.ThrowLaws.{on_ok}
use Rattle.thread_steps.proofs.EventLaws.{ended_otherwise}
use Rattle.thread_steps.proofs.concluding.conclude.Goals as goal

pub returns-in_default : goal.returns-in_default
returns-in_default g c =
    on_ok c.conclude_otherwise.result c.conclude_otherwise.ensures
    (ended_otherwise (g.W.EventWorld.world c.args.world.now) c.args.next c.args.outcome c.args.parts.now c.conclude_otherwise.new.parts c.args.mounted.now.stack.frames)
