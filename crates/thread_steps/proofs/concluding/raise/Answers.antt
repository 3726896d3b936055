use Rattle.thread_steps.proofs.ThrowLaws.{raised_is}
use Rattle.thread_steps.proofs.concluding.raise.Goals as goal

pub returns : goal.returns
returns g c =
    raised_is (g.W.EventWorld.world c.args.world.now) c.args.parts.now c.make_exception.new.heap c.args.exception c.in_ok-o.o c.in_ok-o.ensures
