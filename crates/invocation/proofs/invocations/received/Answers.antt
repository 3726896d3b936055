use Rattle.invocation.proofs.InvocationLaws.{fits_is_received}
use Rattle.invocation.proofs.invocations.received.Goals as goal

pub returns-in-Some-clause-target : goal.returns-in-Some-clause-target
returns-in-Some-clause-target g c =
    let w = g.W.EventWorld.world c.args.world.now in
    fits_is_received w c.args.receiver c.args.n c.args.slots c.in-Some.target (c.in-Some.ensures w c.requires)

pub returns-in-Some-clause-takes : goal.returns-in-Some-clause-takes
returns-in-Some-clause-takes g c =
    let fits = c.in-Some.ensures (g.W.EventWorld.world c.args.world.now) c.requires in
    fits.takes
