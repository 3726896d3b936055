use Rattle.std.proofs.Common.{sym}
use Rattle.invocation.proofs.InvocationLaws.{static_named}
use Rattle.invocation.proofs.invocations.static_callee.Goals as goal

pub returns-in-Code-clause-callee : goal.returns-in-Code-clause-callee
returns-in-Code-clause-callee g c =
    static_named (g.W.EventWorld.world c.args.world.now) c.args.resolution.now c.in_ok-n.n c.in_ok-method.method c.in-Code.callee
    (sym c.in_ok-n.ensures) c.in_ok-method.ensures.number c.in_ok-method.ensures.named c.in-Code.is
