use Rattle.std.proofs.Common.{sym, ◌∙◌}
use Rattle.invocation.proofs.InvocationLaws.{fits_is_received}
use Rattle.invocation.proofs.invocations.received_anew.Goals as goal

pub returns-clause-target : goal.returns-clause-target
returns-clause-target g c =
    let w = g.W.EventWorld.world c.args.world.now in
    fits_is_received w c.args.receiver c.args.n c.args.slots c.in_ok-target.target
    (record { instance = sym c.is_sub.ensures ∙ c.if-not-is_sub.false; selected = c.in_ok-target.ensures.selected; takes = c.in_ok-target.ensures.takes; native = c.in_ok-target.ensures.native })
