use Rattle.std.proofs.Common.{arith, sym, refl}
use Rattle.invocation.proofs.SynchronizedLaws.{asks_so, deep_throws}
use Rattle.invocation.proofs.synchronized_calls.ask_for_monitor.Goals as goal

pub returns : goal.returns
returns g c =
    asks_so (g.W.EventWorld.world c.args.world.now) c.args.callee c.args.mounted.now (record { callee = c.args.callee; monitor = c.in-Some-method_monitor.monitor })
    c.in-Some.method.now refl (omega (arith, c.if-depth-ge-MOST_FRAMES.false, c.depth.ensures.depth)) c.requires (omega (arith, c.if-callee.false)) (sym c.in-Some.ensures) c.in-Some-method_monitor.ensures

pub returns-then-depth-ge-MOST_FRAMES : goal.returns-then-depth-ge-MOST_FRAMES
returns-then-depth-ge-MOST_FRAMES g c =
    deep_throws (g.W.EventWorld.world c.args.world.now) c.args.callee c.args.mounted.now (omega (arith, c.if-depth-ge-MOST_FRAMES.true, c.depth.ensures.depth))
