use Rattle.std.proofs.Common.{subst}
use Rattle.invocation.specs.FrameSteps.{IsDropped}
use Rattle.thread_steps.proofs.ReturnLaws.{unowned_dropped, unowned_uncaught}
use Rattle.thread_steps.proofs.ThrowLaws.{on_ok}
use Rattle.thread_steps.proofs.throwing.throw_unowned.Goals as goal

pub returns-then-drop_frame : goal.returns-then-drop_frame
returns-then-drop_frame g c =
    let w = g.W.EventWorld.world c.args.world.now in
    unowned_dropped w c.args.parts.now c.make_exception.new.heap c.args.thread c.args.name c.in_ok-o.o c.args.mounted.now c.drop_frame.new.mounted c.in_ok-o.ensures
    (subst (IsDropped w c.args.mounted.now c.drop_frame.new.mounted) c.if-drop_frame.true c.drop_frame.ensures.dropped)

pub returns : goal.returns
returns g c =
    let w = g.W.EventWorld.world c.args.world.now in
    let dropped = subst (IsDropped w c.args.mounted.now c.drop_frame.new.mounted) c.if-drop_frame.false c.drop_frame.ensures.dropped in
    on_ok c.end_uncaught.result c.end_uncaught.ensures
    (unowned_uncaught w c.args.parts.now c.end_uncaught.new.parts c.make_exception.new.heap c.args.thread c.args.name c.in_ok-o.o c.in-Some.class
    c.args.mounted.now.stack.frames c.end_uncaught.new.mounted.stack.frames c.in_ok-o.ensures c.in-Some.ensures dropped.0)
