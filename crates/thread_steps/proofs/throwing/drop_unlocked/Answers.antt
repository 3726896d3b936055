use Rattle.std.proofs.Common.{subst}
use Rattle.invocation.specs.FrameSteps.{IsDropped}
use Rattle.thread_steps.proofs.ReturnLaws.{unlocked_dropped}
use Rattle.thread_steps.proofs.throwing.drop_unlocked.Goals as goal

pub returns-then-drop_frame : goal.returns-then-drop_frame
returns-then-drop_frame g c =
    let w = g.W.EventWorld.world c.args.world.now in
    unlocked_dropped w c.args.parts.now c.args.thread c.args.name c.args.class c.args.mounted.now c.drop_frame.new.mounted
    (subst (IsDropped w c.args.mounted.now c.drop_frame.new.mounted) c.if-drop_frame.true c.drop_frame.ensures.dropped)
