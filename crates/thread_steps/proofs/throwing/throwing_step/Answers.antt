use Rattle.std.proofs.Common.{arith}
use Rattle.thread_steps.proofs.ReturnLaws.{handled_steps, left_steps, uncaught_steps}
use Rattle.thread_steps.proofs.throwing.throwing_step.Goals as goal

pub returns-in_ok-end_uncaught-in-Uncaught : goal.returns-in_ok-end_uncaught-in-Uncaught
returns-in_ok-end_uncaught-in-Uncaught g c =
    let w = g.W.EventWorld.world c.args.world.now in
    uncaught_steps w c.args.parts.now c.end_uncaught.new.parts c.args.thread c.args.name c.args.o c.in-Some.class c.args.mounted.now.stack.frames c.end_uncaught.new.mounted.stack.frames
    c.in-Some.ensures c.in-Uncaught.ensures.caught.0 c.in-Uncaught.ensures.caught.1.root c.in-Uncaught.ensures.caught.1.plain c.in_ok-end_uncaught-in-Uncaught.ensures

pub returns-in-Handled : goal.returns-in-Handled
returns-in-Handled g c =
    handled_steps (g.W.EventWorld.world c.args.world.now) c.args.parts.now c.args.thread c.args.name c.args.o c.in-Some.class c.args.mounted.now c.catch_object.new.mounted
    c.in-Some.ensures c.in-Handled.ensures.caught

pub returns-in-Left : goal.returns-in-Left
returns-in-Left g c =
    left_steps (g.W.EventWorld.world c.args.world.now) c.args.parts.now c.args.thread c.args.name c.args.o c.in-Some.class c.args.mounted.now c.catch_object.new.mounted
    c.in-Some.ensures (omega (arith, c.requires)) c.in-Left.ensures.caught.0 c.in-Left.ensures.caught.1
