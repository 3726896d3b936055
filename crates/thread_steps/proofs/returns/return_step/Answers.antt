use Rattle.std.proofs.Common.{subst}
use Rattle.continuation.specs.Continuation.{Continuation}
use Rattle.thread_steps.specs.Returning.{LeavesRoot}
use Rattle.thread_steps.proofs.AskingLaws.{quiet_stays, stepped_return}
use Rattle.thread_steps.proofs.ReturnLaws.{returned_steps, root_steps}
use Rattle.thread_steps.proofs.returns.return_step.Goals as goal

pub returns-in-Returned-clause-progress : goal.returns-in-Returned-clause-progress
returns-in-Returned-clause-progress g c =
    let w = g.W.EventWorld.world c.args.world.now in
    let a = c.args.parts.now in
    let frames = c.args.mounted.now.stack.frames in
    let after = c.leave.new.mounted.stack.frames in
    stepped_return w c.args.kind c.args.progress.now a a frames after c.requires.nothing
    (returned_steps w a c.args.kind frames after c.in-Returned.ensures.left)

pub returns-in-Returned-clause-stays : goal.returns-in-Returned-clause-stays
returns-in-Returned-clause-stays g c = quiet_stays c.args.progress.now c.args.mounted.now c.leave.new.mounted c.requires.nothing

pub returns-in-Root-clause-progress : goal.returns-in-Root-clause-progress
returns-in-Root-clause-progress g c =
    let w = g.W.EventWorld.world c.args.world.now in
    let a = c.args.parts.now in
    let b = c.leave_root.new.parts in
    let frames = c.args.mounted.now.stack.frames in
    let after = c.leave_root.new.mounted.stack.frames in
    stepped_return w c.args.kind c.args.progress.now a b frames after c.requires.nothing
    (root_steps w a b c.args.kind frames after c.in-Root.ensures.left.root c.in-Root.ensures.left.plain
    (subst (λ (m : Continuation). LeavesRoot a m.stack.frames b after) c.in-Root.ensures.left.same c.leave_root.ensures))

pub returns-in-Root-clause-stays : goal.returns-in-Root-clause-stays
returns-in-Root-clause-stays g c = quiet_stays c.args.progress.now c.args.mounted.now c.leave_root.new.mounted c.requires.nothing
