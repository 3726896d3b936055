use Rattle.ref_run.proofs.LeaveLaws.{frame_returns}
use Rattle.ref_run.proofs.StepLaws.{taken_frames}
use Rattle.ref_run.proofs.returning.return_frame.Goals as goal

pub return_unlocked-requires-clause-operands : goal.return_unlocked-requires-clause-operands
return_unlocked-requires-clause-operands g c =
    let frames = c.in_ok-mounted.mounted.stack.frames in
    c.requires frames (taken_frames c.args.state.now c.take_frames.new.state c.args.t frames c.in_ok-mounted.ensures)

pub returns : goal.returns
returns g c =
    let w = g.W.EventWorld.world c.args.world.now in
    frame_returns w c.args.state.now c.take_frames.new.state c.put_frames.new.state c.args.t c.args.kind c.in_ok-mounted.mounted.stack.frames c.return_unlocked.new.mounted.stack.frames
    c.return_unlocked.new.parts c.in_ok-mounted.ensures c.put_frames.ensures c.in_ok-return_unlocked.ensures

pub return_unlocked-requires-clause-frame : goal.return_unlocked-requires-clause-frame
return_unlocked-requires-clause-frame g c = c.in_ok-mounted.ensures.some
