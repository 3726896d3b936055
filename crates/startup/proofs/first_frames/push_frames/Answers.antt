use Rattle.std.proofs.Common.{◌-◌, get_or, refl, ◌∙◌, arith}
use Rattle.startup.proofs.FrameLaws.{frames_more}
use Rattle.startup.proofs.first_frames.push_frames.Goals as goal

pub loop-i-preserved : goal.loop-i-preserved
loop-i-preserved c =
    let methods = c.args.methods.now in
    let j = c.loop-i.i - 1 in
    let pushed = c.in_ok-push_frame.ensures in (
      omega arith,
      frames_more c.args.program.now methods c.loop-i.i j (get_or methods j 0) c.args.mounted.now.stack.frames c.loop-i.mounted.stack.frames
          c.push_frame.new.mounted.stack.frames (omega arith) (omega arith) refl c.loop-i.invariant.1 pushed.frames,
      pushed.thread ∙ c.loop-i.invariant.2,
    )
