use Rattle.std.proofs.Common.{sym, ap, ◌∙◌}
use Rattle.std.specs.Option.{option_copied}
use Rattle.startup.proofs.FrameLaws.{frame_pushed}
use Rattle.startup.proofs.first_frames.push_frame.Goals as goal

pub returns-in-Ok-clause-frames : goal.returns-in-Ok-clause-frames
returns-in-Ok-clause-frames c =
    frame_pushed c.args.program.now c.args.method c.in-Some.code.now c.args.mounted.now.stack.frames c.push_frame.new.self.stack.frames
    (sym c.code.ensures.code ∙ ap option_copied c.in-Some.is) c.in-Ok.ensures.ok
