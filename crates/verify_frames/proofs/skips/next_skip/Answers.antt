use Rattle.std.proofs.Common.{length}
use Rattle.type_paths.proofs.PathLaws.{above_top, above_twice}
use Rattle.verify_frames.proofs.skips.next_skip.Goals as goal

pub returns-else-skip : goal.returns-else-skip
returns-else-skip c = λ h.
    let ps = c.args.paths.now in
    let n = length c.args.skips.now in
    above_twice ps n c.in-Some.top.below c.skip_from-skip.result (above_top ps n c.in-Some.top c.in-Some.ensures) (c.skip_from-skip.ensures ps h)
