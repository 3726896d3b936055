use Rattle.verify_frames.proofs.SkipLaws.{skip_more}
use Rattle.verify_frames.proofs.skips.skips_of.Goals as goal

pub loop-preserved : goal.loop-preserved
loop-preserved c =
    skip_more c.args.paths.now c.deref.result.now c.loop.skips.items c.push-in-loop.new.self.items c.in-Some.skip c.deref.ensures.value c.in-Some.ensures c.in_ok-push-2.ensures.items c.loop.invariant
