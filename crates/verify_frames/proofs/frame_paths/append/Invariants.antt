use Rattle.std.proofs.Common.{length}
use Rattle.verify_frames.proofs.FramePathLaws.{PutOn}
use Rattle.verify_frames.proofs.frame_paths.append.Given as goal

abbrev pub invariant-loop-t : goal.invariant-loop-t
invariant-loop-t g l = PutOn (g.L.Lookups.world l.w) l.class l.fn.paths l.from l.types l.paths l.node l.rest

abbrev pub decreases-loop-t : goal.decreases-loop-t
decreases-loop-t g l = length l.rest
