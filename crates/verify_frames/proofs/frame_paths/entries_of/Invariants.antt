use Rattle.std.proofs.Common.{length}
use Rattle.verify_frames.proofs.FrameLaws.{Built}
use Rattle.verify_frames.proofs.frame_paths.entries_of.Given as goal

abbrev pub invariant-loop-change : goal.invariant-loop-change
invariant-loop-change g l = Built (g.L.Lookups.world l.w) l.class l.first l.changes l.paths l.entries.items l.locals l.rest

abbrev pub decreases-loop-change : goal.decreases-loop-change
decreases-loop-change g l = length l.rest
