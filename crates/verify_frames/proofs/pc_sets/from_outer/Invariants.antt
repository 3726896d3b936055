-- The ranges that are left are a part of them.
use Rattle.std.proofs.Common.{length}
use Rattle.verify_frames.specs.PcSets.{Covers}
use Rattle.verify_frames.proofs.pc_sets.from_outer.Given as goal

abbrev pub invariant-loop-first : goal.invariant-loop-first
invariant-loop-first l = Covers l.outer l.rest

abbrev pub decreases-loop-first : goal.decreases-loop-first
decreases-loop-first l = length l.rest
