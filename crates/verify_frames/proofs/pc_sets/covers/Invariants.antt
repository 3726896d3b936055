-- What is left of the others is a part of them, and where they cover the ranges that are left, they cover all.
use Rattle.std.proofs.Common.{length}
use Rattle.verify_frames.specs.PcSets.{Covers}
use Rattle.verify_frames.proofs.pc_sets.covers.Given as goal

abbrev pub invariant-loop-span : goal.invariant-loop-span
invariant-loop-span l = Covers l.outer l.rest × (Covers l.outer l.left → Covers l.outer l.spans)

abbrev pub decreases-loop-span : goal.decreases-loop-span
decreases-loop-span l = length l.left
