use Rattle.std.proofs.Common.{◌≡◌, length}
use Rattle.verify_frames.specs.Near.{merged}
use Rattle.verify_frames.proofs.near.add_others.Given as goal

abbrev pub invariant-loop-o : goal.invariant-loop-o
invariant-loop-o l = merged l.types.items l.rest ≡ merged l.fn.types.items l.overwritten

abbrev pub decreases-loop-o : goal.decreases-loop-o
decreases-loop-o l = length l.rest
