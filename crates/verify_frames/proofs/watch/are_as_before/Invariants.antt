-- All of them were so, if those that are left were.
use Rattle.std.proofs.Common.{length}
use Rattle.verify_frames.specs.Overwrites.{AllWere}
use Rattle.verify_frames.proofs.watch.are_as_before.Given as goal

abbrev pub invariant-loop-o : goal.invariant-loop-o
invariant-loop-o l = AllWere l.locals l.rest → AllWere l.locals l.objects

abbrev pub decreases-loop-o : goal.decreases-loop-o
decreases-loop-o l = length l.rest
