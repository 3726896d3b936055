use Rattle.std.proofs.Common.{◌≡◌, length}
use Rattle.verify_frames.specs.Overwrites.{noting_all}
use Rattle.verify_frames.proofs.overwritten.note_all.Given as goal

abbrev pub invariant-loop-slot : goal.invariant-loop-slot
invariant-loop-slot l = noting_all l.locals l.rest l.overwritten.items ≡ noting_all l.locals l.slots l.fn.overwritten.items

abbrev pub decreases-loop-slot : goal.decreases-loop-slot
decreases-loop-slot l = length l.rest
