-- So it is of those up to this one.
use Rattle.std.proofs.Common.{ℕ, ◌<◌, get_or}
use Rattle.type_paths.specs.Paths.{path}
use Rattle.verify_frames.specs.Skips.{TakesAt}
use Rattle.verify_frames.proofs.takes.takes_all.Given as goal

abbrev pub invariant-loop-slot : goal.invariant-loop-slot
invariant-loop-slot g l = (k d : ℕ) → k < l.slot-index → TakesAt (g.L.Lookups.world l.w) (path l.paths l.from) l.locals (get_or l.slots k d)
