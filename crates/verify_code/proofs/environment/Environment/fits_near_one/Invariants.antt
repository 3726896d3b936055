-- What all of them keep, those that are left keep.
use Rattle.std.proofs.Common.{length}
use Rattle.std.specs.List.{All}
use Rattle.verify_frames.specs.KnownStates.{AllFit, FitsBut, type_state}
use Rattle.verify_code.proofs.environment.Environment.fits_near_one.Given as goal

abbrev pub invariant-loop-other : goal.invariant-loop-other
invariant-loop-other g l = AllFit l.self (type_state l.s) l.fitted → All (FitsBut l.self l.fitted.changed.items (type_state l.s)) l.rest

abbrev pub decreases-loop-other : goal.decreases-loop-other
decreases-loop-other g l = length l.rest
