-- What all of them keep, those that are left keep.
use Rattle.std.proofs.Common.{ℕ, List, length}
use Rattle.std.specs.List.{All}
use Rattle.verify_types.specs.TypeStates.{TypeState}
use Rattle.verify_frames.specs.KnownStates.{FitsBut}
use Rattle.verify_code.proofs.environment.Environment.among.Given as goal

abbrev pub invariant-loop-other : goal.invariant-loop-other
invariant-loop-other g l = (s : TypeState) (slots : List ℕ) → All (FitsBut l.self slots s) l.pcs → All (FitsBut l.self slots s) l.rest

abbrev pub decreases-loop-other : goal.decreases-loop-other
decreases-loop-other g l = length l.rest
