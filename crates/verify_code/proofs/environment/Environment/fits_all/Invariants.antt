-- What is left of them fits where all do, and the state fits the last.
use Rattle.std.proofs.Common.{◌≡◌, length}
use Rattle.std.specs.List.{list_all}
use Rattle.verify_types.specs.Faults.{fits_target}
use Rattle.verify_frames.specs.KnownStates.{MayFit, type_state}
use Rattle.verify_code.proofs.environment.Environment.fits_all.Given as goal

abbrev pub invariant-loop-target : goal.invariant-loop-target
invariant-loop-target g l =
    (list_all (fits_target l.self (type_state l.s)) l.targets ≡ list_all (fits_target l.self (type_state l.s)) l.rest)
    × MayFit l.self (type_state l.s) l.fitted

abbrev pub decreases-loop-target : goal.decreases-loop-target
decreases-loop-target g l = length l.rest
