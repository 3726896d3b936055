-- What is left of them fits where all do, and the state fits the last.
use Rattle.std.proofs.Common.{◌≡◌, length}
use Rattle.std.specs.List.{list_all}
use Rattle.instruction_rows.specs.Switches.{match_target}
use Rattle.verify_types.specs.Faults.{fits_target}
use Rattle.verify_frames.specs.KnownStates.{MayFit, type_state}
use Rattle.verify_code.proofs.environment.Environment.fits_matches.Given as goal

abbrev pub invariant-loop-m : goal.invariant-loop-m
invariant-loop-m g l =
    (list_all (λ m. fits_target l.self (type_state l.s) (match_target m)) l.matches ≡ list_all (λ m. fits_target l.self (type_state l.s) (match_target m)) l.rest)
    × MayFit l.self (type_state l.s) l.fitted

abbrev pub decreases-loop-m : goal.decreases-loop-m
decreases-loop-m g l = length l.rest
