use Rattle.verify_types.proofs.KindLaws.{kept, fits_kept}
use Rattle.verify_types.proofs.laws.kinds_are_kept.Goals as goal

pub returns-clause-types : goal.returns-clause-types
returns-clause-types c = λ w a b e. kept w a b e

pub returns-clause-states : goal.returns-clause-states
returns-clause-states c = λ w a b contents e h. fits_kept w a b e contents h
