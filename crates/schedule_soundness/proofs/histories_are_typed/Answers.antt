use Rattle.schedule_soundness.proofs.TypedHistories.{histories_are_typed, frames_are_typed, linked_programs_are_such}
use Rattle.schedule_soundness.proofs.histories_are_typed.Goals as goal

pub returns-clause-states : goal.returns-clause-states
returns-clause-states c = λ p first carriers history v is begins e. histories_are_typed p first carriers history v is begins e

pub returns-clause-frames : goal.returns-clause-frames
returns-clause-frames c = λ p first carriers history v t frames is begins e at. frames_are_typed p first carriers history v t frames is begins e at

pub returns-clause-linked : goal.returns-clause-linked
returns-clause-linked c = λ program main limits links has typed is. linked_programs_are_such program main limits links has typed is
