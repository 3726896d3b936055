use Rattle.schedule_model.proofs.PlaceLaws.{none_lost, lists_have}
use Rattle.schedule_model.proofs.no_wake_up_is_lost.Goals as goal

pub returns-clause-woken : goal.returns-clause-woken
returns-clause-woken g c = λ m. none_lost m

pub returns-clause-lists : goal.returns-clause-lists
returns-clause-lists g c = λ m. lists_have m
