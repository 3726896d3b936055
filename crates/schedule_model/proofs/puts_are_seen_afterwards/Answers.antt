use Rattle.schedule_model.proofs.PlaceLaws.{steps_put, ticks_put}
use Rattle.schedule_model.proofs.puts_are_seen_afterwards.Goals as goal

pub returns-clause-steps : goal.returns-clause-steps
returns-clause-steps g c = λ m. steps_put m

pub returns-clause-ticks : goal.returns-clause-ticks
returns-clause-ticks g c = λ m. ticks_put m
