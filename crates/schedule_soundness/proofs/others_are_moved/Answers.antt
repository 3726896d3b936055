use Rattle.schedule_soundness.proofs.AloneLaws.{starts_nobody}
use Rattle.schedule_soundness.proofs.OtherMoves.{time_moves}
use Rattle.schedule_soundness.proofs.Steps.{step_moves}
use Rattle.schedule_soundness.proofs.others_are_moved.Goals as goal

pub returns-clause-steps : goal.returns-clause-steps
returns-clause-steps c = λ p r q t u pick e ne. (step_moves p r q t pick e).stepped.moves.others u ne

pub returns-clause-starts : goal.returns-clause-starts
returns-clause-starts c = λ p r q t u pick e off ne was. starts_nobody p r q t pick e off u ne was

pub returns-clause-time : goal.returns-clause-time
returns-clause-time c = λ w r q u now e. time_moves w r q u now e
