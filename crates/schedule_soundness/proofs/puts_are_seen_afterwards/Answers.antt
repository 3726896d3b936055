use Rattle.schedule_soundness.proofs.Stalls.{steps_put, ticks_put}
use Rattle.schedule_soundness.proofs.puts_are_seen_afterwards.Goals as goal

pub returns-clause-steps : goal.returns-clause-steps
returns-clause-steps c = λ p first q v a k t n pick may e goes. steps_put p first q v a k t n pick may e goes

pub returns-clause-ticks : goal.returns-clause-ticks
returns-clause-ticks c = λ p first q v a k now may e goes. ticks_put p first q v a k now may e goes
