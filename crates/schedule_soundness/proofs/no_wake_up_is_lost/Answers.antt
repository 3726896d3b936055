use Rattle.schedule_soundness.proofs.Histories.{no_wake_up_is_lost, lists_have_theirs}
use Rattle.schedule_soundness.proofs.no_wake_up_is_lost.Goals as goal

pub returns-clause-woken : goal.returns-clause-woken
returns-clause-woken c = λ p first v a goes. no_wake_up_is_lost p first v a goes

pub returns-clause-lists : goal.returns-clause-lists
returns-clause-lists c = λ p first v a goes. lists_have_theirs p first v a goes
