use Rattle.schedule_soundness.proofs.Histories.{in_one_place, mounted_in_no_deque, deques_have_live}
use Rattle.schedule_soundness.proofs.Placed.{placed_were_started}
use Rattle.schedule_soundness.proofs.threads_are_in_one_place.Goals as goal

pub returns-clause-once : goal.returns-clause-once
returns-clause-once c = λ p first v a t. in_one_place p first v a t

pub returns-clause-mounted : goal.returns-clause-mounted
returns-clause-mounted c = λ p first v a t on. mounted_in_no_deque p first v a t on

pub returns-clause-deques : goal.returns-clause-deques
returns-clause-deques c = λ p first v a goes t there. deques_have_live p first v a goes t there

pub returns-clause-started : goal.returns-clause-started
returns-clause-started c = λ p first v a t there. placed_were_started p first v a t there
