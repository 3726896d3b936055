use Rattle.schedule_model.proofs.PlaceLaws.{in_deques_loose, in_no_deque, one_place}
use Rattle.schedule_model.proofs.threads_are_in_one_place.Goals as goal

pub returns-clause-once : goal.returns-clause-once
returns-clause-once g c = λ m. one_place m

pub returns-clause-apart : goal.returns-clause-apart
returns-clause-apart g c = λ m. in_no_deque m

pub returns-clause-loose : goal.returns-clause-loose
returns-clause-loose g c = λ m. in_deques_loose m
