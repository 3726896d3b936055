use Rattle.schedule_model.proofs.WordLaws.{first_in_line_runs, lists_stay, nobody_is_put, one_is_put}
use Rattle.schedule_model.proofs.puts_are_told_in_plain_words.Goals as goal

pub returns-clause-first : goal.returns-clause-first
returns-clause-first c = first_in_line_runs

pub returns-clause-nobody : goal.returns-clause-nobody
returns-clause-nobody c = nobody_is_put

pub returns-clause-one : goal.returns-clause-one
returns-clause-one c = one_is_put

pub returns-clause-lists : goal.returns-clause-lists
returns-clause-lists c = lists_stay
