use Rattle.monitor_soundness.proofs.ListLaws.{listed_are_in_line, steps_keep_lists, ticks_keep_lists}
use Rattle.monitor_soundness.proofs.lists_keep_their_threads.Goals as goal

pub returns-clause-steps : goal.returns-clause-steps
returns-clause-steps c = λ w r q s k t yields listed. steps_keep_lists w r q s k t yields listed

pub returns-clause-ticks : goal.returns-clause-ticks
returns-clause-ticks c = λ w r q s k listed. ticks_keep_lists w r q s k listed

pub returns-clause-in_line : goal.returns-clause-in_line
returns-clause-in_line c = λ l s o listed. listed_are_in_line l s o listed
