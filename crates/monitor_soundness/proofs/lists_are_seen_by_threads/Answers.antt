use Rattle.monitor_soundness.proofs.ListLaws.{one_moves_in_lists, steps_move_one, steps_move_one_beside}
use Rattle.monitor_soundness.proofs.lists_are_seen_by_threads.Goals as goal

pub returns-clause-stays : goal.returns-clause-stays
returns-clause-stays c = λ w r q t others. steps_move_one w r q t others

pub returns-clause-beside : goal.returns-clause-beside
returns-clause-beside c = λ w r q t u others own. steps_move_one_beside w r q t u others own

pub returns-clause-one : goal.returns-clause-one
returns-clause-one c = λ w r q s u o listed others. one_moves_in_lists w r q s u o listed others
