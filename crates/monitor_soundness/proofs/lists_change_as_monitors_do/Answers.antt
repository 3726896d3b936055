use Rattle.monitor_soundness.proofs.ListLaws.{notify_all_moves_all, notify_moves_the_first, other_steps_keep_lists, who_enters_leaves_the_line, who_lines_up_is_last, who_waits_is_last, whose_wait_ends_is_last}
use Rattle.monitor_soundness.proofs.lists_change_as_monitors_do.Goals as goal

pub returns-clause-line_up : goal.returns-clause-line_up
returns-clause-line_up c = λ w r q s u o listed others free at. who_lines_up_is_last w r q s u o listed others free at

pub returns-clause-enter : goal.returns-clause-enter
returns-clause-enter c = λ w r q s u o listed others at free. who_enters_leaves_the_line w r q s u o listed others at free

pub returns-clause-wait : goal.returns-clause-wait
returns-clause-wait c = λ w r q s u o listed others free at. who_waits_is_last w r q s u o listed others free at

pub returns-clause-wait_ends : goal.returns-clause-wait_ends
returns-clause-wait_ends c = λ w r q s u o listed others was at. whose_wait_ends_is_last w r q s u o listed others was at

pub returns-clause-notify : goal.returns-clause-notify
returns-clause-notify c = λ w r q s u o listed others first at. notify_moves_the_first w r q s u o listed others first at

pub returns-clause-notify_all : goal.returns-clause-notify_all
returns-clause-notify_all c = λ w r q s o listed moves. notify_all_moves_all w r q s o listed moves

pub returns-clause-others : goal.returns-clause-others
returns-clause-others c = λ w r q s u o listed others was is. other_steps_keep_lists w r q s u o listed others was is
