use Rattle.std.proofs.Common.{sym, ◌∙◌}
use Rattle.program_state.specs.Monitors.{spot_in}
use Rattle.program_state.proofs.InterruptLaws.{interrupt_ends}
use Rattle.program_state.proofs.SeatLaws.{left_moves}
use Rattle.program_state.proofs.WakeLaws.{idle_status, interrupt_idle, interrupt_wakes}
use Rattle.program_state.proofs.wake_requests.interrupt.Goals as goal

pub returns-then-is_waiting-clause-answers : goal.returns-then-is_waiting-clause-answers
returns-then-is_waiting-clause-answers c w =
    interrupt_ends w c.args.t c.args.u c.args.state.now c.interrupt.new.self c.end_monitor_wait.new.monitors c.end_monitor_wait.new.threads c.clear_timer.new.wheel c.clear_timer.new.keys
    c.in_ok-row.row c.in-Live.phase c.woken_thread.result c.in_ok-row.ensures c.in-Live.is (sym c.is_waiting.ensures ∙ c.if-is_waiting.true) c.in_ok-clear_timer.ensures c.end_monitor_wait.ensures
    c.interrupt.ensures c.woken_thread.ensures

pub returns-then-is_waiting-clause-lists : goal.returns-then-is_waiting-clause-lists
returns-then-is_waiting-clause-lists c =
    left_moves c.args.u (spot_in c.args.state.now.threads c.args.u) c.args.state.now.monitors c.end_monitor_wait.new.monitors c.end_monitor_wait.ensures.monitors

pub returns-clause-answers : goal.returns-clause-answers
returns-clause-answers c w =
    interrupt_wakes w c.args.t c.args.u c.args.state.now c.interrupt.new.self c.in_ok-row.row c.in-Live.phase c.woken_thread-2.result c.in_ok-row.ensures c.in-Live.is
    (sym c.is_waiting.ensures ∙ c.if-is_waiting.false) c.interrupt.ensures c.woken_thread-2.ensures

pub returns-in_default-clause-answers : goal.returns-in_default-clause-answers
returns-in_default-clause-answers c w = interrupt_idle w c.args.t c.args.u c.args.state.now c.in_ok-row.row c.in_ok-row.ensures (idle_status (c.in_ok-row.row).status c.in_default.not-Live)
