use Rattle.program_state.proofs.WakeLaws.{idle_status, unpark_idle, unpark_wakes}
use Rattle.program_state.proofs.wake_requests.unpark.Goals as goal

pub returns-clause-answers : goal.returns-clause-answers
returns-clause-answers c w =
    unpark_wakes w c.args.t c.args.u c.args.state.now c.unpark.new.self c.in_ok-row.row c.in-Live.phase c.woken_thread.result c.in_ok-row.ensures c.in-Live.is c.unpark.ensures
    c.woken_thread.ensures

pub returns-in_default-clause-answers : goal.returns-in_default-clause-answers
returns-in_default-clause-answers c w = unpark_idle w c.args.t c.args.u c.args.state.now c.in_ok-row.row c.in_ok-row.ensures (idle_status (c.in_ok-row.row).status c.in_default.not-Live)
