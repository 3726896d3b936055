use Rattle.program_state.proofs.StepLaws.{if_ok}
use Rattle.program_state.specs.Waiting.{EndsWait, IsWakeTaken}
use Rattle.program_state.proofs.WaitEndLaws.{wait_ended}
use Rattle.program_state.proofs.waits.end_wait.Goals as goal

pub returns-clause-ends : goal.returns-clause-ends
returns-clause-ends c =
    let a = c.args.state.now in
    let t = c.args.t in
    let phase = c.in_ok-phase.phase in
    let flags = c.take_wake.new.wakes in
    let table = c.set_status.new.threads in
    let wheel = c.clear_timer.new.wheel in
    let keys = c.clear_timer.new.keys in
    if_ok (λ interrupted. IsWakeTaken t phase interrupted a.wakes flags) (EndsWait t a (record a { threads = table; wakes = flags; wheel = wheel; keys = keys })) c.take_wake.result c.take_wake.ensures
    (λ interrupted taken. wait_ended a table flags wheel keys t phase interrupted c.in_ok-phase.ensures c.in_ok-set_status.ensures c.in_ok-clear_timer.ensures taken)
