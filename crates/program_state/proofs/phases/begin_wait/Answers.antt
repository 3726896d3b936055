use Rattle.std.proofs.Common.{Option, ℕ, subst}
use Rattle.program_state.specs.Deadlines.{later_than}
use Rattle.program_state.specs.Timers.{IsTimerSet}
use Rattle.program_state.proofs.StepLaws.{on_ok}
use Rattle.program_state.proofs.ReplyLaws.{wait_begun}
use Rattle.program_state.proofs.phases.begin_wait.Goals as goal

pub returns-clause-waits : goal.returns-clause-waits
returns-clause-waits c =
    let a = c.args.state.now in
    on_ok c.set_waiting.result c.set_waiting.ensures (λ waits.
    wait_begun c.args.t c.args.phase a c.set_timer.new.wheel c.set_timer.new.keys c.set_waiting.new.threads
    (subst (λ (d : Option ℕ). IsTimerSet c.args.t (later_than a.time d) a.wheel a.keys.items c.set_timer.new.wheel c.set_timer.new.keys.items) c.phase_deadline-deadline.ensures c.in_ok-set_timer.ensures)
    waits)
