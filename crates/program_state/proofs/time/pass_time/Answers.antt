use Rattle.std.proofs.Common.{List, ℕ, ap, subst, ◌∙◌}
use Rattle.vthread_state.specs.declared.phase.Wake.TheVariants.{TimedOut}
use Rattle.program_state.specs.Monitors.{HaveEndedWaits}
use Rattle.program_state.specs.Timers.{without_keys}
use Rattle.program_state.proofs.TickLaws.{due_move, time_passes}
use Rattle.program_state.proofs.TimeLaws.{due_are}
use Rattle.program_state.proofs.time.pass_time.Goals as goal

pub returns-clause-passes : goal.returns-clause-passes
returns-clause-passes c =
    let a = c.args.state.now in
    time_passes a c.due.new.self c.clear_keys.new.keys c.end_monitor_waits.new.monitors c.end_monitor_waits.new.threads c.args.now c.in_ok-due.due.items c.requires.later c.in_ok-due.ensures.due
    c.in_ok-due.ensures.left (c.clear_keys.ensures ∙ ap (without_keys a.keys.items) c.deref.ensures.value)
    (subst (λ (ts : List ℕ). HaveEndedWaits TimedOut ts a.monitors a.threads c.end_monitor_waits.new.monitors c.end_monitor_waits.new.threads) c.deref-2.ensures.value c.end_monitor_waits.ensures)

pub returns-clause-moves : goal.returns-clause-moves
returns-clause-moves c =
    let a = c.args.state.now in
    due_move a c.end_monitor_waits.new.monitors c.end_monitor_waits.new.threads c.args.now c.in_ok-due.due.items c.in_ok-due.ensures.due
    (subst (λ (ts : List ℕ). HaveEndedWaits TimedOut ts a.monitors a.threads c.end_monitor_waits.new.monitors c.end_monitor_waits.new.threads) c.deref-2.ensures.value c.end_monitor_waits.ensures)

pub returns-clause-due : goal.returns-clause-due
returns-clause-due c = due_are c.args.state.now c.args.now c.in_ok-due.due.items c.in_ok-due.ensures.due
