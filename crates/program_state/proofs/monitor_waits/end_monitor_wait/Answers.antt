use Rattle.std.proofs.Common.{ap, ◌∙◌}
use Rattle.vthread_state.specs.declared.thread.Status.TheVariants.{Live}
use Rattle.ref_model.specs.Looks.{spot_of}
use Rattle.schedule_model.specs.Look.{is_in_wait_list}
use Rattle.program_state.proofs.SeatLaws.{idle_waits, no_wait_ends, plain_waits, wait_ended, waits_there}
use Rattle.program_state.proofs.monitor_waits.end_monitor_wait.Goals as goal

pub returns-in_default : goal.returns-in_default
returns-in_default c =
    no_wait_ends c.args.wake c.args.t c.args.monitors.now c.args.threads.now c.row.result c.requires c.row.ensures (idle_waits (c.row.result).status c.in_default.not-Live)

pub returns-in_default-phase : goal.returns-in_default-phase
returns-in_default-phase c =
    no_wait_ends c.args.wake c.args.t c.args.monitors.now c.args.threads.now c.row.result c.requires c.row.ensures
    (ap (λ s. is_in_wait_list (spot_of s)) c.in-Live.is ∙ plain_waits c.in-Live.phase c.in_default-phase.not-Waiting)

pub leave_wait-requires : goal.leave_wait-requires
leave_wait-requires c =
    waits_there c.args.monitors.now c.args.threads.now c.args.t c.in-Waiting.monitor c.in-Waiting.count c.in-Waiting.deadline c.row.result c.requires c.row.ensures
    (c.in-Live.is ∙ ap (λ k. Live k) c.in-Waiting.is)

pub returns : goal.returns
returns c =
    wait_ended c.args.wake c.args.t c.in-Waiting.monitor c.in-Waiting.count c.in-Waiting.deadline c.args.monitors.now c.leave_wait.new.self c.args.threads.now c.set_phase.new.self c.row.result
    c.requires c.row.ensures (c.in-Live.is ∙ ap (λ k. Live k) c.in-Waiting.is) c.leave_wait.ensures c.set_phase.ensures
