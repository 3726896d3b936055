use Rattle.std.proofs.Common.{Bool, sym, subst, ◌∙◌}
use Rattle.std.specs.Bool.{OnTrue}
use Rattle.monitors.specs.Monitors.{Becomes, after_retake, monitor_of}
use Rattle.program_state.proofs.StepLaws.{on_ok}
use Rattle.monitor_steps.proofs.EntryLaws.{line_taken, retaken_lists}
use Rattle.monitor_steps.proofs.line.take_monitor.Goals as goal

pub returns-clause-takes : goal.returns-clause-takes
returns-clause-takes c =
    let a = c.args.state.now in
    let line = c.args.line in
    on_ok c.set_phase.result c.set_phase.ensures (λ set.
    line_taken a c.retake.new.self c.set_phase.new.threads c.args.t line (sym c.retake.ensures.taken ∙ c.if-not-retake.false)
    (subst (λ (b : Bool). OnTrue b (Becomes a.monitors c.retake.new.self line.monitor (after_retake c.args.t line.count (monitor_of a.monitors line.monitor)))) c.if-not-retake.false c.retake.ensures.yes) set)

pub returns-clause-lists : goal.returns-clause-lists
returns-clause-lists c =
    let a = c.args.state.now in
    let line = c.args.line in
    on_ok c.set_phase.result c.set_phase.ensures (λ set.
    retaken_lists a.monitors c.retake.new.self c.args.t line
    (subst (λ (b : Bool). OnTrue b (Becomes a.monitors c.retake.new.self line.monitor (after_retake c.args.t line.count (monitor_of a.monitors line.monitor)))) c.if-not-retake.false c.retake.ensures.yes))
