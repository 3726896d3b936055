use Rattle.std.proofs.Common.{ℕ, ap, subst, sym, ◌∙◌}
use Rattle.monitors.specs.Monitors.{IsInLine, monitor_of}
use Rattle.vthread_state.specs.Threads.{status_at}
use Rattle.program_state.proofs.StepLaws.{on_ok}
use Rattle.monitor_steps.specs.Entries.{TakesTo}
use Rattle.monitor_steps.proofs.EntryLaws.{in_line}
use Rattle.monitor_steps.proofs.FinishLaws.{any_phase, line_begins}
use Rattle.monitor_steps.proofs.finishing.finish_entry.Goals as goal

pub take_monitor-requires : goal.take_monitor-requires
take_monitor-requires g c =
    in_line c.args.state.now.monitors c.args.state.now.threads c.thread-t.result c.in_ok-phase.phase c.args.mounted.now.stack.frames c.in_ok-line.line c.requires.seated c.in_ok-phase.ensures c.in_ok-line.ensures

pub resume-requires-clause-in_line : goal.resume-requires-clause-in_line
resume-requires-clause-in_line g c =
    subst (λ (t : ℕ). IsInLine t (monitor_of c.args.state.now.monitors c.in_ok-line.line.monitor)) c.thread-t.ensures
    (in_line c.args.state.now.monitors c.args.state.now.threads c.thread-t.result c.in_ok-phase.phase c.args.mounted.now.stack.frames c.in_ok-line.line c.requires.seated c.in_ok-phase.ensures
    c.in_ok-line.ensures)

pub throw_interrupted-requires-clause-in_line : goal.throw_interrupted-requires-clause-in_line
throw_interrupted-requires-clause-in_line g c =
    subst (λ (t : ℕ). IsInLine t (monitor_of c.args.state.now.monitors c.in_ok-line.line.monitor)) c.thread-t.ensures
    (in_line c.args.state.now.monitors c.args.state.now.threads c.thread-t.result c.in_ok-phase.phase c.args.mounted.now.stack.frames c.in_ok-line.line c.requires.seated c.in_ok-phase.ensures
    c.in_ok-line.ensures)

pub returns-in-Begins-clause-steps : goal.returns-in-Begins-clause-steps
returns-in-Begins-clause-steps g c =
    let w = g.W.EventWorld.world c.args.world.now in
    let a = c.args.state.now in
    let m = c.args.mounted.now in
    let line = c.in_ok-line.line in
    let new = c.take_monitor.new.state in
    on_ok c.take_monitor.result c.take_monitor.ensures.takes (λ takes.
    any_phase w line m.thread a new m.stack.frames m.stack.frames c.in_ok-phase.phase (ap (status_at a.threads) (sym c.thread-t.ensures) ∙ c.in_ok-phase.ensures) c.in_ok-line.ensures
    (line_begins w m.thread line a new m.stack.frames c.in-Begins.is (subst (λ (t : ℕ). TakesTo t line a new) c.thread-t.ensures takes)))

pub returns-in-Resumes-clause-steps : goal.returns-in-Resumes-clause-steps
returns-in-Resumes-clause-steps g c =
    let w = g.W.EventWorld.world c.args.world.now in
    let a = c.args.state.now in
    let m = c.args.mounted.now in
    let line = c.in_ok-line.line in
    on_ok c.resume.result c.resume.ensures.steps (λ steps.
    any_phase w line m.thread a c.resume.new.state m.stack.frames c.resume.new.mounted.stack.frames c.in_ok-phase.phase (ap (status_at a.threads) (sym c.thread-t.ensures) ∙ c.in_ok-phase.ensures)
    c.in_ok-line.ensures steps)

pub returns-in-Throws-clause-steps : goal.returns-in-Throws-clause-steps
returns-in-Throws-clause-steps g c =
    let w = g.W.EventWorld.world c.args.world.now in
    let a = c.args.state.now in
    let m = c.args.mounted.now in
    let line = c.in_ok-line.line in
    on_ok c.throw_interrupted.result c.throw_interrupted.ensures.steps (λ steps.
    any_phase w line m.thread a c.throw_interrupted.new.state m.stack.frames m.stack.frames c.in_ok-phase.phase (ap (status_at a.threads) (sym c.thread-t.ensures) ∙ c.in_ok-phase.ensures)
    c.in_ok-line.ensures steps)
