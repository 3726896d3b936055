use Rattle.std.proofs.Common.{ℕ, subst, sym}
use Rattle.program_state.specs.Monitors.{ListsMove}
use Rattle.program_state.specs.Replying.{IsRaised}
use Rattle.program_state.specs.Waking.{IsInterruptTaken}
use Rattle.program_state.proofs.StepLaws.{on_ok}
use Rattle.ref_model.specs.declared.exception.Exception.TheVariants as exceptions
use Rattle.monitors.specs.Monitors.{Monitors}
use Rattle.monitor_steps.specs.Entries.{TakesTo}
use Rattle.monitor_steps.proofs.FinishLaws.{line_throws}
use Rattle.monitor_steps.proofs.finishing.throw_interrupted.Goals as goal

pub returns-clause-steps : goal.returns-clause-steps
returns-clause-steps g c =
    let w = g.W.EventWorld.world c.args.world.now in
    let a = c.args.state.now in
    let m = c.args.mounted.now in
    let mid = c.take_monitor.new.state in
    let flags = c.take_interrupt.new.wakes in
    on_ok c.throw.result c.throw.ensures.raised (λ raised.
    line_throws w m.thread c.args.line a mid c.throw.new.state flags c.in_ok-take_interrupt.field-0 m.stack.frames c.requires.throws
    (subst (λ (t : ℕ). TakesTo t c.args.line a mid) c.thread-t.ensures c.in_ok-take_monitor.ensures.takes)
    (subst (λ (t : ℕ). IsInterruptTaken t c.in_ok-take_interrupt.field-0 mid.wakes flags) c.thread-t.ensures c.in_ok-take_interrupt.ensures)
    (subst (λ (t : ℕ). IsRaised w exceptions.InterruptedException t (record mid { wakes = flags }) c.throw.new.state) c.thread-t.ensures raised))

pub returns-clause-lists : goal.returns-clause-lists
returns-clause-lists g c =
    on_ok c.throw.result c.throw.ensures.monitors (λ same.
    subst (λ (ms : Monitors). ListsMove c.args.state.now.monitors ms) (sym same) c.in_ok-take_monitor.ensures.lists)
