use Rattle.std.proofs.Common.{Bool, true, false, ℕ, subst}
use Rattle.program_state.proofs.StepLaws.{on_ok}
use Rattle.monitor_steps.specs.Entries.{EntersTo}
use Rattle.monitor_steps.proofs.FinishLaws.{call_goes, call_waits}
use Rattle.monitor_steps.proofs.calling.make_call.Goals as goal

pub returns-then-branch-clause-steps : goal.returns-then-branch-clause-steps
returns-then-branch-clause-steps c w pending =
    let a = c.args.state.now in
    let m = c.args.mounted.now in
    let new = c.enter_monitor.new.state in
    on_ok c.enter_synchronized.result c.enter_synchronized.ensures.begun (λ begun.
    call_goes w c.args.call m.thread a new m c.enter_synchronized.new.mounted
    (subst (λ (t : ℕ). EntersTo t c.args.call.monitor a new true) c.thread-t.ensures
    (subst (λ (b : Bool). EntersTo c.thread-t.result c.args.call.monitor a new b) c.if-branch.true c.in_ok-enter_monitor.ensures.enters)) pending begun)

pub returns-else-branch-clause-steps : goal.returns-else-branch-clause-steps
returns-else-branch-clause-steps c w pending =
    let a = c.args.state.now in
    let m = c.args.mounted.now in
    let new = c.enter_monitor.new.state in
    call_waits w c.args.call m.thread a new m.stack.frames
    (subst (λ (t : ℕ). EntersTo t c.args.call.monitor a new false) c.thread-t.ensures
    (subst (λ (b : Bool). EntersTo c.thread-t.result c.args.call.monitor a new b) c.if-branch.false c.in_ok-enter_monitor.ensures.enters)) pending
