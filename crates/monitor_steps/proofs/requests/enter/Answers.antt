use Rattle.std.proofs.Common.{Bool, subst}
use Rattle.monitor_steps.specs.Entries.{EntersTo}
use Rattle.monitor_steps.proofs.AnswerLaws.{enter_goes, enter_waits}
use Rattle.monitor_steps.proofs.requests.enter.Goals as goal

pub returns-then-branch : goal.returns-then-branch
returns-then-branch c =
    enter_goes c.args.t c.args.o c.args.state.now c.enter_monitor.new.state
    (subst (λ (b : Bool). EntersTo c.args.t c.args.o c.args.state.now c.enter_monitor.new.state b) c.if-branch.true c.in_ok-enter_monitor.ensures.enters) c.in_ok-enter_monitor.ensures.lists

pub returns-else-branch : goal.returns-else-branch
returns-else-branch c =
    enter_waits c.args.t c.args.o c.args.state.now c.enter_monitor.new.state
    (subst (λ (b : Bool). EntersTo c.args.t c.args.o c.args.state.now c.enter_monitor.new.state b) c.if-branch.false c.in_ok-enter_monitor.ensures.enters) c.in_ok-enter_monitor.ensures.lists
