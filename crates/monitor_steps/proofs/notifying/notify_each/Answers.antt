use Rattle.std.proofs.Common.{ap, not, ◌∙◌}
use Rattle.monitor_steps.proofs.NotifyAllLaws.{ends_with, goes_on_with, none_yet}
use Rattle.monitor_steps.proofs.notifying.notify_each.Goals as goal

pub loop-init : goal.loop-init
loop-init c = none_yet c.args.o c.args.state.now

pub loop-preserved : goal.loop-preserved
loop-preserved c =
    goes_on_with c.args.o c.args.state.now c.loop.state c.notify_first.new.state c.in_ok-waiter.waiter c.loop.invariant c.in_ok-waiter.ensures (c.is_none.ensures ∙ ap not c.if-is_none.false)

pub returns-then-is_none : goal.returns-then-is_none
returns-then-is_none c =
    ends_with c.args.o c.args.state.now c.loop.state c.notify_first.new.state c.in_ok-waiter.waiter c.loop.invariant c.in_ok-waiter.ensures (c.is_none.ensures ∙ ap not c.if-is_none.true)
