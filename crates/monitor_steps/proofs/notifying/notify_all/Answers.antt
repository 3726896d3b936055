use Rattle.std.proofs.Common.{sym, ◌∙◌}
use Rattle.monitor_steps.proofs.NotifyAllLaws.{notify_all_goes, notify_all_unowned}
use Rattle.monitor_steps.proofs.notifying.notify_all.Goals as goal

pub returns-then-not-is_owner : goal.returns-then-not-is_owner
returns-then-not-is_owner c = notify_all_unowned c.args.t c.args.o c.args.state.now (sym c.is_owner.ensures ∙ c.if-not-is_owner.true)

pub returns : goal.returns
returns c = notify_all_goes c.args.t c.args.o c.args.state.now c.notify_each.new.state (sym c.is_owner.ensures ∙ c.if-not-is_owner.false) c.in_ok-notify_each.ensures
