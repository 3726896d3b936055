use Rattle.std.proofs.Common.{Option, ℕ, sym, subst, ◌∙◌}
use Rattle.monitor_steps.specs.Waits.{NotifiesFirst}
use Rattle.monitor_steps.proofs.NotifyLaws.{notify_none, notify_one, notify_unowned}
use Rattle.monitor_steps.proofs.notifying.notify.Goals as goal

pub returns-then-not-is_owner : goal.returns-then-not-is_owner
returns-then-not-is_owner c = notify_unowned c.args.t c.args.o c.args.state.now (sym c.is_owner.ensures ∙ c.if-not-is_owner.true)

pub returns-in-Some : goal.returns-in-Some
returns-in-Some c =
    let a = c.args.state.now in
    notify_one c.args.t c.args.o c.in-Some.u a c.notify_first.new.state (sym c.is_owner.ensures ∙ c.if-not-is_owner.false)
    (subst (λ (x : Option ℕ). NotifiesFirst c.args.o a c.notify_first.new.state x) c.in-Some.is c.in_ok-u.ensures)

pub returns-in-None : goal.returns-in-None
returns-in-None c =
    let a = c.args.state.now in
    notify_none c.args.t c.args.o a c.notify_first.new.state (sym c.is_owner.ensures ∙ c.if-not-is_owner.false)
    (subst (λ (x : Option ℕ). NotifiesFirst c.args.o a c.notify_first.new.state x) c.in-None.is c.in_ok-u.ensures)
