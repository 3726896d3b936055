use Rattle.std.proofs.Common.{sym, ◌∙◌}
use Rattle.monitor_steps.proofs.NotifyLaws.{none_notified_first, thread_notified}
use Rattle.monitor_steps.proofs.notifying.notify_first.Goals as goal

pub returns-in_ok-end_wait-in-Some : goal.returns-in_ok-end_wait-in-Some
returns-in_ok-end_wait-in-Some c =
    thread_notified c.args.state.now c.notify.new.self c.end_wait.new.state c.args.o c.in-Some.u (sym c.in-Some.is ∙ c.in-Ok.ensures.moved) c.in-Ok.ensures.ok c.in-Ok.ensures.spare
    (c.in_ok-end_wait-in-Some).ensures

pub returns-in-None : goal.returns-in-None
returns-in-None c =
    none_notified_first c.args.state.now c.notify.new.self c.args.o (sym c.in-None.is ∙ c.in-Ok.ensures.moved) c.in-Ok.ensures.ok c.in-Ok.ensures.spare
