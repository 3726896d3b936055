use Rattle.std.proofs.Common.{◌∙◌}
use Rattle.monitor_steps.proofs.WaitLaws.{waits_begun}
use Rattle.monitor_steps.proofs.waiting.begin_wait.Goals as goal

pub returns : goal.returns
returns c =
    waits_begun c.args.state.now c.wait.new.self c.set_phase.new.threads c.set_timer.new.wheel c.set_timer.new.keys c.args.t c.args.o c.in-Ok.count c.args.deadline c.in-Ok.first
    c.in-Ok.ensures.owner (c.in-Ok.count-is ∙ c.in-Ok.ensures.count) (c.in-Ok.first-is ∙ c.in-Ok.ensures.woken) c.in-Ok.ensures.ok c.in_ok-set_timer.ensures c.in_ok-set_phase.ensures
