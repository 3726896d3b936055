use Rattle.thread_steps.proofs.ThrowLaws.{on_ok}
use Rattle.thread_steps.proofs.AskingLaws.{quiet_proceeds}
use Rattle.thread_steps.proofs.concluding.conclude_or_ask.Goals as goal

pub returns-in_default : goal.returns-in_default
returns-in_default g c =
    let x = c.conclude in
    on_ok x.result x.ensures
    (quiet_proceeds (g.W.EventWorld.world c.args.world.now) c.args.next c.args.outcome c.args.progress.now c.args.parts.now x.new.parts c.args.mounted.now x.new.mounted c.requires)
