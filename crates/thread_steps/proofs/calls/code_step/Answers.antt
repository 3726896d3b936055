use Rattle.std.proofs.Common.{subst}
use Rattle.invocation.specs.FrameSteps.{IsEntered}
use Rattle.thread_steps.proofs.CallLaws.{begun_leads}
use Rattle.thread_steps.proofs.calls.code_step.Goals as goal

pub returns-in-Begun : goal.returns-in-Begun
returns-in-Begun g c next =
    begun_leads (g.W.EventWorld.world c.args.world.now) c.args.parts.now c.args.callee next c.args.mounted.now c.enter.new.mounted
    (subst (IsEntered c.args.callee c.args.mounted.now c.enter.new.mounted) c.in-Begun.is c.in_ok-enter.ensures.entered)
