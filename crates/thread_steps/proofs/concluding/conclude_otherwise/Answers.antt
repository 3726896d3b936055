use Rattle.std.proofs.Common.{subst, sym}
use Rattle.vthread_state.specs.declared.phase.Phase.TheVariants.{Throwing}
use Rattle.vthread_state.specs.declared.thread.Status.TheVariants.{Live}
use Rattle.heap_instructions.specs.declared.outcome.Outcome.{Outcome}
use Rattle.thread_steps.specs.Concluding.{EndsOtherwise}
use Rattle.thread_steps.proofs.ThrowLaws.{thrown_again}
use Rattle.thread_steps.proofs.concluding.conclude_otherwise.Goals as goal

pub returns-in-ThrowsObject : goal.returns-in-ThrowsObject
returns-in-ThrowsObject g c =
    let a = c.args.parts.now in
    subst (λ (x : Outcome). EndsOtherwise (g.W.EventWorld.world c.args.world.now) x a (record a { status = Live (Throwing c.in-ThrowsObject.o) }))
    (sym c.in-ThrowsObject.is) (thrown_again a c.in-ThrowsObject.o)
