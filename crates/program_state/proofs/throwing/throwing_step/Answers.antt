use Rattle.std.proofs.Common.{ℕ, refl, subst}
use Rattle.vthread_state.specs.declared.phase.Phase.TheVariants.{Throwing}
use Rattle.vthread_state.specs.declared.thread.Status.TheVariants.{Live}
use Rattle.schedule_soundness.specs.PutLaws.{OthersStay}
use Rattle.thread_steps.specs.Returning.{ThrowProceeds}
use Rattle.program_state.specs.Steps.{StepsTo}
use Rattle.program_state.proofs.StepLaws.{throw_holds, throw_steps}
use Rattle.program_state.proofs.throwing.throwing_step.Goals as goal

pub returns-in_ok-settle_throwing-in-Stepped-clause-thrown : goal.returns-in_ok-settle_throwing-in-Stepped-clause-thrown
returns-in_ok-settle_throwing-in-Stepped-clause-thrown g c =
    let w = g.W.EventWorld.world c.args.world.now in
    let a = c.args.state.now in
    let own = c.in_ok-name.field-0 in
    let frames = c.args.mounted.now.stack.frames in
    let new = c.settle_throwing.new.state in
    let after = c.throwing_step.new.mounted.stack.frames in
    subst (λ (t : ℕ). StepsTo w (OthersStay t) (Throwing c.args.o) t a frames new after) c.thread-t.ensures
    (throw_steps w a new c.throwing_step.new.parts c.thread-t.result own.name c.args.o own frames after c.in_ok-name.ensures refl
    (subst (λ x. ThrowProceeds w c.thread-t.result own.name c.args.o x (record a.memory { status = Live (Throwing c.args.o) }) frames c.throwing_step.new.parts after) c.in-Stepped.is c.in_ok-thrown.ensures)
    (c.in_ok-settle_throwing-in-Stepped).ensures.settled)

pub returns-in-Holds-clause-thrown : goal.returns-in-Holds-clause-thrown
returns-in-Holds-clause-thrown g c =
    let w = g.W.EventWorld.world c.args.world.now in
    let a = c.args.state.now in
    let own = c.in_ok-name.field-0 in
    let m = c.args.mounted.now in
    let n = c.throwing_step.new.mounted in
    throw_holds w c.in-Holds.held a c.throwing_step.new.parts c.thread-t.result own.name c.args.o m n
    (subst (λ x. ThrowProceeds w c.thread-t.result own.name c.args.o x (record a.memory { status = Live (Throwing c.args.o) }) m.stack.frames c.throwing_step.new.parts n.stack.frames) c.in-Holds.is c.in_ok-thrown.ensures)
