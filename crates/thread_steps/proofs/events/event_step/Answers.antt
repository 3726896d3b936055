use Rattle.verify_types.specs.Environment.{Instruction}
use Rattle.thread_steps.proofs.ThrowLaws.{on_ok}
use Rattle.thread_steps.proofs.AskingLaws.{quiet_progress, quiet_stays}
use Rattle.thread_steps.proofs.events.event_step.Goals as goal

pub returns-in-GetStatic-clause-progress : goal.returns-in-GetStatic-clause-progress
returns-in-GetStatic-clause-progress g c =
    let w = g.W.EventWorld.world c.args.world.now in
    let i : Instruction = record { instr = c.args.instr.now; resolution = c.args.resolution.now } in
    let x = c.field_step in
    on_ok x.result x.ensures
    (quiet_progress w i c.args.progress.now c.args.parts.now x.new.parts c.args.mounted.now.stack.frames x.new.mounted.stack.frames c.requires.nothing)

pub returns-in-GetStatic-clause-stays : goal.returns-in-GetStatic-clause-stays
returns-in-GetStatic-clause-stays g c =
    on_ok c.field_step.result c.field_step.ensures (λ steps. quiet_stays c.args.progress.now c.args.mounted.now c.field_step.new.mounted c.requires.nothing)

pub returns-in_default-clause-progress : goal.returns-in_default-clause-progress
returns-in_default-clause-progress g c =
    let w = g.W.EventWorld.world c.args.world.now in
    let i : Instruction = record { instr = c.args.instr.now; resolution = c.args.resolution.now } in
    let x = c.other_step in
    on_ok x.result x.ensures
    (quiet_progress w i c.args.progress.now c.args.parts.now x.new.parts c.args.mounted.now.stack.frames x.new.mounted.stack.frames c.requires.nothing)

pub returns-in_default-clause-stays : goal.returns-in_default-clause-stays
returns-in_default-clause-stays g c =
    on_ok c.other_step.result c.other_step.ensures (λ steps. quiet_stays c.args.progress.now c.args.mounted.now c.other_step.new.mounted c.requires.nothing)
