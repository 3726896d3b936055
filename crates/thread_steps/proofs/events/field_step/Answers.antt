use Rattle.std.proofs.Common.{arith}
use Rattle.thread_steps.proofs.ThrowLaws.{on_ok}
use Rattle.thread_steps.proofs.EventLaws.{event_done}
use Rattle.thread_steps.proofs.events.field_step.Goals as goal

pub returns : goal.returns
returns g c =
    on_ok c.conclude.result c.conclude.ensures
    (event_done (g.W.EventWorld.world c.args.world.now) (record { instr = c.args.instr.now; resolution = c.args.resolution.now }) c.args.parts.now c.conclude.new.parts c.run_field-outcome.new.heap c.as_mut_slice.result.now c.run_field-outcome.new.statics
    c.args.mounted.now c.run_field-outcome.new.mounted c.conclude.new.mounted.stack.frames c.run_field-outcome.result (omega arith) c.as_mut_slice.ensures.value c.run_field-outcome.ensures c.operands_fit-2.ensures)
