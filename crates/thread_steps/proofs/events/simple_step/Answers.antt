use Rattle.std.proofs.Common.{ap, refl, subst, ◌∙◌}
use Rattle.opcodes.specs.declared.op.Op.{Op}
use Rattle.opcodes.specs.declared.op.Simple.{Simple}
use Rattle.instruction_rows.specs.Rows.{monitor_enter, monitor_exit}
use Rattle.instruction_rows.specs.Table.{row, simple_row}
use Rattle.verify_types.specs.Environment.{Instruction}
use Rattle.ref_model.specs.Operands.{FindsOperands}
use Rattle.ref_model.specs.Requests.{enters, exits}
use Rattle.heap_instructions.specs.Operands.{operands}
use Rattle.thread_steps.proofs.ThrowLaws.{on_ok}
use Rattle.thread_steps.proofs.AskingLaws.{monitor_proceeds, quiet_progress, quiet_stays, stays_asked}
use Rattle.thread_steps.proofs.events.simple_step.Goals as goal

pub enter_monitor-outcome-requires : goal.enter_monitor-outcome-requires
enter_monitor-outcome-requires g c =
    subst (λ (s : Simple). FindsOperands (g.W.EventWorld.world c.args.world.now) c.args.resolution.now (simple_row s) (operands c.args.mounted.now)) c.in-MonitorEnter.is
    (subst (λ (op : Op). FindsOperands (g.W.EventWorld.world c.args.world.now) c.args.resolution.now (row op) (operands c.args.mounted.now)) c.requires.simple c.requires.operands)

pub exit_monitor-outcome-requires : goal.exit_monitor-outcome-requires
exit_monitor-outcome-requires g c =
    subst (λ (s : Simple). FindsOperands (g.W.EventWorld.world c.args.world.now) c.args.resolution.now (simple_row s) (operands c.args.mounted.now)) c.in-MonitorExit.is
    (subst (λ (op : Op). FindsOperands (g.W.EventWorld.world c.args.world.now) c.args.resolution.now (row op) (operands c.args.mounted.now)) c.requires.simple c.requires.operands)

pub returns-in-MonitorEnter-clause-progress : goal.returns-in-MonitorEnter-clause-progress
returns-in-MonitorEnter-clause-progress g c =
    let w = g.W.EventWorld.world c.args.world.now in
    let i : Instruction = record { instr = c.args.instr.now; resolution = c.args.resolution.now } in
    let a = c.args.parts.now in
    let m = c.args.mounted.now in
    let x = c.conclude_or_ask in
    on_ok x.result x.ensures
    (monitor_proceeds w i monitor_enter enters c.enter_monitor-outcome.result x.new.progress a x.new.parts m x.new.mounted (ap row c.requires.simple ∙ ap simple_row c.in-MonitorEnter.is) (λ r stack. refl)
    c.enter_monitor-outcome.ensures c.operands_fit.ensures)

pub returns-in-MonitorEnter-clause-stays : goal.returns-in-MonitorEnter-clause-stays
returns-in-MonitorEnter-clause-stays g c =
    let w = g.W.EventWorld.world c.args.world.now in
    let a = c.args.parts.now in
    let m = c.args.mounted.now in
    let x = c.conclude_or_ask in
    on_ok x.result x.ensures (stays_asked w c.args.instr.now.next c.enter_monitor-outcome.result x.new.progress a x.new.parts m x.new.mounted)

pub returns-in-MonitorExit-clause-progress : goal.returns-in-MonitorExit-clause-progress
returns-in-MonitorExit-clause-progress g c =
    let w = g.W.EventWorld.world c.args.world.now in
    let i : Instruction = record { instr = c.args.instr.now; resolution = c.args.resolution.now } in
    let a = c.args.parts.now in
    let m = c.args.mounted.now in
    let x = c.conclude_or_ask-in-MonitorExit in
    on_ok x.result x.ensures
    (monitor_proceeds w i monitor_exit exits c.exit_monitor-outcome.result x.new.progress a x.new.parts m x.new.mounted (ap row c.requires.simple ∙ ap simple_row c.in-MonitorExit.is) (λ r stack. refl)
    c.exit_monitor-outcome.ensures c.operands_fit-in-MonitorExit.ensures)

pub returns-in-MonitorExit-clause-stays : goal.returns-in-MonitorExit-clause-stays
returns-in-MonitorExit-clause-stays g c =
    let w = g.W.EventWorld.world c.args.world.now in
    let a = c.args.parts.now in
    let m = c.args.mounted.now in
    let x = c.conclude_or_ask-in-MonitorExit in
    on_ok x.result x.ensures (stays_asked w c.args.instr.now.next c.exit_monitor-outcome.result x.new.progress a x.new.parts m x.new.mounted)

pub returns-in_default-clause-progress : goal.returns-in_default-clause-progress
returns-in_default-clause-progress g c =
    let w = g.W.EventWorld.world c.args.world.now in
    let i : Instruction = record { instr = c.args.instr.now; resolution = c.args.resolution.now } in
    let x = c.plain_step in
    on_ok x.result x.ensures
    (quiet_progress w i c.args.progress.now c.args.parts.now x.new.parts c.args.mounted.now.stack.frames x.new.mounted.stack.frames c.requires.nothing)

pub returns-in_default-clause-stays : goal.returns-in_default-clause-stays
returns-in_default-clause-stays g c =
    on_ok c.plain_step.result c.plain_step.ensures (λ steps. quiet_stays c.args.progress.now c.args.mounted.now c.plain_step.new.mounted c.requires.nothing)
