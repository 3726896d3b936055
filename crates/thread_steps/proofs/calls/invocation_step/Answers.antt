use Rattle.std.proofs.Common.{subst, length, ◌≤◌}
use Rattle.instruction_rows.specs.Table.{row}
use Rattle.verify_types.specs.Environment.{Instruction}
use Rattle.invocation.specs.declared.target.Target.{Target}
use Rattle.heap_instructions.specs.Operands.{operands}
use Rattle.invocation.specs.Targets.{IfCode}
use Rattle.invocation.specs.Natives.{IfNative, IsNativeInvoked}
use Rattle.thread_steps.proofs.ThrowLaws.{on_ok}
use Rattle.thread_steps.proofs.CallLaws.{ComesTo, code_stepped, throws_stepped}
use Rattle.thread_steps.proofs.AskingLaws.{call_proceeds, call_stays, invocation_proceeds, quiet_progress, quiet_stays}
use Rattle.thread_steps.proofs.calls.invocation_step.Goals as goal

pub returns-in-Native-clause-progress : goal.returns-in-Native-clause-progress
returns-in-Native-clause-progress g c =
    let w = g.W.EventWorld.world c.args.world.now in
    let i : Instruction = record { instr = c.args.instr.now; resolution = c.args.resolution.now } in
    let a = c.args.parts.now in
    let b = c.native_step.new.parts in
    let m = c.args.mounted.now in
    let after = c.native_step.new.mounted.stack.frames in
    let native = c.in-Native.native in
    on_ok c.native_step.result c.native_step.ensures.progress
    (invocation_proceeds w i a b m after native c.native_step.new.progress (subst (ComesTo w i a m) c.in-Native.is c.in_ok-target.ensures.target))

pub returns-in-Code-clause-progress : goal.returns-in-Code-clause-progress
returns-in-Code-clause-progress g c =
    let w = g.W.EventWorld.world c.args.world.now in
    let i : Instruction = record { instr = c.args.instr.now; resolution = c.args.resolution.now } in
    let a = c.args.parts.now in
    let m = c.args.mounted.now in
    let b = c.code_step.new.parts in
    let after = c.code_step.new.mounted.stack.frames in
    on_ok c.code_step.result c.code_step.ensures (λ begins. quiet_progress w i c.args.progress.now a b m.stack.frames after c.requires.nothing
    (code_stepped w i a b m after c.in-Code.callee (subst (ComesTo w i a m) c.in-Code.is c.in_ok-target.ensures.target) begins))

pub returns-in-Code-clause-stays : goal.returns-in-Code-clause-stays
returns-in-Code-clause-stays g c =
    on_ok c.code_step.result c.code_step.ensures (λ begins. quiet_stays c.args.progress.now c.args.mounted.now c.code_step.new.mounted c.requires.nothing)

pub returns-in-Pins-clause-progress : goal.returns-in-Pins-clause-progress
returns-in-Pins-clause-progress g c =
    let w = g.W.EventWorld.world c.args.world.now in
    let i : Instruction = record { instr = c.args.instr.now; resolution = c.args.resolution.now } in
    let a = c.args.parts.now in
    let m = c.args.mounted.now in
    let b = c.code_step-in-Pins.new.parts in
    let after = c.code_step-in-Pins.new.mounted.stack.frames in
    on_ok c.code_step-in-Pins.result c.code_step-in-Pins.ensures (λ begins. quiet_progress w i c.args.progress.now a b m.stack.frames after c.requires.nothing
    (code_stepped w i a b m after c.in-Pins.callee (subst (ComesTo w i a m) c.in-Pins.is c.in_ok-target.ensures.target) begins))

pub returns-in-Pins-clause-stays : goal.returns-in-Pins-clause-stays
returns-in-Pins-clause-stays g c =
    on_ok c.code_step-in-Pins.result c.code_step-in-Pins.ensures (λ begins. quiet_stays c.args.progress.now c.args.mounted.now c.code_step-in-Pins.new.mounted c.requires.nothing)

pub returns-in-Throws-clause-progress : goal.returns-in-Throws-clause-progress
returns-in-Throws-clause-progress g c =
    let w = g.W.EventWorld.world c.args.world.now in
    let i : Instruction = record { instr = c.args.instr.now; resolution = c.args.resolution.now } in
    let a = c.args.parts.now in
    let m = c.args.mounted.now in
    let b = c.raise.new.parts in
    on_ok c.raise.result c.raise.ensures (λ raises. quiet_progress w i c.args.progress.now a b m.stack.frames m.stack.frames c.requires.nothing
    (throws_stepped w i a b m c.in-Throws.exception (subst (ComesTo w i a m) c.in-Throws.is c.in_ok-target.ensures.target) raises))

pub returns-in-Throws-clause-stays : goal.returns-in-Throws-clause-stays
returns-in-Throws-clause-stays g c =
    on_ok c.raise.result c.raise.ensures (λ raises. quiet_stays c.args.progress.now c.args.mounted.now c.args.mounted.now c.requires.nothing)

pub native_step-requires-clause-arguments : goal.native_step-requires-clause-arguments
native_step-requires-clause-arguments g c =
    let w = g.W.EventWorld.world c.args.world.now in
    let here : Target → Type 0 = λ target. IfNative target (IsNativeInvoked w c.args.resolution.now (row c.args.instr.now.op) c.args.parts.now.natives.heap c.args.mounted.now) in
    c.requires.natives c.in-Native.native (subst here c.in-Native.is c.in_ok-target.ensures.native)

pub returns-in-Synchronized-clause-progress : goal.returns-in-Synchronized-clause-progress
returns-in-Synchronized-clause-progress g c =
    let w = g.W.EventWorld.world c.args.world.now in
    let i : Instruction = record { instr = c.args.instr.now; resolution = c.args.resolution.now } in
    let a = c.args.parts.now in
    let m = c.args.mounted.now in
    let callee = c.in-Synchronized.callee in
    on_ok c.synchronized_step.result c.synchronized_step.ensures
    (call_proceeds w i callee c.synchronized_step.new.progress a c.synchronized_step.new.parts m (subst (ComesTo w i a m) c.in-Synchronized.is c.in_ok-target.ensures.target)
    (subst (λ (t : Target). IfCode t (λ callee. callee.slots ≤ length (operands m))) c.in-Synchronized.is c.in_ok-target.ensures.given))

pub returns-in-Synchronized-clause-stays : goal.returns-in-Synchronized-clause-stays
returns-in-Synchronized-clause-stays g c =
    let w = g.W.EventWorld.world c.args.world.now in
    on_ok c.synchronized_step.result c.synchronized_step.ensures
    (call_stays w c.in-Synchronized.callee c.synchronized_step.new.progress c.args.parts.now c.synchronized_step.new.parts c.args.mounted.now)
