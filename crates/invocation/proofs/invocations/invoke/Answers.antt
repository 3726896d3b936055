use Rattle.std.proofs.Common.{◌≡◌, ◌++◌, ℕ, [], ◌∷◌, Some, ap, refl, ◌∙◌}
use Rattle.descriptors.specs.declared.kind.Signature.{Signature}
use Rattle.opcodes.specs.declared.op.ValueKind.TheVariants as kinds
use Rattle.opcodes.specs.declared.op.Op.{Op}
use Rattle.instruction_rows.specs.Rows.{Invocation, invoke, virtual, special, interface}
use Rattle.instruction_rows.specs.Table.{row}
use Rattle.ref_model.specs.Fetch.{method_of}
use Rattle.ref_model.specs.Operands.{HasOperand, argument_kinds, called_takes}
use Rattle.heap_instructions.specs.Operands.{operands}
use Rattle.heap_instructions.specs.Outcomes.{with_heap}
use Rattle.invocation.specs.Targets.{IsInvoked, IsVirtual, numbered_effect, row_invoked, special_effect, virtual_effect}
use Rattle.invocation.proofs.InvocationLaws.{gives_along, if_ok_mapped, interface_is, special_is, static_is, virtual_is}
use Rattle.invocation.proofs.ReceiverLaws.{arguments_given, code_given, receiver_found}
use Rattle.invocation.proofs.invocations.invoke.Given as given
use Rattle.invocation.proofs.invocations.invoke.Goals as goal
use Rattle.invocation.proofs.invocations.invoke.Goals.{In-Some-named}

-- the constant means the method that was found
site : (g : given.Over) (c : In-Some-named g) → Some c.in-Some-named.method.number ≡ method_of c.args.resolution.now.site
site g c = ap Some c.in-Some-named.ensures.number ∙ c.in-Some.ensures

-- the receiver of one that takes it is there
receiver : (g : given.Over) (c : In-Some-named g) (invocation : Invocation) (index : ℕ)
    → ((s : Signature) → called_takes invocation s ≡ argument_kinds s ++ kinds.Reference ∷ []) → row c.args.op.now ≡ invoke invocation index
    → HasOperand kinds.Reference c.in-Some-named.method.slots (operands c.args.mounted.now)
receiver g c invocation index takes is =
    receiver_found (g.W.EventWorld.world c.args.world.now) c.args.resolution.now (row c.args.op.now) invocation index c.in-Some-named.method (operands c.args.mounted.now)
    takes is (site g c) c.in-Some-named.ensures.named c.requires.operands

pub returns-in-InvokeStatic-clause-target : goal.returns-in-InvokeStatic-clause-target
returns-in-InvokeStatic-clause-target g c = λ r depth.
    let w = g.W.EventWorld.world c.args.world.now in
    let resolution = c.args.resolution.now in
    let m = c.in-Some-named.method in
    let is = c.in-Some-named.ensures.named in
    let q = with_heap c.args.heap.now r in
    let stack = operands c.args.mounted.now in
    let site = site g (goal.at.returns-in-InvokeStatic-clause-target g c).In-Some-named in
    gives_along w q depth stack (row_invoked w resolution (row c.args.op.now) q depth stack) (numbered_effect w q depth m.number m.slots stack) m.unbound
    (ap (λ (o : Op). row_invoked w resolution (row o) q depth stack) c.in-InvokeStatic.is
    ∙ static_is w resolution q depth stack m.number m.slots is.method site is.is is.slots) (is.unbound q depth stack)

pub returns-in-InvokeSpecial-clause-target : goal.returns-in-InvokeSpecial-clause-target
returns-in-InvokeSpecial-clause-target g c = λ r depth.
    let w = g.W.EventWorld.world c.args.world.now in
    let resolution = c.args.resolution.now in
    let m = c.in-Some-named.method in
    let is = c.in-Some-named.ensures.named in
    let q = with_heap c.args.heap.now r in
    let stack = operands c.args.mounted.now in
    let site = site g (goal.at.returns-in-InvokeSpecial-clause-target g c).In-Some-named in
    gives_along w q depth stack (row_invoked w resolution (row c.args.op.now) q depth stack) (special_effect w resolution m.number m.slots q depth stack) c.invoke_special.result
    (ap (λ (o : Op). row_invoked w resolution (row o) q depth stack) c.in-InvokeSpecial.is
    ∙ special_is w resolution q depth stack m.number m.slots is.method site is.is is.slots) (c.invoke_special.ensures.target r depth)

pub returns-in-InvokeVirtual-clause-target : goal.returns-in-InvokeVirtual-clause-target
returns-in-InvokeVirtual-clause-target g c =
    let w = g.W.EventWorld.world c.args.world.now in
    let resolution = c.args.resolution.now in
    let m = c.in-Some-named.method in
    let is = c.in-Some-named.ensures.named in
    let site = site g (goal.at.returns-in-InvokeVirtual-clause-target g c).In-Some-named in
    if_ok_mapped c.invoke_virtual.result (IsVirtual w resolution m.number m.slots c.args.heap.now c.args.mounted.now) (IsInvoked w resolution (row c.args.op.now) c.args.heap.now c.args.mounted.now)
    (λ target h r depth.
    let q = with_heap c.args.heap.now r in
    let stack = operands c.args.mounted.now in
    gives_along w q depth stack (row_invoked w resolution (row c.args.op.now) q depth stack) (virtual_effect w resolution m.number m.slots q depth stack) target
    (ap (λ (o : Op). row_invoked w resolution (row o) q depth stack) c.in-InvokeVirtual.is
    ∙ virtual_is w resolution q depth stack m.number m.slots is.method site is.is is.slots) (h r depth)) c.invoke_virtual.ensures.target

pub returns-in-InvokeInterface-clause-target : goal.returns-in-InvokeInterface-clause-target
returns-in-InvokeInterface-clause-target g c =
    let w = g.W.EventWorld.world c.args.world.now in
    let resolution = c.args.resolution.now in
    let m = c.in-Some-named.method in
    let is = c.in-Some-named.ensures.named in
    let site = site g (goal.at.returns-in-InvokeInterface-clause-target g c).In-Some-named in
    if_ok_mapped c.invoke_virtual-in-InvokeInterface.result (IsVirtual w resolution m.number m.slots c.args.heap.now c.args.mounted.now) (IsInvoked w resolution (row c.args.op.now) c.args.heap.now c.args.mounted.now)
    (λ target h r depth.
    let q = with_heap c.args.heap.now r in
    let stack = operands c.args.mounted.now in
    gives_along w q depth stack (row_invoked w resolution (row c.args.op.now) q depth stack) (virtual_effect w resolution m.number m.slots q depth stack) target
    (ap (λ (o : Op). row_invoked w resolution (row o) q depth stack) c.in-InvokeInterface.is
    ∙ interface_is w resolution c.in-InvokeInterface.field-1 q depth stack m.number m.slots is.method site is.is is.slots) (h r depth)) c.invoke_virtual-in-InvokeInterface.ensures.target

pub invoke_virtual-requires-clause-receiver : goal.invoke_virtual-requires-clause-receiver
invoke_virtual-requires-clause-receiver g c = receiver g (goal.at.invoke_virtual-requires-clause-receiver g c).In-Some-named virtual c.in-InvokeVirtual.field-0 (λ s. refl) (ap row c.in-InvokeVirtual.is)

pub invoke_virtual-requires-in-InvokeInterface-clause-receiver : goal.invoke_virtual-requires-in-InvokeInterface-clause-receiver
invoke_virtual-requires-in-InvokeInterface-clause-receiver g c = receiver g (goal.at.invoke_virtual-requires-in-InvokeInterface-clause-receiver g c).In-Some-named (interface c.in-InvokeInterface.field-1) c.in-InvokeInterface.field-0 (λ s. refl) (ap row c.in-InvokeInterface.is)

pub invoke_special-requires-clause-receiver : goal.invoke_special-requires-clause-receiver
invoke_special-requires-clause-receiver g c = receiver g (goal.at.invoke_special-requires-clause-receiver g c).In-Some-named special c.in-InvokeSpecial.field-0 (λ s. refl) (ap row c.in-InvokeSpecial.is)

pub returns-in-InvokeStatic-clause-given : goal.returns-in-InvokeStatic-clause-given
returns-in-InvokeStatic-clause-given g c =
    let w = g.W.EventWorld.world c.args.world.now in
    let resolution = c.args.resolution.now in
    let m = c.in-Some-named.method in
    let is = c.in-Some-named.ensures.named in
    let stack = operands c.args.mounted.now in
    let site = site g (goal.at.returns-in-InvokeStatic-clause-given g c).In-Some-named in
    code_given m.unbound m.slots stack is.takes
    (arguments_given w resolution (row c.args.op.now) c.in-InvokeStatic.field-0 m.number m.slots is.method stack (ap row c.in-InvokeStatic.is) site is.is is.plain is.slots c.requires.operands)
