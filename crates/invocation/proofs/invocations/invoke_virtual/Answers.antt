use Rattle.std.proofs.Common.{ℕ, suc, ◌≡◌, ◌+◌, Option, Some, subst, ap, ◌∙◌, arith}
use Rattle.std.specs.Prelude.{Result}
use Rattle.ref_model.specs.declared.exception.Exception.{Exception}
use Rattle.ref_model.specs.Effects.{Effect}
use Rattle.heap_instructions.specs.Operands.{operands}
use Rattle.heap_instructions.specs.Outcomes.{with_heap}
use Rattle.invocation.specs.declared.receivers.Receiver.{Receiver}
use Rattle.invocation.specs.Receivers.{ReceiverGives}
use Rattle.invocation.specs.Targets.{IsReceived, IsVirtual, received_effect, selected_effect, virtual_effect}
use Rattle.invocation.proofs.InvocationLaws.{gives_along, if_ok_mapped}
use Rattle.invocation.proofs.invocations.invoke_virtual.Goals as goal

pub returns-in-Ok-clause-target : goal.returns-in-Ok-clause-target
returns-in-Ok-clause-target g c =
    let w = g.W.EventWorld.world c.args.world.now in
    let receiver = c.in-Ok.receiver in
    let next : suc c.args.method.slots ≡ c.args.method.slots + 1 = omega arith in
    if_ok_mapped c.received.result (IsReceived w receiver c.args.method.number (c.args.method.slots + 1)) (IsVirtual w c.args.resolution.now c.args.method.number c.args.method.slots c.args.heap.now c.args.mounted.now)
    (λ target h r depth.
    let q = with_heap c.args.heap.now r in
    let stack = operands c.args.mounted.now in
    let effect = virtual_effect w c.args.resolution.now c.args.method.number c.args.method.slots q depth stack in
    let act : ℕ → Option Effect = λ class. selected_effect w q depth class c.args.method.number (suc c.args.method.slots) stack in
    let T : Result Receiver Exception → Type 0 = λ x. ReceiverGives w act effect (Some x) in
    let slots : ℕ → Option Effect = λ s. received_effect w q depth receiver c.args.method.number s stack in
    gives_along w q depth stack effect (slots (c.args.method.slots + 1)) target (subst T c.in-Ok.is (c.in-Some.ensures.receiver r act) ∙ ap slots next) (h q depth stack))
    c.received.ensures.target

pub returns-in-Err-clause-target : goal.returns-in-Err-clause-target
returns-in-Err-clause-target g c = λ r depth.
    let w = g.W.EventWorld.world c.args.world.now in
    let q = with_heap c.args.heap.now r in
    let stack = operands c.args.mounted.now in
    let act : ℕ → Option Effect = λ class. selected_effect w q depth class c.args.method.number (suc c.args.method.slots) stack in
    let T : Result Receiver Exception → Type 0 = λ x. ReceiverGives w act (virtual_effect w c.args.resolution.now c.args.method.number c.args.method.slots q depth stack) (Some x) in
    subst T c.in-Err.is (c.in-Some.ensures.receiver r act)
