use Rattle.std.proofs.Common.{ℕ, suc, Option, Some, sym, subst, ap, ◌∙◌}
use Rattle.std.specs.Prelude.{Result}
use Rattle.ref_model.specs.declared.exception.Exception.{Exception}
use Rattle.ref_model.specs.Calls.{unless_failed}
use Rattle.ref_model.specs.Effects.{Effect, throws}
use Rattle.heap_instructions.specs.Operands.{operands}
use Rattle.heap_instructions.specs.Outcomes.{with_heap}
use Rattle.invocation.specs.declared.receivers.Receiver.{Receiver}
use Rattle.invocation.specs.Receivers.{ReceiverGives}
use Rattle.invocation.specs.Targets.{numbered_effect, special_effect}
use Rattle.invocation.proofs.InvocationLaws.{gives_along, tested_instance, tested_other}
use Rattle.invocation.proofs.invocations.invoke_special.Goals as goal

pub returns-then-is_sub-clause-target : goal.returns-then-is_sub-clause-target
returns-then-is_sub-clause-target g c = λ r depth.
    let w = g.W.EventWorld.world c.args.world.now in
    let m = c.args.method in
    let q = with_heap c.args.heap.now r in
    let stack = operands c.args.mounted.now in
    let act : ℕ → Option Effect = λ class. unless_failed c.args.resolution.now.failure (numbered_effect w q depth m.number (suc m.slots) stack) in
    let effect = special_effect w c.args.resolution.now m.number m.slots q depth stack in
    let T : Result Receiver Exception → Type 0 = λ x. ReceiverGives w act effect (Some x) in
    gives_along w q depth stack effect (act c.in-Ok.receiver.class) c.linked_target.result
    (subst T c.in-Ok.is (c.in-Some.ensures.receiver r act) ∙ tested_instance w c.in-Ok.receiver act (sym c.is_sub.ensures ∙ c.if-is_sub.true))
    (c.linked_target.ensures.target w c.requires.named q depth stack)

pub returns-else-is_sub-clause-target : goal.returns-else-is_sub-clause-target
returns-else-is_sub-clause-target g c = λ r depth.
    let w = g.W.EventWorld.world c.args.world.now in
    let m = c.args.method in
    let q = with_heap c.args.heap.now r in
    let stack = operands c.args.mounted.now in
    let act : ℕ → Option Effect = λ class. unless_failed c.args.resolution.now.failure (numbered_effect w q depth m.number (suc m.slots) stack) in
    let T : Result Receiver Exception → Type 0 = λ x. ReceiverGives w act (special_effect w c.args.resolution.now m.number m.slots q depth stack) (Some x) in
    subst T c.in-Ok.is (c.in-Some.ensures.receiver r act) ∙ tested_other w c.in-Ok.receiver act (sym c.is_sub.ensures ∙ c.if-is_sub.false)
    ∙ ap (λ e. Some (throws e)) (sym c.late_failure.ensures)

pub returns-in-Err-clause-target : goal.returns-in-Err-clause-target
returns-in-Err-clause-target g c = λ r depth.
    let w = g.W.EventWorld.world c.args.world.now in
    let m = c.args.method in
    let q = with_heap c.args.heap.now r in
    let stack = operands c.args.mounted.now in
    let act : ℕ → Option Effect = λ class. unless_failed c.args.resolution.now.failure (numbered_effect w q depth m.number (suc m.slots) stack) in
    let T : Result Receiver Exception → Type 0 = λ x. ReceiverGives w act (special_effect w c.args.resolution.now m.number m.slots q depth stack) (Some x) in
    subst T c.in-Err.is (c.in-Some.ensures.receiver r act)
