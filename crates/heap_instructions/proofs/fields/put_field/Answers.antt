use Rattle.std.proofs.Common.{ℕ, ◌+◌, Option, drop, sym, subst, ap, ◌∙◌}
use Rattle.std.specs.Prelude.{Some, None, Result}
use Rattle.items.specs.Options.{◌>>=◌}
use Rattle.ref_model.specs.declared.exception.Exception.{Exception}
use Rattle.ref_model.specs.Memory.{Memory}
use Rattle.ref_model.specs.Effects.{Effect, done, throws, on_instance}
use Rattle.ref_model.specs.Heap.{with_value}
use Rattle.ref_model.specs.Members.{field_place}
use Rattle.ref_model.specs.Kinds.{value_kind}
use Rattle.heap_instructions.specs.declared.fields.FieldTarget.{FieldTarget}
use Rattle.heap_instructions.specs.HeapReads.{TargetGives}
use Rattle.ref_model.specs.Operands.{width}
use Rattle.heap_instructions.specs.Operands.{operands, room_of}
use Rattle.heap_instructions.specs.Outcomes.{fitting, with_heap}
use Rattle.heap_instructions.proofs.FieldLaws.{field_put_is}
use Rattle.heap_instructions.proofs.fields.put_field.Goals as goal

pub returns-in-Err-clause-effect : goal.returns-in-Err-clause-effect
returns-in-Err-clause-effect g c = λ r.
    let w = g.W.EventWorld.world c.args.world.now in
    let q = with_heap c.args.heap.now r in
    let stack = operands c.args.mounted.now in
    let depth = c.width-width.result in
    let v = c.stored-value.result in
    let n = c.in-Some.n in
    let field = c.in-Some-field.field.now in
    let reference = c.reference_operand-reference.result in
    let act : ℕ → ℕ → Option Effect = λ o place. with_value q o place v >>= λ s. Some (done s (drop (depth + 1) stack)) in
    let T : Result FieldTarget Exception → Type 0 = λ x. TargetGives act (on_instance w c.args.resolution.now q reference (λ o class. field_place w n >>= λ place. act o place)) (Some x) in
    field_put_is w c.args.resolution.now q stack n field v reference (width (value_kind field.kind)) depth (Some (throws c.in-Err.e))
    c.in-Some.ensures c.in-Some-field.ensures (c.width-width.ensures.width ∙ ap width c.value_kind.ensures) c.stored-value.ensures.stored c.reference_operand-reference.ensures.read
    (subst T c.in-Err.is (c.in-Some-field_target.ensures r act))

pub returns-else-not-set_value-clause-effect : goal.returns-else-not-set_value-clause-effect
returns-else-not-set_value-clause-effect g c = λ r.
    let w = g.W.EventWorld.world c.args.world.now in
    let q = with_heap c.args.heap.now r in
    let stack = operands c.args.mounted.now in
    let depth = c.width-width.result in
    let v = c.stored-value.result in
    let n = c.in-Some.n in
    let field = c.in-Some-field.field.now in
    let reference = c.reference_operand-reference.result in
    let act : ℕ → ℕ → Option Effect = λ o place. with_value q o place v >>= λ s. Some (done s (drop (depth + 1) stack)) in
    let T : Result FieldTarget Exception → Type 0 = λ x. TargetGives act (on_instance w c.args.resolution.now q reference (λ o class. field_place w n >>= λ place. act o place)) (Some x) in
    let after = with_heap c.set_value.new.heap r in
    field_put_is w c.args.resolution.now q stack n field v reference (width (value_kind field.kind)) depth (Some (done after (operands c.drop_operands.new.mounted)))
    c.in-Some.ensures c.in-Some-field.ensures (c.width-width.ensures.width ∙ ap width c.value_kind.ensures) c.stored-value.ensures.stored c.reference_operand-reference.ensures.read
    (subst T c.in-Ok.is (c.in-Some-field_target.ensures r act)
    ∙ ap (λ (x : Option Memory). x >>= λ s. Some (done s (drop (depth + 1) stack))) (c.if-not-set_value.ensures r)
    ∙ ap (λ rest. Some (done after rest)) (sym c.drop_operands.ensures.operands))

pub returns-in_default-field_target-clause-effect : goal.returns-in_default-field_target-clause-effect
returns-in_default-field_target-clause-effect g c = λ r.
    let w = g.W.EventWorld.world c.args.world.now in
    let q = with_heap c.args.heap.now r in
    let stack = operands c.args.mounted.now in
    let depth = c.width-width.result in
    let v = c.stored-value.result in
    let n = c.in-Some.n in
    let field = c.in-Some-field.field.now in
    let reference = c.reference_operand-reference.result in
    let act : ℕ → ℕ → Option Effect = λ o place. with_value q o place v >>= λ s. Some (done s (drop (depth + 1) stack)) in
    ap (fitting (room_of c.args.mounted.now))
    (field_put_is w c.args.resolution.now q stack n field v reference (width (value_kind field.kind)) depth None
    c.in-Some.ensures c.in-Some-field.ensures (c.width-width.ensures.width ∙ ap width c.value_kind.ensures) c.stored-value.ensures.stored c.reference_operand-reference.ensures.read
    (c.in_default-field_target.ensures r act))

pub returns-then-not-set_value-clause-effect : goal.returns-then-not-set_value-clause-effect
returns-then-not-set_value-clause-effect g c = λ r.
    let w = g.W.EventWorld.world c.args.world.now in
    let q = with_heap c.args.heap.now r in
    let stack = operands c.args.mounted.now in
    let depth = c.width-width.result in
    let v = c.stored-value.result in
    let n = c.in-Some.n in
    let field = c.in-Some-field.field.now in
    let reference = c.reference_operand-reference.result in
    let act : ℕ → ℕ → Option Effect = λ o place. with_value q o place v >>= λ s. Some (done s (drop (depth + 1) stack)) in
    let T : Result FieldTarget Exception → Type 0 = λ x. TargetGives act (on_instance w c.args.resolution.now q reference (λ o class. field_place w n >>= λ place. act o place)) (Some x) in
    ap (fitting (room_of c.args.mounted.now))
    (field_put_is w c.args.resolution.now q stack n field v reference (width (value_kind field.kind)) depth None
    c.in-Some.ensures c.in-Some-field.ensures (c.width-width.ensures.width ∙ ap width c.value_kind.ensures) c.stored-value.ensures.stored c.reference_operand-reference.ensures.read
    (subst T c.in-Ok.is (c.in-Some-field_target.ensures r act)
    ∙ ap (λ (x : Option Memory). x >>= λ s. Some (done s (drop (depth + 1) stack))) (c.if-not-set_value.ensures.0 r)))
