use Rattle.std.proofs.Common.{ℕ, ℤ, ◌≡◌, ◌+◌, to_z, of_z, to_z-of_z, rules, drop, sym, ap, ◌∙◌, refl, arith}
use Rattle.std.specs.Prelude.{Some, None, FitsSigned}
use Rattle.std.specs.Int.{w32}
use Rattle.opcodes.specs.declared.op.ValueKind.TheVariants as kinds
use Rattle.instruction_rows.specs.SlotEffect.{popped}
use Rattle.heap_objs.specs.Heap.{values_at}
use Rattle.ref_model.specs.declared.exception.Exception.TheVariants as exceptions
use Rattle.ref_model.specs.Effects.{done, throws}
use Rattle.heap_instructions.specs.HeapReads.{array_seen}
use Rattle.heap_instructions.specs.Operands.{operands, room_of}
use Rattle.heap_instructions.specs.Outcomes.{fitting, with_heap}
use Rattle.heap_instructions.proofs.HeapReadLaws.{value_set_is}
use Rattle.heap_instructions.proofs.ArrayStoreLaws.{store_at, array_stored_is, stored_in, not_stored, no_store}
use Rattle.heap_instructions.proofs.arrays.array_store.Goals as goal

pub returns-in-Err-clause-effect : goal.returns-in-Err-clause-effect
returns-in-Err-clause-effect g c = λ r.
    let w = g.W.EventWorld.world c.args.world.now in
    let q = with_heap c.args.heap.now r in
    let stack = operands c.args.mounted.now in
    let depth = c.width-width.result in
    let v = c.value_operand-value.result in
    let n = c.int_operand-index.result in
    let fits : FitsSigned w32 n = search rules in
    let index = to_z w32 (of_z w32 n) in
    let int : popped kinds.Int (drop depth stack) ≡ Some (index, drop (depth + 1) stack) = c.int_operand-index.ensures.read ∙ ap (λ (z : ℤ). Some (z, drop (depth + 1) stack)) (sym (to_z-of_z fits)) in
    array_stored_is w c.args.element q stack c.element_kind-kind.result v index c.reference_operand-reference.result depth (Some (throws c.in-Err.e))
    c.element_kind-kind.ensures c.width-width.ensures.width c.value_operand-value.ensures.read int c.reference_operand-reference.ensures.read
    (c.in-Err.ensures.target r (store_at w q v (drop (depth + 1 + 1) stack)))

pub returns-in-Some-false-clause-effect : goal.returns-in-Some-false-clause-effect
returns-in-Some-false-clause-effect g c = λ r.
    let w = g.W.EventWorld.world c.args.world.now in
    let q = with_heap c.args.heap.now r in
    let stack = operands c.args.mounted.now in
    let depth = c.width-width.result in
    let v = c.value_operand-value.result in
    let n = c.int_operand-index.result in
    let fits : FitsSigned w32 n = search rules in
    let index = to_z w32 (of_z w32 n) in
    let int : popped kinds.Int (drop depth stack) ≡ Some (index, drop (depth + 1) stack) = c.int_operand-index.ensures.read ∙ ap (λ (z : ℤ). Some (z, drop (depth + 1) stack)) (sym (to_z-of_z fits)) in
    let lowest = drop (depth + 1 + 1) stack in
    let o = c.in-Ok.target.object in
    let a = array_seen (values_at c.args.heap.now.objects o) c.in-Ok.target.array in
    array_stored_is w c.args.element q stack c.element_kind-kind.result v index c.reference_operand-reference.result depth (Some (throws exceptions.ArrayStoreException))
    c.element_kind-kind.ensures c.width-width.ensures.width c.value_operand-value.ensures.read int c.reference_operand-reference.ensures.read
    (c.in-Ok.ensures.target r (store_at w q v lowest)
    ∙ not_stored w q v lowest o a c.in-Ok.target.place (c.in-Some-false.ensures r a refl ∙ ap Some c.in-Some-false.field-0-test))

pub returns-in-Some-true-clause-effect : goal.returns-in-Some-true-clause-effect
returns-in-Some-true-clause-effect g c = λ r.
    let w = g.W.EventWorld.world c.args.world.now in
    let q = with_heap c.args.heap.now r in
    let stack = operands c.args.mounted.now in
    let depth = c.width-width.result in
    let v = c.value_operand-value.result in
    let n = c.int_operand-index.result in
    let fits : FitsSigned w32 n = search rules in
    let index = to_z w32 (of_z w32 n) in
    let int : popped kinds.Int (drop depth stack) ≡ Some (index, drop (depth + 1) stack) = c.int_operand-index.ensures.read ∙ ap (λ (z : ℤ). Some (z, drop (depth + 1) stack)) (sym (to_z-of_z fits)) in
    let lowest = drop (depth + 1 + 1) stack in
    let o = c.in-Ok.target.object in
    let place = c.in-Ok.target.place in
    let a = array_seen (values_at c.args.heap.now.objects o) c.in-Ok.target.array in
    let after = with_heap c.set.new.self r in
    array_stored_is w c.args.element q stack c.element_kind-kind.result v index c.reference_operand-reference.result depth (Some (done after (operands c.drop_operands.new.mounted)))
    c.element_kind-kind.ensures c.width-width.ensures.width c.value_operand-value.ensures.read int c.reference_operand-reference.ensures.read
    (c.in-Ok.ensures.target r (store_at w q v lowest)
    ∙ stored_in w q after v c.kept_in.result lowest o a place (c.in-Some-true.ensures r a refl ∙ ap Some c.in-Some-true.field-0-test) c.kept_in.ensures
    (value_set_is r c.args.heap.now c.set.new.self o place c.kept_in.result c.in-Ok.ensures.inside c.set.ensures)
    ∙ ap (λ (m : ℕ). Some (done after (drop m stack))) (let e : depth + 1 + 1 ≡ depth + 2 = omega arith in e) ∙ ap (λ rest. Some (done after rest)) (sym c.drop_operands.ensures.operands))

pub returns-in-None-clause-effect : goal.returns-in-None-clause-effect
returns-in-None-clause-effect g c = λ r.
    let w = g.W.EventWorld.world c.args.world.now in
    let q = with_heap c.args.heap.now r in
    let stack = operands c.args.mounted.now in
    let depth = c.width-width.result in
    let v = c.value_operand-value.result in
    let n = c.int_operand-index.result in
    let fits : FitsSigned w32 n = search rules in
    let index = to_z w32 (of_z w32 n) in
    let int : popped kinds.Int (drop depth stack) ≡ Some (index, drop (depth + 1) stack) = c.int_operand-index.ensures.read ∙ ap (λ (z : ℤ). Some (z, drop (depth + 1) stack)) (sym (to_z-of_z fits)) in
    let lowest = drop (depth + 1 + 1) stack in
    let o = c.in-Ok.target.object in
    let a = array_seen (values_at c.args.heap.now.objects o) c.in-Ok.target.array in
    ap (fitting (room_of c.args.mounted.now))
    (array_stored_is w c.args.element q stack c.element_kind-kind.result v index c.reference_operand-reference.result depth None
    c.element_kind-kind.ensures c.width-width.ensures.width c.value_operand-value.ensures.read int c.reference_operand-reference.ensures.read
    (c.in-Ok.ensures.target r (store_at w q v lowest) ∙ no_store w q v lowest o a c.in-Ok.target.place (c.in-None.ensures r a refl)))
