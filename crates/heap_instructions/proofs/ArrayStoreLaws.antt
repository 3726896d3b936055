-- A store into an array, where its operands are known.
use Rattle.std.proofs.Common.{ℕ, ℤ, ◌≡◌, ◌+◌, List, Option, Some, None, drop, sym, subst, ap, ◌∙◌, zero-add}
use Rattle.std.specs.Prelude.{true, false}
use Rattle.items.specs.Options.{◌>>=◌}
use Rattle.opcodes.specs.declared.op.ValueKind.{ValueKind}
use Rattle.opcodes.specs.declared.op.ValueKind.TheVariants as kinds
use Rattle.opcodes.specs.declared.op.Element.{Element}
use Rattle.instruction_rows.specs.declared.value.Slot.{Slot}
use Rattle.instruction_rows.specs.declared.value.Value.{Value}
use Rattle.instruction_rows.specs.Kinds.{value, kind_of_element}
use Rattle.instruction_rows.specs.SlotEffect.{popped}
use Rattle.link_model.specs.World.{World}
use Rattle.ref_model.specs.Memory.{Memory}
use Rattle.ref_model.specs.Heap.{Array, with_value}
use Rattle.ref_model.specs.Kinds.{kept_in}
use Rattle.ref_model.specs.declared.exception.Exception.TheVariants as exceptions
use Rattle.ref_model.specs.Effects.{Effect, done, throws}
use Rattle.ref_model.specs.Arrays.{on_array_of, on_place, place_in, may_hold, held_or_thrown, array_stored}
use Rattle.ref_model.specs.Operands.{width}
use Rattle.heap_instructions.specs.Operands.{IsPopped}
use Rattle.items.proofs.Binds.{bind_is}

-- what a store does with the array and the place
abbrev pub store_at : World → Memory → Value → List Slot → ℕ → Array → ℕ → Option Effect
store_at w r v lowest o a place = may_hold w r a v >>= λ held. held_or_thrown held (with_value r o place (kept_in a.type v)) lowest

pub array_stored_is : (w : World) (element : Element) (r : Memory) (stack : List Slot) (k : ValueKind) (v : Value) (index : ℤ) (reference : Option ℕ) (depth : ℕ)
    (effect : Option Effect) → k ≡ kind_of_element element → depth ≡ width k → IsPopped k v 0 stack →
    popped kinds.Int (drop depth stack) ≡ Some (index, drop (depth + 1) stack) →
    popped kinds.Reference (drop (depth + 1) stack) ≡ Some (reference, drop (depth + 1 + 1) stack) →
    on_array_of w r element reference (λ o a. on_place (place_in index a) (store_at w r v (drop (depth + 1 + 1) stack) o a)) ≡ effect →
    array_stored w element r stack ≡ effect
array_stored_is w element r stack k v index reference depth effect e d top int object h =
    let last : Value → ℤ × List Slot → Option ℕ × List Slot → Option Effect = λ u y z.
    on_array_of w r element z.0 (λ o a. on_place (place_in y.0 a) (store_at w r u z.1 o a)) in
    let middle : Value → ℤ × List Slot → Option Effect = λ u y. popped kinds.Reference y.1 >>= last u y in
    let first : Value → List Slot → Option Effect = λ u rest. popped kinds.Int rest >>= middle u in
    let S : ValueKind → Type 0 = λ j. (popped j stack >>= λ x. first (value j x.0) x.1) ≡ effect in
    subst S e (bind_is (popped k stack) (λ x. first (value k x.0) x.1) (top.plain, drop depth stack) effect
    (top.lies ∙ ap (λ n. Some (top.plain, drop n stack)) (zero-add (width k) ∙ sym d))
    (ap (λ u. first u (drop depth stack)) top.is ∙
    bind_is (popped kinds.Int (drop depth stack)) (middle v) (index, drop (depth + 1) stack) effect int
    (bind_is (popped kinds.Reference (drop (depth + 1) stack)) (last v (index, drop (depth + 1) stack)) (reference, drop (depth + 1 + 1) stack) effect object h)))

pub stored_in : (w : World) (r next : Memory) (v kept : Value) (lowest : List Slot) (o : ℕ) (a : Array) (place : ℕ) → may_hold w r a v ≡ Some true →
    kept ≡ kept_in a.type v → with_value r o place kept ≡ Some next → store_at w r v lowest o a place ≡ Some (done next lowest)
stored_in w r next v kept lowest o a place may is set =
    ap (λ x. x >>= λ held. held_or_thrown held (with_value r o place (kept_in a.type v)) lowest) may
    ∙ ap (λ u. with_value r o place u >>= λ q. Some (done q lowest)) (sym is) ∙ ap (λ x. x >>= λ q. Some (done q lowest)) set

pub not_stored : (w : World) (r : Memory) (v : Value) (lowest : List Slot) (o : ℕ) (a : Array) (place : ℕ) → may_hold w r a v ≡ Some false →
    store_at w r v lowest o a place ≡ Some (throws exceptions.ArrayStoreException)
not_stored w r v lowest o a place may = ap (λ x. x >>= λ held. held_or_thrown held (with_value r o place (kept_in a.type v)) lowest) may

pub no_store : (w : World) (r : Memory) (v : Value) (lowest : List Slot) (o : ℕ) (a : Array) (place : ℕ) → may_hold w r a v ≡ None →
    store_at w r v lowest o a place ≡ None
no_store w r v lowest o a place may = ap (λ x. x >>= λ held. held_or_thrown held (with_value r o place (kept_in a.type v)) lowest) may
