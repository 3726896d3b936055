-- What lies at a depth of an operand stack, and what instructions make of it.
use Rattle.std.proofs.Common.{ℕ, zero, suc, ◌≡◌, ◌+◌, ◌<◌, ◌≤◌, List, [], ◌∷◌, Option, Some, drop, length, replicate, slice_get, refl, sym, subst, ap, ◌∙◌, arith, zero-add}
use Rattle.std.specs.Prelude.{IsSome}
use Rattle.std.proofs.lemmas.List.{drop-drop, length-drop}
use Rattle.items.specs.Options.{◌>>=◌}
use Rattle.items.proofs.Binds.{bind_is, some_is}
use Rattle.heap_objs.proofs.StretchLaws.{get_dropped}
use Rattle.opcodes.specs.declared.op.ValueKind.{ValueKind}
use Rattle.opcodes.specs.declared.op.ValueKind.TheVariants as kinds
use Rattle.instruction_rows.specs.declared.value.Slot.{Slot}
use Rattle.instruction_rows.specs.declared.value.Value.{Value}
use Rattle.instruction_rows.specs.Kinds.{Of, held, value}
use Rattle.instruction_rows.specs.SlotEffect.{popped}
use Rattle.link_model.specs.declared.members.FieldInfo.{FieldInfo}
use Rattle.ref_model.specs.Kinds.{value_kind, kept}
use Rattle.ref_model.specs.Fields.{stored}
use Rattle.ref_model.specs.Operands.{HasOperand, HasOperands, width}
use Rattle.heap_instructions.specs.Operands.{IsOperand, IsPopped}

-- ---- a value on top

-- which of its slots holds it: of a long the lower one
abbrev pub place_of : ValueKind → ℕ
place_of kinds.Int = 0
place_of kinds.Long = 1
place_of kinds.Reference = 0

abbrev pub lying : (k : ValueKind) → List Slot → Of k → Option (Of k × List Slot)
lying k rest v = Some (v, rest)

pub popped_held : (k : ValueKind) (stack : List Slot) (slot : Slot) → slice_get stack (place_of k) ≡ Some slot →
    popped k stack ≡ (held k slot >>= lying k (drop (width k) stack))
popped_held kinds.Int [] slot h = cc
popped_held kinds.Int (top ∷ rest) slot h =
    let e : top ≡ slot = cc in
    ap (λ (x : Slot). held kinds.Int x >>= lying kinds.Int rest) e
popped_held kinds.Reference [] slot h = cc
popped_held kinds.Reference (top ∷ rest) slot h =
    let e : top ≡ slot = cc in
    ap (λ (x : Slot). held kinds.Reference x >>= lying kinds.Reference rest) e
popped_held kinds.Long [] slot h = cc
popped_held kinds.Long (upper ∷ []) slot h = cc
popped_held kinds.Long (upper ∷ lower ∷ rest) slot h =
    let e : lower ≡ slot = cc in
    ap (λ (x : Slot). held kinds.Long x >>= lying kinds.Long rest) e

pub width_within : (k : ValueKind) (stack : List Slot) (x : Of k × List Slot) → popped k stack ≡ Some x → width k ≤ length stack
width_within kinds.Int [] x h = cc
width_within kinds.Int (top ∷ rest) x h = omega arith
width_within kinds.Reference [] x h = cc
width_within kinds.Reference (top ∷ rest) x h = omega arith
width_within kinds.Long [] x h = cc
width_within kinds.Long (upper ∷ []) x h = cc
width_within kinds.Long (upper ∷ lower ∷ rest) x h = omega arith

pub width_some : (k : ValueKind) → 0 < width k
width_some kinds.Int = omega arith
width_some kinds.Long = omega arith
width_some kinds.Reference = omega arith

-- ---- at a depth

pub operand_within : (k : ValueKind) (depth : ℕ) (stack : List Slot) → HasOperand k depth stack → depth + width k ≤ length stack
operand_within k depth stack x =
    let some = width_some k in
    let within = width_within k (drop depth stack) (x.operand, drop (depth + width k) stack) x.is in
    let rest = length-drop depth stack in
    omega arith

pub operand_there : (k : ValueKind) (depth place : ℕ) (stack : List Slot) (slot : Slot) → place ≡ depth + place_of k → slice_get stack place ≡ Some slot →
    popped k (drop depth stack) ≡ (held k slot >>= lying k (drop (depth + width k) stack))
operand_there k depth place stack slot e h =
    popped_held k (drop depth stack) slot (get_dropped depth stack (place_of k) place e ∙ h)
    ∙ ap (λ rest. held k slot >>= lying k rest) (drop-drop (width k) depth stack)

-- what is read of its slot is what lies there
pub slot_holds : (k : ValueKind) (depth place : ℕ) (stack : List Slot) (slot : Slot) → place ≡ depth + place_of k → slice_get stack place ≡ Some slot →
    HasOperand k depth stack → IsSome (held k slot)
slot_holds k depth place stack slot e h x =
    let rest = drop (depth + width k) stack in
    let parts = some_is (held k slot) (lying k rest) (x.operand, rest) (sym (operand_there k depth place stack slot e h) ∙ x.is) in
    subst (λ (o : Option (Of k)). IsSome o) (sym parts.1) refl

pub operand_is : (k : ValueKind) (v : Of k) (depth place : ℕ) (stack : List Slot) (slot : Slot) → place ≡ depth + place_of k → slice_get stack place ≡ Some slot →
    held k slot ≡ Some v → IsOperand k v depth stack
operand_is k v depth place stack slot e h is =
    operand_there k depth place stack slot e h ∙ ap (λ (o : Option (Of k)). o >>= lying k (drop (depth + width k) stack)) is

pub has_at : (k : ValueKind) (from depth : ℕ) (stack : List Slot) → from ≡ depth → HasOperand k from stack → HasOperand k depth stack
has_at k from depth stack e x = subst (λ n. HasOperand k n stack) e x

-- ---- some ints on top

pub int_among : (count depth index : ℕ) (stack : List Slot) → HasOperands (replicate count kinds.Int) depth stack → index < count →
    HasOperand kinds.Int (depth + index) stack
int_among zero depth index stack x lt = absurd (omega arith)
int_among (suc count) depth zero stack x lt = has_at kinds.Int depth (depth + 0) stack (omega arith) x.0
int_among (suc count) depth (suc index) stack x lt =
    has_at kinds.Int (depth + 1 + index) (depth + suc index) stack (omega arith) (int_among count (depth + 1) index stack x.1 (omega arith))

pub int_below : (count depth : ℕ) (stack : List Slot) → HasOperands (replicate count kinds.Int) 0 stack → depth < count → HasOperand kinds.Int depth stack
int_below count depth stack x lt = has_at kinds.Int (0 + depth) depth stack (omega arith) (int_among count 0 depth stack x lt)

pub ints_within : (count : ℕ) (stack : List Slot) → HasOperands (replicate count kinds.Int) 0 stack → count ≤ length stack
ints_within zero stack x = omega arith
ints_within (suc count) stack x =
    let within = operand_within kinds.Int count stack (int_below (suc count) count stack x (omega arith)) in
    omega arith

-- ---- values

-- an operand of a kind as a value
pub operand_value : (k kind : ValueKind) (plain : Of kind) (v : Value) (depth : ℕ) (stack : List Slot) → k ≡ kind → v ≡ value kind plain →
    IsOperand kind plain depth stack → IsPopped k v depth stack
operand_value k kind plain v depth stack e is h =
    let P : ValueKind → Type 0 = λ j. IsPopped j v depth stack in
    subst P (sym e) (record { plain = plain; lies = h; is = sym is })

-- what a store into a field takes
pub stored_is : (f : FieldInfo) (k : ValueKind) (v stored_as : Value) (stack : List Slot) → k ≡ value_kind f.kind → stored_as ≡ kept f.kind v →
    IsPopped k v 0 stack → stored f stack ≡ Some (stored_as, drop (width (value_kind f.kind)) stack)
stored_is f k v stored_as stack e is h =
    let P : ValueKind → Type 0 = λ j. IsPopped j v 0 stack in
    let top : IsPopped (value_kind f.kind) v 0 stack = subst P e h in
    let rest = drop (width (value_kind f.kind)) stack in
    bind_is (popped (value_kind f.kind) stack) (λ x. Some (kept f.kind (value (value_kind f.kind) x.0), x.1)) (top.plain, rest) (Some (stored_as, rest))
    (top.lies ∙ ap (λ n. Some (top.plain, drop n stack)) (zero-add (width (value_kind f.kind))))
    (ap (λ u. Some (kept f.kind u, rest)) top.is ∙ ap (λ u. Some (u, rest)) (sym is))
