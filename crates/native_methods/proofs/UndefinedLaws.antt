-- Where a native method is undefined: nothing is answered, or a count that is greater than an int.
use Rattle.std.proofs.Common.{ℕ, zero, suc, pos, negsuc, ◌≡◌, ◌-◌, ◌++◌, Bool, true, false, List, [], ◌∷◌, Option, Some, None, arith, length, refl, ap, sym, ◌∙◌, subst}
use Rattle.std.specs.Prelude.{nat_le, slice_get, slice_set, if◌then◌else◌}
use Rattle.std.proofs.lemmas.Bool.{and_right}
use Rattle.items.specs.Options.{◌>>=◌}
use Rattle.items.proofs.Binds.{bind_is, some_is}
use Rattle.instruction_rows.specs.declared.value.Value.{Value}
use Rattle.instruction_rows.specs.declared.value.Value.TheVariants as values
use Rattle.instruction_rows.specs.declared.value.Slot.{Slot}
use Rattle.opcodes.specs.declared.op.ValueKind.{ValueKind}
use Rattle.opcodes.specs.declared.op.ValueKind.TheVariants as kinds
use Rattle.instruction_rows.specs.Kinds.{Of, Function}
use Rattle.lib_table.specs.declared.native.Native.{Native}
use Rattle.link_model.specs.World.{World}
use Rattle.state_model.specs.Objects.{Object, instance, text}
use Rattle.ref_model.specs.Memory.{Memory}
use Rattle.ref_model.specs.Heap.{cells_of_units, values_of, with_text, with_value}
use Rattle.ref_model.specs.NativeRows as rows
use Rattle.ref_model.specs.NativeRows.{NativeRow, native, answered, row_kinds}
use Rattle.ref_model.specs.Natives.{native_row, native_takes}
use Rattle.ref_model.specs.BuilderNatives.{builder_text, text_in}
use Rattle.ref_model.proofs.NativeLaws.{rows_take}
use Rattle.heap_instructions.proofs.HeapReadLaws.{item_set}
use Rattle.heap_instructions.specs.Outcomes.{LacksEffect, greatest_int}
use Rattle.native_methods.specs.Arguments.{answer_to, answer_to_none, answer_to_two, row_answer, to_one, to_two}
use Rattle.native_methods.specs.NativeStates.{LacksAnswer}

-- ---- answers

not_counted : (b : Bool) (a : rows.Answer) → (if b then Some a else None) ≡ None → b ≡ false
not_counted true a e = cc
not_counted false a e = refl

-- an answer that is none makes an effect that no frame can hold
pub lacks_answered : (a : rows.Answer) (rest : List Slot) (room : ℕ) → LacksAnswer (Some a) → LacksEffect room (Some (answered rest a))
lacks_answered (rows.returns r) rest room h = cc
lacks_answered (rows.fails e) rest room h = cc
lacks_answered (rows.asks_for q) rest room h = cc
lacks_answered (rows.returns_value r (values.Int (negsuc n))) rest room h = cc
lacks_answered (rows.returns_value r (values.Long n)) rest room h = cc
lacks_answered (rows.returns_value r values.Null) rest room h = cc
lacks_answered (rows.returns_value r (values.Ref o)) rest room h = cc
lacks_answered (rows.returns_value r (values.Int (pos n))) rest room h =
    let a = rows.returns_value r (values.Int (pos n)) in
    let not = not_counted (nat_le n greatest_int) a h in
    ap (λ (b : Bool). if b then Some (answered rest a) else None) (and_right (nat_le (suc (length rest)) room) (nat_le n greatest_int) not)

-- ---- arguments

-- a row that takes these kinds answers
pub one_answers : (o : Option NativeRow) (k : ValueKind) (x : Of k) → row_kinds o ≡ Some (k ∷ []) → (a : rows.Answer) × (to_one k x o ≡ Some a)
one_answers None k x e = absurd cc
one_answers (Some (native [] act)) k x e = absurd cc
one_answers (Some (native (kinds.Int ∷ []) act)) kinds.Int x e = (act x, refl)
one_answers (Some (native (kinds.Int ∷ []) act)) kinds.Long x e = absurd cc
one_answers (Some (native (kinds.Int ∷ []) act)) kinds.Reference x e = absurd cc
one_answers (Some (native (kinds.Long ∷ []) act)) kinds.Int x e = absurd cc
one_answers (Some (native (kinds.Long ∷ []) act)) kinds.Long x e = (act x, refl)
one_answers (Some (native (kinds.Long ∷ []) act)) kinds.Reference x e = absurd cc
one_answers (Some (native (kinds.Reference ∷ []) act)) kinds.Int x e = absurd cc
one_answers (Some (native (kinds.Reference ∷ []) act)) kinds.Long x e = absurd cc
one_answers (Some (native (kinds.Reference ∷ []) act)) kinds.Reference x e = (act x, refl)
one_answers (Some (native (j ∷ l ∷ ks) act)) k x e = absurd cc

pub none_answers : (o : Option NativeRow) → row_kinds o ≡ Some [] → (a : rows.Answer) × (row_answer o ≡ Some a)
none_answers None e = absurd cc
none_answers (Some (native [] act)) e = (act, refl)
none_answers (Some (native (j ∷ ks) act)) e = absurd cc

first_given : (k : ValueKind) (act : Function (k ∷ kinds.Reference ∷ []) rows.Answer) (x : Of k) (this : Of kinds.Reference) →
    to_two k x this (Some (native (k ∷ kinds.Reference ∷ []) act)) ≡ Some (act x this)
first_given kinds.Int act x this = refl
first_given kinds.Long act x this = refl
first_given kinds.Reference act x this = refl

pub two_answer : (o : Option NativeRow) (k : ValueKind) (x : Of k) (this : Of kinds.Reference) → row_kinds o ≡ Some (k ∷ kinds.Reference ∷ []) →
    (a : rows.Answer) × (to_two k x this o ≡ Some a)
two_answer None k x this e = absurd cc
two_answer (Some (native takes act)) k x this e =
    let is : takes ≡ k ∷ kinds.Reference ∷ [] = cc in
    subst (λ (ks : List ValueKind). (act : Function ks rows.Answer) → (a : rows.Answer) × (to_two k x this (Some (native ks act)) ≡ Some a)) (sym is)
    (λ act. (act x this, first_given k act x this)) act

pub row_takes_none : (w : World) (r : Memory) (n : Native) → native_takes n ≡ Some [] → (a : rows.Answer) × (answer_to_none w r n ≡ Some a)
row_takes_none w r n e = none_answers (native_row w r n) (rows_take w r n ∙ e)

pub row_takes_one : (w : World) (r : Memory) (n : Native) (k : ValueKind) (x : Of k) → native_takes n ≡ Some (k ∷ []) → (a : rows.Answer) × (answer_to w r n k x ≡ Some a)
row_takes_one w r n k x e = one_answers (native_row w r n) k x (rows_take w r n ∙ e)

pub row_takes_two : (w : World) (r : Memory) (n : Native) (k : ValueKind) (x : Of k) (this : Of kinds.Reference) → native_takes n ≡ Some (k ∷ kinds.Reference ∷ []) →
    (a : rows.Answer) × (answer_to_two w r n k x this ≡ Some a)
row_takes_two w r n k x this e = two_answer (native_row w r n) k x this (rows_take w r n ∙ e)

-- ---- the field of a builder, which can be set where it was read

front_at : {A : Type 0} (xs ys : List A) (p : ℕ) (x : A) → slice_get xs p ≡ Some x → slice_get (xs ++ ys) p ≡ Some x
front_at [] ys p x e = cc
front_at (y ∷ xs) ys zero x e = e
front_at (y ∷ xs) ys (suc p) x e = front_at xs ys p x e

conflict : {A : Type 0} (x : A) → ◌≡◌ {A = Option A} (Some x) None → ⊥
conflict x e = cc

set_first : (r : Memory) (o : ℕ) (v : Value) (x : Object) (fields : List Value) (first : Value) → slice_get r.heap o ≡ Some x → values_of x ≡ Some fields →
    slice_get fields 0 ≡ Some first → with_value r o 0 v ≡ None → ⊥
set_first r o v (text units) fields first at of has none = cc
set_first r o v (instance class values) [] first at of has none = cc
set_first r o v (instance class []) (f ∷ fields) first at of has none = cc
set_first r o v (instance class (g ∷ values)) (f ∷ fields) first at of has none =
    let set : with_value r o 0 v ≡ Some (record r { heap = slice_set r.heap o (instance class (slice_set (g ∷ values) 0 v)) }) =
    bind_is (slice_get r.heap o) _ (instance class (g ∷ values)) _ at
    (ap (λ (items : Option (List Value)). items >>= λ others. Some (record r { heap = slice_set r.heap o (instance class others) })) (item_set 0 v (g ∷ values) (omega arith))) in
    conflict _ (sym set ∙ none)

-- the memory with one more text, and its number
abbrev one_more : Memory → List ℕ → Memory × ℕ
one_more q units = (record q { heap = q.heap ++ text units ∷ []; room = q.room - cells_of_units (length units) }, length q.heap)

text_made : (q middle : Memory) (units : List ℕ) (number : ℕ) → with_text q units ≡ Some (middle, number) → middle.heap ≡ q.heap ++ text units ∷ []
text_made q middle units number = by (nat_le (cells_of_units (length units)) q.room)
  where
    by : (b : Bool) → (if b then Some (one_more q units) else None) ≡ Some (middle, number) → middle.heap ≡ q.heap ++ text units ∷ []
    by true e = let is : one_more q units ≡ (middle, number) = cc in ap (λ (x : Memory × ℕ). x.0.heap) (sym is)
    by false e = cc

pub builder_settable : (q middle : Memory) (o number : ℕ) (before units : List ℕ) (v : Value) → Some before ≡ builder_text q o → with_text q units ≡ Some (middle, number) →
    with_value middle o 0 v ≡ None → ⊥
builder_settable q middle o number before units v found made none =
    let first = some_is (slice_get q.heap o >>= values_of) (λ fields. slice_get fields 0 >>= text_in q) before (sym found) in
    let object = some_is (slice_get q.heap o) values_of first.0 first.1 in
    let field = some_is (slice_get first.0 0) (text_in q) before first.2 in
    set_first middle o v object.0 first.0 field.0
    (ap (λ (heap : List Object). slice_get heap o) (text_made q middle units number made) ∙ front_at q.heap (text units ∷ []) o object.0 object.1) object.2 field.1 none
