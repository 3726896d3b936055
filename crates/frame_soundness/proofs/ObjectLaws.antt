-- Objects keep kinds.
use Rattle.std.proofs.Common.{◌≡◌, ◌⊎◌, inl, inr, ℕ, zero, suc, ◌-◌, ℤ, pos, Bool, true, false, List, [], ◌∷◌, ◌++◌, length, replicate, Option, Some, None, Result, Ok, refl, ap, sym, subst, ◌∙◌}
use Rattle.std.specs.Prelude.{map, int_lt, nat_le, slice_get, unsigned_abs, if◌then◌else◌}
use Rattle.std.specs.Option.{option_map_or}
use Rattle.std.specs.List.{AllZip}
use Rattle.items.specs.First.{Each}
use Rattle.items.specs.Options.{◌>>=◌}
use Rattle.items.proofs.Binds.{some_is}
use Rattle.opcodes.specs.declared.op.ValueKind.{ValueKind}
use Rattle.opcodes.specs.declared.op.ValueKind.TheVariants as kinds
use Rattle.stack_maps.specs.declared.types.VType.{VType}
use Rattle.stack_maps.specs.declared.types.VType.TheVariants as types
use Rattle.instruction_rows.specs.declared.row_why.RowWhy.{RowWhy}
use Rattle.instruction_rows.specs.declared.value.Value.{Value}
use Rattle.instruction_rows.specs.declared.value.Value.TheVariants as values
use Rattle.instruction_rows.specs.declared.value.Slot.{Slot}
use Rattle.instruction_rows.specs.Results.{◌then◌}
use Rattle.instruction_rows.specs.Kinds.{kind_of, kind_of_type}
use Rattle.instruction_rows.specs.SlotEffect.{popped}
use Rattle.instruction_rows.specs.TypeEffect.{type_popped, type_pushed}
use Rattle.instruction_rows.specs.Soundness.{AreOf}
use Rattle.instruction_rows.proofs.KindLaws.{holds, is_of, pushed_kinds}
use Rattle.instruction_rows.proofs.ListLaws.{append_of}
use Rattle.instruction_rows.proofs.StackLaws.{popped_of}
use Rattle.instruction_rows.proofs.Steps.{ok_is}
use Rattle.link_model.specs.declared.members.FieldInfo.{FieldInfo}
use Rattle.link_model.specs.declared.sites.Resolution.{Resolution}
use Rattle.link_model.specs.World.{World, array_type, class_type}
use Rattle.verify_types.specs.ClassTypes.{object_type}
use Rattle.verify_types.specs.Operands.{wanted}
use Rattle.verify_types.specs.Objects.{class_of as typed_class, object_taken}
use Rattle.state_model.specs.Objects.{Object, instance}
use Rattle.ref_model.specs.declared.exception.Exception.TheVariants as exceptions
use Rattle.ref_model.specs.Classes.{is_sub}
use Rattle.ref_model.specs.Kinds.{zero_of_kind, zero_of, value_kind, kind_of_elements}
use Rattle.ref_model.specs.Members.{instance_fields, field_zero, new_values}
use Rattle.ref_model.specs.Memory.{Memory}
use Rattle.ref_model.specs.Heap.{class_at, cells_of_values, with_objects, with_instance}
use Rattle.ref_model.specs.Fetch.{class_of}
use Rattle.ref_model.specs.Effects.{Effect, done, gives, gives_new, throws}
use Rattle.ref_model.specs.Arrays.{element_zero, with_array, not_negative, array_made}
use Rattle.ref_model.specs.Instances.{object_made, cast, object_cast, judged, object_judged}
use Rattle.frame_soundness.specs.StateKinds.{IsOfKind, kind_of_field, field_kind, ValuesFit, ObjectFits, MemoryFits}
use Rattle.frame_soundness.specs.EventLaws.{IsKept, IsObjectResolution}
use Rattle.frame_soundness.proofs.Arguments.{on_top}
use Rattle.frame_soundness.proofs.Exceptions.{class_kind}
use Rattle.frame_soundness.proofs.ValueLaws.{wanted_popped}
use Rattle.frame_soundness.proofs.FieldLaws.{kept_is, same_popped}

-- ---- checkcast

-- what is taken as an Object is a reference
as_class : (w : World) (class : ℕ) (tops : List Slot) → AreOf (object_type w ∷ []) tops → AreOf (class_type w class ∷ []) tops
as_class w class [] of = absurd of
as_class w class (slot ∷ rest) of =
    (is_of kinds.Reference (class_type w class) slot (class_kind w class) (holds kinds.Reference (object_type w) slot refl of.0), of.1)

same_pair : (a b : ℕ × List VType) → ◌≡◌ {A = Result (ℕ × List VType) RowWhy} (Ok a) (Ok b) → a ≡ b
same_pair a b e = cc

cast_keeps : (w : World) (class : ℕ) (r : Memory) (reference : Option ℕ) (ts : List VType) (xs : List Slot) (effect : Effect) → MemoryFits w r
    → AreOf ts xs → cast w class r reference xs ≡ Some effect → IsKept w ts effect
cast_keeps w class r None ts xs effect fits of e = kept_is w ts (done r xs) effect e (fits, of)
cast_keeps w class r (Some o) ts xs effect fits of e =
    let c = some_is (class_at w r o) (λ c. Some (if is_sub w c class then done r xs else throws exceptions.ClassCastException)) effect e in
    kept_is w ts (if is_sub w c.0 class then done r xs else throws exceptions.ClassCastException) effect c.2 (by (is_sub w c.0 class))
  where
    by : (b : Bool) → IsKept w ts (if b then done r xs else throws exceptions.ClassCastException)
    by true = (fits, of)
    by false = tt

pub casts_keep : (w : World) (resolution : Resolution) (r : Memory) (ts rest : List VType) (class : ℕ) (xs : List Slot) (effect : Effect)
    → MemoryFits w r → AreOf ts xs → object_taken w resolution ts ≡ Ok (class, rest) → object_cast w resolution r xs ≡ Some effect
    → IsKept w (class_type w class ∷ rest) effect
casts_keep w resolution r ts rest class xs effect fits of taken e =
    let c = ok_is (typed_class resolution.site) (λ class. wanted w (object_type w) ts then λ (rest : List VType). Ok (class, rest)) (class, rest) taken in
    let below = ok_is (wanted w (object_type w) ts) (λ (rest : List VType). Ok (c.0, rest)) (class, rest) c.2 in
    let same = same_pair (c.0, below.0) (class, rest) below.2 in
    let top = on_top w (object_type w) ts below.0 xs below.1 of in
    let slots : AreOf (class_type w class ∷ below.0) (top.tops ++ top.left) =
    append_of (class_type w class ∷ []) below.0 top.tops top.left (as_class w class top.tops top.of) top.below in
    let all : AreOf (class_type w class ∷ rest) xs =
    subst (λ (us : List VType). AreOf (class_type w class ∷ us) xs) (ap (λ (x : ℕ × List VType). x.1) same)
    (subst (λ (ys : List Slot). AreOf (class_type w class ∷ below.0) ys) (sym top.is) slots) in
    let k = some_is (class_of resolution.site) (λ k. popped kinds.Reference xs >>= λ x. cast w k r x.0 xs) effect e in
    let x = some_is (popped kinds.Reference xs) (λ x. cast w k.0 r x.0 xs) effect k.2 in
    cast_keeps w k.0 r x.0.0 (class_type w class ∷ rest) xs effect fits all x.2

-- ---- instanceof

judged_keeps : (w : World) (class : ℕ) (r : Memory) (reference : Option ℕ) (rest : List VType) (left : List Slot) (effect : Effect)
    → MemoryFits w r → AreOf rest left → judged w class r reference left ≡ Some effect → IsKept w (types.Int ∷ rest) effect
judged_keeps w class r None rest left effect fits of e =
    kept_is w (types.Int ∷ rest) (gives r (values.Int (pos 0)) left) effect e
    (fits, pushed_kinds types.Int (values.Int (pos 0)) rest left refl of)
judged_keeps w class r (Some o) rest left effect fits of e =
    let c = some_is (class_at w r o) (λ c. Some (gives r (values.Int (if is_sub w c class then pos 1 else pos 0)) left)) effect e in
    let n = if is_sub w c.0 class then pos 1 else pos 0 in
    kept_is w (types.Int ∷ rest) (gives r (values.Int n) left) effect c.2
    (fits, pushed_kinds types.Int (values.Int n) rest left refl of)

pub judgements_keep : (w : World) (resolution : Resolution) (r : Memory) (ts rest : List VType) (class : ℕ) (xs : List Slot) (effect : Effect)
    → MemoryFits w r → AreOf ts xs → object_taken w resolution ts ≡ Ok (class, rest) → object_judged w resolution r xs ≡ Some effect
    → IsKept w (types.Int ∷ rest) effect
judgements_keep w resolution r ts rest class xs effect fits of taken e =
    let c = ok_is (typed_class resolution.site) (λ class. wanted w (object_type w) ts then λ (rest : List VType). Ok (class, rest)) (class, rest) taken in
    let below = ok_is (wanted w (object_type w) ts) (λ (rest : List VType). Ok (c.0, rest)) (class, rest) c.2 in
    let same = same_pair (c.0, below.0) (class, rest) below.2 in
    let pop = wanted_popped w (object_type w) kinds.Reference ts below.0 xs refl below.1 of in
    let k = some_is (class_of resolution.site) (λ k. popped kinds.Reference xs >>= λ x. judged w k r x.0 x.1) effect e in
    let x = some_is (popped kinds.Reference xs) (λ x. judged w k.0 r x.0 x.1) effect k.2 in
    let same_pop = same_popped (popped kinds.Reference xs) (pop.value, pop.left) x.0 pop.is x.1 in
    let left : AreOf rest x.0.1 =
    subst (λ (us : List VType). AreOf us x.0.1) (ap (λ (y : ℕ × List VType). y.1) same)
    (subst (λ (y : Option ℕ × List Slot). AreOf below.0 y.1) same_pop pop.below) in
    judged_keeps w k.0 r x.0.0 rest x.0.1 effect fits left x.2

-- ---- new objects

record Later {A : Type 0} (ys : List A) (y : A) : Type 0 where
  pub place : ℕ
  pub is : slice_get ys place ≡ Some y

join_at : {A : Type 0} (xs ys : List A) (p : ℕ) (y : A) → slice_get (xs ++ ys) p ≡ Some y → (slice_get xs p ≡ Some y) ⊎ Later ys y
join_at [] ys p y e = inr (record { place = p; is = e })
join_at (x ∷ xs) ys zero y e = inl e
join_at (x ∷ xs) ys (suc p) y e = join_at xs ys p y e

pub each_at : {A : Type 0} (P : A → Type 0) (xs : List A) (n : ℕ) (x : A) → Each P xs → slice_get xs n ≡ Some x → P x
each_at P [] n x each e = absurd cc
each_at P (y ∷ ys) zero x each e = let same : y ≡ x = cc in subst P same each.0
each_at P (y ∷ ys) (suc n) x each e = each_at P ys n x each.1 e

-- the memory with new objects
pub more_fits : (w : World) (r : Memory) (cells : ℕ) (objects : List Object) → MemoryFits w r → Each (ObjectFits w) objects
    → MemoryFits w (record r { heap = r.heap ++ objects; room = r.room - cells })
more_fits w r cells objects fits each = record { heap = λ p y e. by p y (join_at r.heap objects p y e); statics = fits.statics }
  where
    by : (p : ℕ) (y : Object) → (slice_get r.heap p ≡ Some y) ⊎ Later objects y → ObjectFits w y
    by p y (inl e) = fits.heap p y e
    by p y (inr later) = each_at (ObjectFits w) objects later.place y each later.is

-- a new object is pushed, where there is room
pub made_keeps : (w : World) (r : Memory) (cells : ℕ) (objects : List Object) (t : VType) (rest : List VType) (left : List Slot)
    (effect : Effect) → MemoryFits w r → Each (ObjectFits w) objects → kind_of_type t ≡ Some kinds.Reference → AreOf rest left
    → ◌≡◌ {A = Option Effect} (Some (gives_new (with_objects r cells objects) left)) (Some effect) → IsKept w (type_pushed t rest) effect
made_keeps w r cells objects t rest left effect fits each kind of e =
    kept_is w (type_pushed t rest) (gives_new (with_objects r cells objects) left) effect e (by (nat_le cells r.room))
  where
    by : (b : Bool) → IsKept w (type_pushed t rest) (gives_new
        (if b then Some (record r { heap = r.heap ++ objects; room = r.room - cells }, length r.heap) else None) left)
    by false = tt
    by true = (more_fits w r cells objects fits each, pushed_kinds t (values.Ref (length r.heap)) rest left kind of)

zero_kind : (k : ValueKind) → kind_of (zero_of_kind k) ≡ k
zero_kind kinds.Int = refl
zero_kind kinds.Long = refl
zero_kind kinds.Reference = refl

field_zero_kind : (w : World) (n : ℕ) → kind_of (field_zero w n) ≡ field_kind w n
field_zero_kind w n = by (slice_get w.fields n)
  where
    by : (o : Option FieldInfo) → kind_of (option_map_or (λ (f : FieldInfo). zero_of f.kind) o values.Null) ≡ option_map_or kind_of_field o kinds.Reference
    by None = refl
    by (Some f) = zero_kind (value_kind f.kind)

zeros_fit : (w : World) (ns : List ℕ) → AllZip IsOfKind (map (field_kind w) ns) (map (field_zero w) ns)
zeros_fit w [] = tt
zeros_fit w (n ∷ ns) = (field_zero_kind w n, zeros_fit w ns)

-- an object whose fields have their first values
pub new_fits : (w : World) (class : ℕ) → array_type w class ≡ None → ObjectFits w (instance class (new_values w class))
new_fits w class no_array =
    subst (ValuesFit w class (new_values w class)) (sym no_array) (zeros_fit w (instance_fields w class))

pub new_objects_keep : (w : World) (resolution : Resolution) (r : Memory) (pc : ℕ) (ts : List VType) (xs : List Slot) (effect : Effect)
    → IsObjectResolution w resolution → MemoryFits w r → AreOf ts xs → object_made w resolution r xs ≡ Some effect
    → IsKept w (types.Uninit pc ∷ ts) effect
new_objects_keep w resolution r pc ts xs effect no_array fits of e =
    let class = some_is (class_of resolution.site) (λ class. Some (gives_new (with_instance r class (new_values w class)) xs)) effect e in
    made_keeps w r (cells_of_values (length (new_values w class.0))) (instance class.0 (new_values w class.0) ∷ []) (types.Uninit pc) ts xs
    effect fits (new_fits w class.0 (no_array class.0 class.1), tt) refl of class.2

-- ---- newarray, anewarray

replicated : (k : ValueKind) (n : ℕ) (v : Value) → kind_of v ≡ k → Each (IsOfKind k) (replicate n v)
replicated k zero v is = tt
replicated k (suc n) v is = (is, replicated k n v is)

pub array_fits : (w : World) (class n : ℕ) (v : Value) → element_zero w class ≡ Some v → ObjectFits w (instance class (replicate n v))
array_fits w class n v e =
    let t = some_is (array_type w class) (λ t. Some (zero_of_kind (kind_of_elements t))) v e in
    let same : zero_of_kind (kind_of_elements t.0) ≡ v = inside (zero_of_kind (kind_of_elements t.0)) v t.2 in
    subst (ValuesFit w class (replicate n v)) (sym t.1)
    (replicated (kind_of_elements t.0) n v (ap kind_of (sym same) ∙ zero_kind (kind_of_elements t.0)))
  where
    inside : (a b : Value) → ◌≡◌ {A = Option Value} (Some a) (Some b) → a ≡ b
    inside a b e = cc

pub new_arrays_keep : (w : World) (resolution : Resolution) (r : Memory) (t : VType) (ts : List VType) (x : VType × List VType) (xs : List Slot)
    (effect : Effect) → MemoryFits w r → AreOf ts xs → kind_of_type t ≡ Some kinds.Reference → type_popped kinds.Int ts ≡ Ok x
    → array_made w resolution r xs ≡ Some effect → IsKept w (type_pushed t x.1) effect
new_arrays_keep w resolution r t ts taken_types xs effect fits of kind taken e =
    let rest = taken_types.1 in
    let pop = popped_of kinds.Int ts taken_types xs taken of in
    let class = some_is (class_of resolution.site) (λ class. popped kinds.Int xs >>= λ x. element_zero w class >>= λ v.
    not_negative (int_lt x.0 (pos 0)) (Some (gives_new (with_array r class (unsigned_abs x.0) v) x.1))) effect e in
    let x = some_is (popped kinds.Int xs) (λ x. element_zero w class.0 >>= λ v.
    not_negative (int_lt x.0 (pos 0)) (Some (gives_new (with_array r class.0 (unsigned_abs x.0) v) x.1))) effect class.2 in
    let v = some_is (element_zero w class.0) (λ v.
    not_negative (int_lt x.0.0 (pos 0)) (Some (gives_new (with_array r class.0 (unsigned_abs x.0.0) v) x.0.1))) effect x.2 in
    let same = same_int (popped kinds.Int xs) (pop.value, pop.left) x.0 pop.is x.1 in
    let left : AreOf rest x.0.1 = subst (λ (y : ℤ × List Slot). AreOf rest y.1) same pop.of in
    by class.0 (unsigned_abs x.0.0) v.0 x.0.1 left v.1 (int_lt x.0.0 (pos 0)) v.2
  where
    same_int : (o : Option (ℤ × List Slot)) (a b : ℤ × List Slot) → o ≡ Some a → o ≡ Some b → a ≡ b
    same_int o a b x y = cc

    by : (class n : ℕ) (v : Value) (left : List Slot) → AreOf taken_types.1 left → element_zero w class ≡ Some v → (b : Bool)
        → not_negative b (Some (gives_new (with_array r class n v) left)) ≡ Some effect → IsKept w (type_pushed t taken_types.1) effect
    by class n v left of first true e = kept_is w (type_pushed t taken_types.1) (throws exceptions.NegativeArraySizeException) effect e tt
    by class n v left of first false e =
        made_keeps w r (cells_of_values n) (instance class (replicate n v) ∷ []) t taken_types.1 left effect fits
        (array_fits w class n v first, tt) kind of e
