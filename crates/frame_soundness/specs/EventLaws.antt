-- What fields do to frames and states whose values have the kinds of the typing.
use Rattle.std.specs.Prelude.{◌≡◌, ◌≤◌, ℕ, true, List, ◌∷◌, replicate, Option, Some, None, Ok, slice_get}
use Rattle.items.specs.Options.{◌>>=◌}
use Rattle.items.specs.First.{Each}
use Rattle.opcodes.specs.declared.op.Element.{Element}
use Rattle.opcodes.specs.declared.op.ValueKind.{ValueKind}
use Rattle.opcodes.specs.declared.op.ValueKind.TheVariants as kinds
use Rattle.stack_maps.specs.declared.types.VType.{VType}
use Rattle.stack_maps.specs.declared.types.VType.TheVariants as types
use Rattle.instruction_rows.specs.declared.value.Value.{Value}
use Rattle.instruction_rows.specs.declared.value.Slot.{Slot}
use Rattle.instruction_rows.specs.Kinds.{kind_of, kind_of_type}
use Rattle.instruction_rows.specs.SlotEffect.{popped, pushed}
use Rattle.instruction_rows.specs.TypeEffect.{type_popped, types_popped, type_pushed}
use Rattle.instruction_rows.specs.Soundness.{AreOf}
use Rattle.link_model.specs.declared.members.FieldInfo.{FieldInfo}
use Rattle.link_model.specs.declared.sites.ArrayType.{ArrayType}
use Rattle.link_model.specs.declared.sites.Resolution.{Resolution}
use Rattle.link_model.specs.World.{World, array_type, class_type}
use Rattle.verify_types.specs.Objects.{static_gotten as get_static_types, static_put as put_static_types, field_gotten as get_field_types, field_put as put_field_types, array_loaded as array_load_types, array_stored as array_store_types, length_gotten as length_types, object_taken}
use Rattle.ref_model.specs.Classes.{is_sub}
use Rattle.ref_model.specs.Members.{is_static_field, instance_fields, field_place}
use Rattle.ref_model.specs.Memory.{Memory}
use Rattle.ref_model.specs.Heap.{class_at}
use Rattle.ref_model.specs.Fetch.{field_of, class_of}
use Rattle.ref_model.specs.Requests.{request_result, calls}
use Rattle.ref_model.specs.Effects.{Effect, done, invokes, throws, throws_object, asks}
use Rattle.ref_model.specs.Fields.{stored, static_gotten, static_put, field_gotten, field_put}
use Rattle.ref_model.specs.Arrays.{array_loaded, array_stored, length_gotten, array_made, arrays_made}
use Rattle.ref_model.specs.Instances.{object_made, object_cast, object_judged}
use Rattle.frame_soundness.specs.StateKinds.{HasFieldKinds, MemoryFits}

-- what comes back of a request with this result: nothing, or a value of the kind
abbrev pub IsGivenBack : Option ValueKind → Option Value → Type 0
IsGivenBack None None = Unit {0}
IsGivenBack (Some k) (Some v) = kind_of v ≡ k
IsGivenBack result back = ⊥

abbrev pub with_back : Option Value → List Slot → List Slot
with_back None stack = stack
with_back (Some v) stack = pushed v stack

-- it holds of the operand stack, whatever comes back on it
abbrev pub WithBack : Option ValueKind → List Slot → (List Slot → Type 0) → Type 0
WithBack result stack Holds = (back : Option Value) → IsGivenBack result back → Holds (with_back back stack)

-- What an effect leaves, where the operands after the instruction have these types: values of their kinds, in memory and on the operand
-- stack. An exception changes nothing, and a request nothing yet.
abbrev pub IsKept : World → List VType → Effect → Type 0
IsKept w rest (done q stack) = MemoryFits w q × AreOf rest stack
IsKept w rest (invokes g stack) = ⊥
IsKept w rest (throws e) = Unit {0}
IsKept w rest (throws_object o) = Unit {0}
IsKept w rest (asks (calls o g) stack) = ⊥
IsKept w rest (asks q stack) = WithBack (request_result q) stack (λ xs. AreOf rest xs)

-- What linking gives: getstatic and putstatic name a static field (JVMS 6.5).
abbrev pub IsStaticResolution : World → Resolution → Type 0
IsStaticResolution w resolution = (n : ℕ) (f : FieldInfo) → field_of resolution.site ≡ Some n → slice_get w.fields n ≡ Some f → is_static_field f ≡ true

-- The objects of this class, where it is below the one that is named, have the field at its place, and aren't arrays (JVMS 5.4.3.2, 6.5).
abbrev pub IsInstanceResolution : World → Resolution → ℕ → Type 0
IsInstanceResolution w resolution class = (n named place : ℕ) → field_of resolution.site ≡ Some n → resolution.class ≡ Some named →
    is_sub w class named ≡ true → field_place w n ≡ Some place →
    (slice_get (instance_fields w class) place ≡ Some n) × (array_type w class ≡ None)

-- what holds of the class of the object that is at hand, if it isn't null
abbrev pub OfReceiver : World → Memory → Option ℕ → (ℕ → Type 0) → Type 0
OfReceiver w r reference Holds = (o class : ℕ) → reference ≡ Some o → class_at w r o ≡ Some class → Holds class

-- the object on which getfield works: the reference on top
abbrev pub got_object : List Slot → Option ℕ
got_object stack = popped kinds.Reference stack >>= λ x. x.0

-- that of putfield: the reference below the value
abbrev pub put_object : World → Resolution → List Slot → Option ℕ
put_object w resolution stack =
    field_of resolution.site >>= λ n. slice_get w.fields n >>= λ f. stored f stack >>= λ x. popped kinds.Reference x.1 >>= λ y. y.0

abbrev pub StaticGetsKeep : Type 0
StaticGetsKeep = (w : World) (resolution : Resolution) (r : Memory) (ts rest : List VType) (xs : List Slot) (effect : Effect) →
    HasFieldKinds w → IsStaticResolution w resolution → MemoryFits w r → AreOf ts xs → get_static_types w resolution ts ≡ Ok rest →
    static_gotten w resolution r xs ≡ Some effect → IsKept w rest effect

abbrev pub StaticPutsKeep : Type 0
StaticPutsKeep = (w : World) (resolution : Resolution) (r : Memory) (ts rest : List VType) (xs : List Slot) (effect : Effect) →
    HasFieldKinds w → IsStaticResolution w resolution → MemoryFits w r → AreOf ts xs → put_static_types w resolution ts ≡ Ok rest →
    static_put w resolution r xs ≡ Some effect → IsKept w rest effect

abbrev pub FieldGetsKeep : Type 0
FieldGetsKeep = (w : World) (resolution : Resolution) (r : Memory) (ts rest : List VType) (xs : List Slot) (effect : Effect) →
    HasFieldKinds w → OfReceiver w r (got_object xs) (IsInstanceResolution w resolution) → MemoryFits w r → AreOf ts xs →
    get_field_types w resolution ts ≡ Ok rest →
    field_gotten w resolution r xs ≡ Some effect → IsKept w rest effect

abbrev pub FieldPutsKeep : Type 0
FieldPutsKeep = (w : World) (resolution : Resolution) (r : Memory) (own : ℕ) (ts rest : List VType) (xs : List Slot) (effect : Effect) →
    HasFieldKinds w → OfReceiver w r (put_object w resolution xs) (IsInstanceResolution w resolution) → MemoryFits w r → AreOf ts xs →
    put_field_types w own resolution ts ≡ Ok rest →
    field_put w resolution r xs ≡ Some effect → IsKept w rest effect

-- ---- arrays

abbrev pub ArrayLoadsKeep : Type 0
ArrayLoadsKeep = (w : World) (element : Element) (r : Memory) (ts rest : List VType) (xs : List Slot) (effect : Effect) →
    MemoryFits w r → AreOf ts xs → array_load_types element ts ≡ Ok rest → array_loaded w element r xs ≡ Some effect →
    IsKept w rest effect

abbrev pub ArrayStoresKeep : Type 0
ArrayStoresKeep = (w : World) (element : Element) (r : Memory) (ts rest : List VType) (xs : List Slot) (effect : Effect) →
    MemoryFits w r → AreOf ts xs → array_store_types w element ts ≡ Ok rest → array_stored w element r xs ≡ Some effect →
    IsKept w rest effect

abbrev pub LengthsKeep : Type 0
LengthsKeep = (w : World) (r : Memory) (ts rest : List VType) (xs : List Slot) (effect : Effect) →
    MemoryFits w r → AreOf ts xs → length_types ts ≡ Ok rest → length_gotten w r xs ≡ Some effect → IsKept w rest effect

-- ---- objects

abbrev pub CastsKeep : Type 0
CastsKeep = (w : World) (resolution : Resolution) (r : Memory) (ts rest : List VType) (class : ℕ) (xs : List Slot) (effect : Effect) →
    MemoryFits w r → AreOf ts xs → object_taken w resolution ts ≡ Ok (class, rest) → object_cast w resolution r xs ≡ Some effect →
    IsKept w (class_type w class ∷ rest) effect

abbrev pub JudgementsKeep : Type 0
JudgementsKeep = (w : World) (resolution : Resolution) (r : Memory) (ts rest : List VType) (class : ℕ) (xs : List Slot) (effect : Effect) →
    MemoryFits w r → AreOf ts xs → object_taken w resolution ts ≡ Ok (class, rest) → object_judged w resolution r xs ≡ Some effect →
    IsKept w (types.Int ∷ rest) effect

-- What linking gives: new names no array class (JVMS 6.5).
abbrev pub IsObjectResolution : World → Resolution → Type 0
IsObjectResolution w resolution = (class : ℕ) → class_of resolution.site ≡ Some class → array_type w class ≡ None

abbrev pub NewObjectsKeep : Type 0
NewObjectsKeep = (w : World) (resolution : Resolution) (r : Memory) (pc : ℕ) (ts : List VType) (xs : List Slot) (effect : Effect) →
    IsObjectResolution w resolution → MemoryFits w r → AreOf ts xs → object_made w resolution r xs ≡ Some effect →
    IsKept w (types.Uninit pc ∷ ts) effect

-- an array of any type, whose length is the int on top
abbrev pub NewArraysKeep : Type 0
NewArraysKeep = (w : World) (resolution : Resolution) (r : Memory) (t : VType) (ts : List VType) (x : VType × List VType) (xs : List Slot)
    (effect : Effect) → MemoryFits w r → AreOf ts xs → kind_of_type t ≡ Some kinds.Reference → type_popped kinds.Int ts ≡ Ok x →
    array_made w resolution r xs ≡ Some effect → IsKept w (type_pushed t x.1) effect

-- What a linked world has: an array type has one dimension at least (JVMS 4.3.2).
abbrev pub HasDimensions : World → Type 0
HasDimensions w = Each (λ (a : ArrayType). 1 ≤ a.dimensions) w.arrays

-- multianewarray, of so many lengths
abbrev pub NewArraysOfArraysKeep : Type 0
NewArraysOfArraysKeep = (w : World) (resolution : Resolution) (r : Memory) (dimensions : ℕ) (t : VType) (ts rest : List VType) (xs : List Slot)
    (effect : Effect) → HasDimensions w → MemoryFits w r → AreOf ts xs → kind_of_type t ≡ Some kinds.Reference →
    types_popped (replicate dimensions kinds.Int) ts ≡ Ok rest → arrays_made w dimensions resolution r xs ≡ Some effect →
    IsKept w (type_pushed t rest) effect
