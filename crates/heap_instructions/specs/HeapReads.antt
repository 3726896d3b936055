-- What is read of the objects of a heap, by number.
use Rattle.std.specs.Prelude.{ℕ, ℤ, ◌≡◌, List, Option, Bool, true, false, Some, None, Result, Ok, Err, IfSome, length, slice_get}
use Rattle.std.specs.Option.{option_map}
use Rattle.items.specs.Options.{◌>>=◌}
use Rattle.instruction_rows.specs.declared.value.Value.{Value}
use Rattle.instruction_rows.specs.Contents.{with_item}
use Rattle.link_model.specs.World.{World}
use Rattle.state_model.specs.Objects.{Object}
use Rattle.heap_objs.specs.Heap as objects
use Rattle.heap_objs.specs.Heap.{Heap}
use Rattle.ref_model.specs.Heap.{Array, array_of, class_of, values_of, with_value}
use Rattle.ref_model.specs.Memory.{Memory}
use Rattle.ref_model.specs.Members.{field_place}
use Rattle.ref_model.specs.Effects.{Effect, throws, on_instance}
use Rattle.ref_model.specs.declared.exception.Exception.{Exception}
use Rattle.link_model.specs.declared.sites.Resolution.{Resolution}
use Rattle.opcodes.specs.declared.op.Element.{Element}
use Rattle.link_model.specs.declared.sites.ArrayType.{ArrayType}
use Rattle.ref_model.specs.Arrays.{on_array_of, on_place, place_in, may_hold}
use Rattle.heap_instructions.specs.declared.fields.FieldTarget.{FieldTarget}
use Rattle.heap_instructions.specs.declared.arrays.ElementTarget.{ElementTarget}
use Rattle.heap_instructions.specs.Outcomes.{with_heap}
use Rattle.heap_instructions.specs.declared.reads.ArrayView.{ArrayView}

-- the number of an object's class
abbrev pub class_number : World → List Object → ℕ → Option ℕ
class_number w heap o = slice_get heap o >>= class_of w

-- the value of an object at a place
abbrev pub value_in : List Object → ℕ → ℕ → Option Value
value_in heap o place = slice_get heap o >>= values_of >>= λ values. slice_get values place

-- an array as it is seen, with its values
abbrev pub array_seen : List Value → ArrayView → Array
array_seen values a = record { class = a.class; type = a.kind; values = values }

-- what is seen of the array with a number
pub record IsArrayAt (w : World) (heap : List Object) (o : ℕ) (found : Option ArrayView) : Type 0 where
  pub array : (slice_get heap o >>= array_of w) ≡ option_map (array_seen (objects.values_at heap o)) found
  pub len : IfSome found (λ a. a.len ≡ length (objects.values_at heap o))

-- Whether the list has another item at a place now; where it has no such place it is as before.
abbrev pub IsPut : ℕ → Value → List Value → List Value → Bool → Type 0
IsPut place v old new true = with_item place v old ≡ Some new
IsPut place v old new false = (with_item place v old ≡ None) × (new ≡ old)

-- The same of the values of an object.
abbrev pub IsValueSet : ℕ → ℕ → Value → Heap → Heap → Bool → Type 0
IsValueSet o place v old new true = (r : Memory) → with_value (with_heap old r) o place v ≡ Some (with_heap new r)
IsValueSet o place v old new false = ((r : Memory) → with_value (with_heap old r) o place v ≡ None) × (new ≡ old)

-- Where the object of a field instruction and the place of its field are known, the instruction does with them what it does; otherwise it
-- throws this exception, or has no effect.
abbrev pub TargetGives : (ℕ → ℕ → Option Effect) → Option Effect → Option (Result FieldTarget Exception) → Type 0
TargetGives act effect (Some (Ok t)) = effect ≡ act t.object t.place
TargetGives act effect (Some (Err e)) = effect ≡ Some (throws e)
TargetGives act effect None = effect ≡ None

abbrev pub IsTarget : World → Resolution → Heap → ℕ → Option ℕ → Option (Result FieldTarget Exception) → Type 0
IsTarget w resolution heap n reference found = (r : Memory) (act : ℕ → ℕ → Option Effect) →
    TargetGives act (on_instance w resolution (with_heap heap r) reference (λ o class. field_place w n >>= λ place. act o place)) found

-- Where the array of a load or a store and the place of its element are known, the instruction does with them what it does; otherwise it
-- throws this exception.
abbrev pub ElementGives : Heap → (ℕ → Array → ℕ → Option Effect) → Option Effect → Result ElementTarget Exception → Type 0
ElementGives heap act effect (Ok t) = effect ≡ act t.object (array_seen (objects.values_at heap.objects t.object) t.array) t.place
ElementGives heap act effect (Err e) = effect ≡ Some (throws e)

abbrev pub IsElementTarget : World → Element → Heap → Option ℕ → ℤ → Result ElementTarget Exception → Type 0
IsElementTarget w element heap reference index target = (r : Memory) (act : ℕ → Array → ℕ → Option Effect) →
    ElementGives heap act (on_array_of w (with_heap heap r) element reference (λ o a. on_place (place_in index a) (act o a))) target

-- whether a value may be stored into an array
abbrev pub IsHolding : World → Heap → ArrayType → Value → Option Bool → Type 0
IsHolding w heap kind v found = (r : Memory) (a : Array) → a.type ≡ kind → may_hold w (with_heap heap r) a v ≡ found

-- What making an object gave: its number and the heap with it, or that it has no room, and nothing has changed.
abbrev pub IsMade : (Memory → Option (Memory × ℕ)) → Heap → Heap → Option ℕ → Type 0
IsMade make old new (Some o) = (r : Memory) → make (with_heap old r) ≡ Some (with_heap new r, o)
IsMade make old new None = ((r : Memory) → make (with_heap old r) ≡ None) × (new ≡ old)
