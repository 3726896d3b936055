-- Arrays (JVMS 6.5): new ones, their lengths and their elements. Tests come in this order: null, the kind of the elements, index or
-- length, class of a stored object, room.
use Rattle.std.specs.Prelude.{ℕ, zero, suc, ◌+◌, ◌*◌, ℤ, pos, negsuc, Bool, true, false, List, [], ◌∷◌, ◌++◌, Option, Some, None, int_lt, length, map, nat_le, replicate, slice_get, unsigned_abs, if◌then◌else◌}
use Rattle.std.specs.List.{list_any, range_with_len}
use Rattle.items.specs.Options.{◌>>=◌}
use Rattle.opcodes.specs.declared.op.ValueKind.TheVariants as kinds
use Rattle.opcodes.specs.declared.op.Element.{Element}
use Rattle.stack_maps.specs.declared.types.VType.TheVariants as types
use Rattle.instruction_rows.specs.declared.value.Value.{Value}
use Rattle.instruction_rows.specs.declared.value.Value.TheVariants as values
use Rattle.instruction_rows.specs.declared.value.Slot.{Slot}
use Rattle.instruction_rows.specs.Kinds.{value, kind_of_element}
use Rattle.instruction_rows.specs.SlotEffect.{popped}
use Rattle.link_model.specs.declared.sites.Resolution.{Resolution}
use Rattle.link_model.specs.World.{World, array_type}
use Rattle.verify_types.specs.Operands.{serves}
use Rattle.state_model.specs.Objects.{Object, instance}
use Rattle.ref_model.specs.declared.exception.Exception.TheVariants as exceptions
use Rattle.ref_model.specs.Classes.{element_of, array_class, is_element}
use Rattle.ref_model.specs.Kinds.{zero_of_kind, kind_of_elements, kept_in}
use Rattle.ref_model.specs.Memory.{Memory}
use Rattle.ref_model.specs.Heap.{Array, array_at, class_at, with_value, with_objects, cells_of_values}
use Rattle.ref_model.specs.Fetch.{class_of}
use Rattle.ref_model.specs.Effects.{Effect, done, gives, gives_new, throws, not_null}

-- ---- the array of an instruction

-- Null throws NullPointerException, and what is no array VerifyError. (own: a typed program has an array there)
abbrev pub on_found : Option Array → (Array → Option Effect) → Option Effect
on_found None act = Some (throws exceptions.VerifyError)
on_found (Some a) act = act a

abbrev pub on_array : World → Memory → Option ℕ → (ℕ → Array → Option Effect) → Option Effect
on_array w r reference act = not_null reference (λ o. on_found (array_at w r o) (act o))

-- the same of an array with such elements; baload and bastore serve boolean too
abbrev pub on_array_of : World → Memory → Element → Option ℕ → (ℕ → Array → Option Effect) → Option Effect
on_array_of w r element reference act = on_array w r reference (λ o a.
    if serves element (types.Named a.type.dimensions a.type.base) then act o a else Some (throws exceptions.VerifyError))

-- the place that an index names
abbrev pub place_in : ℤ → Array → Option ℕ
place_in (pos n) a = if nat_le (suc n) (length a.values) then Some n else None
place_in (negsuc n) a = None

abbrev pub on_place : Option ℕ → (ℕ → Option Effect) → Option Effect
on_place None act = Some (throws exceptions.ArrayIndexOutOfBoundsException)
on_place (Some place) act = act place

-- ---- lengths and elements

-- arraylength
abbrev pub length_gotten : World → Memory → List Slot → Option Effect
length_gotten w r stack =
    popped kinds.Reference stack >>= λ x.
    on_array w r x.0 (λ o a. Some (gives r (values.Int (pos (length a.values))) x.1))

-- iaload, laload, aaload, baload, caload, saload
abbrev pub array_loaded : World → Element → Memory → List Slot → Option Effect
array_loaded w element r stack = do
  x ← popped kinds.Int stack
  y ← popped kinds.Reference x.1
  on_array_of w r element y.0 (λ o a. on_place (place_in x.0 a) (λ place.
      slice_get a.values place >>= λ v. Some (gives r v y.1)))

-- whether a value may be an element: of an object its class decides (JVMS 6.5: aastore)
abbrev pub may_hold : World → Memory → Array → Value → Option Bool
may_hold w r a (values.Ref o) = class_at w r o >>= λ class. Some (is_element w class a.type)
may_hold w r a v = Some true

-- the memory with the value stored, or ArrayStoreException
abbrev pub held_or_thrown : Bool → Option Memory → List Slot → Option Effect
held_or_thrown false after rest = Some (throws exceptions.ArrayStoreException)
held_or_thrown true after rest = after >>= λ q. Some (done q rest)

-- iastore, lastore, aastore, bastore, castore, sastore
abbrev pub array_stored : World → Element → Memory → List Slot → Option Effect
array_stored w element r stack = do
  x ← popped (kind_of_element element) stack
  y ← popped kinds.Int x.1
  z ← popped kinds.Reference y.1
  on_array_of w r element z.0 (λ o a. on_place (place_in y.0 a) (λ place. do
    held ← may_hold w r a (value (kind_of_element element) x.0)
    held_or_thrown held (with_value r o place (kept_in a.type (value (kind_of_element element) x.0))) z.1))

-- ---- new arrays

-- the value of the elements of a new array of this class
abbrev pub element_zero : World → ℕ → Option Value
element_zero w class = array_type w class >>= λ t. Some (zero_of_kind (kind_of_elements t))

-- so many elements of a new array; the room is tested before
abbrev pub with_array : Memory → ℕ → ℕ → Value → Option (Memory × ℕ)
with_array r class n v = with_objects r (cells_of_values n) (instance class (replicate n v) ∷ [])

-- a negative length throws NegativeArraySizeException
abbrev pub not_negative : Bool → Option Effect → Option Effect
not_negative true made = Some (throws exceptions.NegativeArraySizeException)
not_negative false made = made

-- newarray, anewarray: the class is that of the array
abbrev pub array_made : World → Resolution → Memory → List Slot → Option Effect
array_made w resolution r stack = do
  class ← class_of resolution.site
  x ← popped kinds.Int stack
  v ← element_zero w class
  not_negative (int_lt x.0 (pos 0)) (Some (gives_new (with_array r class (unsigned_abs x.0) v) x.1))

-- ---- multianewarray. The lengths are those of the dimensions from the outermost on. An array of length 0 has no arrays below it.

-- the cells of the arrays of such lengths
abbrev pub cells_of_lengths : List ℕ → ℕ
cells_of_lengths [] = 0
cells_of_lengths (n ∷ ns) = cells_of_values n + n * cells_of_lengths ns

-- how many they are
abbrev pub array_count : List ℕ → ℕ
array_count [] = 0
array_count (n ∷ ns) = 1 + n * array_count ns

-- the class of the elements of an array class
abbrev pub element_class : World → ℕ → Option ℕ
element_class w class = array_type w class >>= λ t. array_class w (element_of t)

-- the number of the array at an index, where the outer one has this number, and the arrays below have these lengths
abbrev pub inner_number : ℕ → List ℕ → ℕ → ℕ
inner_number number ns index = number + 1 + index * array_count ns

-- all lists joined, undefined where one of them isn't
abbrev pub all_joined : {A : Type 0} → List (Option (List A)) → Option (List A)
all_joined [] = Some []
all_joined (x ∷ xs) = x >>= λ ys. all_joined xs >>= λ zs. Some (ys ++ zs)

-- The arrays of a class for these lengths, the outer one first with this number, and after it those below it, element by element.
abbrev pub arrays_from : World → List ℕ → ℕ → ℕ → Option (List Object)
arrays_from w [] number class = Some []
arrays_from w (n ∷ []) number class = element_zero w class >>= λ v. Some (instance class (replicate n v) ∷ [])
arrays_from w (n ∷ m ∷ ns) number class =
    element_class w class >>= λ inner.
    all_joined (map (λ index. arrays_from w (m ∷ ns) (inner_number number (m ∷ ns) index) inner) (range_with_len 0 n)) >>= λ below.
    Some (instance class (map (λ index. values.Ref (inner_number number (m ∷ ns) index)) (range_with_len 0 n)) ∷ below)

-- so many ints, the lowest first, and what lies below them
abbrev pub ints_popped : ℕ → List Slot → Option (List ℤ × List Slot)
ints_popped zero stack = Some ([], stack)
ints_popped (suc n) stack =
    popped kinds.Int stack >>= λ x. ints_popped n x.1 >>= λ y. Some (y.0 ++ x.0 ∷ [], y.1)

-- all are tested for room at once
abbrev pub with_arrays : World → Memory → ℕ → List ℕ → Option (Option (Memory × ℕ))
with_arrays w r class lengths =
    if nat_le (cells_of_lengths lengths) r.room
    then (arrays_from w lengths (length r.heap) class >>= λ objects. Some (with_objects r (cells_of_lengths lengths) objects))
    else Some None

abbrev pub arrays_made : World → ℕ → Resolution → Memory → List Slot → Option Effect
arrays_made w dimensions resolution r stack = do
  class ← class_of resolution.site
  x ← ints_popped dimensions stack
  not_negative (list_any (λ n. int_lt n (pos 0)) x.0)
      (with_arrays w r class (map unsigned_abs x.0) >>= λ made. Some (gives_new made x.1))
