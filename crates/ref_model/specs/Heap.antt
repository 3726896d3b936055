-- Objects of the heap (JVMS 2.5.3): what they are, and how new ones are made.
use Rattle.std.specs.Prelude.{ℕ, ◌+◌, ◌-◌, ◌/◌, List, [], ◌∷◌, ◌++◌, Option, Some, None, codes, length, nat_le, slice_get, slice_set, if◌then◌else◌}
use Rattle.std.specs.Option.{option_map}
use Rattle.items.specs.Options.{◌>>=◌}
use Rattle.instruction_rows.specs.declared.value.Value.{Value}
use Rattle.instruction_rows.specs.Contents.{with_item}
use Rattle.link_model.specs.declared.sites.ArrayType.{ArrayType}
use Rattle.link_model.specs.World.{World, array_type, name_number}
use Rattle.state_model.specs.Objects.{Object, instance, text}
use Rattle.ref_model.specs.Memory.{Memory}

-- ---- what an object is

abbrev pub object_at : Memory → ℕ → Option Object
object_at r o = slice_get r.heap o

-- the number of the class of an object
abbrev pub class_of : World → Object → Option ℕ
class_of w (instance class values) = Some class
class_of w (text units) = name_number w (codes "java/lang/String")

abbrev pub class_at : World → Memory → ℕ → Option ℕ
class_at w r o = object_at r o >>= class_of w

-- the units of a String
abbrev pub units_of : Object → Option (List ℕ)
units_of (text units) = Some units
units_of (instance class values) = None

abbrev pub units_at : Memory → ℕ → Option (List ℕ)
units_at r o = object_at r o >>= units_of

-- the values of the fields of an object
abbrev pub values_of : Object → Option (List Value)
values_of (instance class values) = Some values
values_of (text units) = None

abbrev pub values_at : Memory → ℕ → Option (List Value)
values_at r o = object_at r o >>= values_of

-- an array, its class, and the type of that
pub record Array : Type 0 where
  pub class : ℕ
  pub type : ArrayType
  pub values : List Value

abbrev pub array_of : World → Object → Option Array
array_of w (instance class values) = option_map (λ t. record { class = class; type = t; values = values }) (array_type w class)
array_of w (text units) = None

abbrev pub array_at : World → Memory → ℕ → Option Array
array_at w r o = object_at r o >>= array_of w

-- ---- changes

-- an object has this value at a place now
abbrev pub object_with : Memory → ℕ → ℕ → Value → Object → Option Memory
object_with r o place v (instance class values) =
    with_item place v values >>= λ others. Some (record r { heap = slice_set r.heap o (instance class others) })
object_with r o place v (text units) = None

abbrev pub with_value : Memory → ℕ → ℕ → Value → Option Memory
with_value r o place v = object_at r o >>= object_with r o place v

-- ---- new objects, which have the next number. They have to fit in the room that is left.

-- an object of so many fields, or an array of so many elements
abbrev pub cells_of_values : ℕ → ℕ
cells_of_values n = 1 + n

-- a String of so many units
abbrev pub cells_of_units : ℕ → ℕ
cells_of_units n = 1 + (n + 7) / 8

-- the memory with these objects too, which take so many cells, and the number of the first of them
abbrev pub with_objects : Memory → ℕ → List Object → Option (Memory × ℕ)
with_objects r cells objects =
    if nat_le cells r.room then Some (record r { heap = r.heap ++ objects; room = r.room - cells }, length r.heap) else None

abbrev pub with_instance : Memory → ℕ → List Value → Option (Memory × ℕ)
with_instance r class values = with_objects r (cells_of_values (length values)) (instance class values ∷ [])

abbrev pub with_text : Memory → List ℕ → Option (Memory × ℕ)
with_text r units = with_objects r (cells_of_units (length units)) (text units ∷ [])
