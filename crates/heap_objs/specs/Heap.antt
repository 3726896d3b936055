-- The heap: its objects by number, and how many of its cells they use.
use Rattle.std.specs.Prelude.{ℕ, zero, suc, ◌+◌, ◌/◌, List, [], ◌∷◌, ◌++◌, length, Option, Some, None, slice_get, slice_set}
use Rattle.instruction_rows.specs.declared.value.Value.{Value}
use Rattle.state_model.specs.Objects.{Object, instance, text}

pub record Heap : Type 0 where
  pub objects : List Object
  pub cells : ℕ
  pub used : ℕ

-- how many cells an object takes: one, and one for each value or for each started 8 units
abbrev pub cells_of : Object → ℕ
cells_of (instance class values) = 1 + length values
cells_of (text units) = 1 + (length units + 7) / 8

-- the heap with one more object, which uses its cells, or none
abbrev pub with_object : Object → Heap → Heap
with_object object h = record h { objects = h.objects ++ object ∷ [] }

abbrev pub with_cells : ℕ → Heap → Heap
with_cells cells h = record h { used = h.used + cells }

abbrev pub made : Object → Heap → Heap
made object h = with_cells (cells_of object) (with_object object h)

-- an object's class and its values; a String's units
abbrev pub class_in : Option Object → Option ℕ
class_in None = None
class_in (Some (instance class values)) = Some class
class_in (Some (text units)) = None

abbrev pub values_in : Option Object → List Value
values_in None = []
values_in (Some (instance class values)) = values
values_in (Some (text units)) = []

abbrev pub units_in : Option Object → Option (List ℕ)
units_in None = None
units_in (Some (instance class values)) = None
units_in (Some (text units)) = Some units

-- those of the object with a number
abbrev pub class_at : List Object → ℕ → Option ℕ
class_at objects o = class_in (slice_get objects o)

abbrev pub values_at : List Object → ℕ → List Value
values_at objects o = values_in (slice_get objects o)

abbrev pub units_at : List Object → ℕ → Option (List ℕ)
units_at objects o = units_in (slice_get objects o)

-- an object with another value at an index; a String has none
abbrev pub value_set : ℕ → Value → Object → Object
value_set i v (instance class values) = instance class (slice_set values i v)
value_set i v (text units) = text units

-- the objects, of which one has another value at an index
abbrev pub with_value : ℕ → ℕ → Value → List Object → List Object
with_value o i v [] = []
with_value zero i v (x ∷ xs) = value_set i v x ∷ xs
with_value (suc o) i v (x ∷ xs) = x ∷ with_value o i v xs
