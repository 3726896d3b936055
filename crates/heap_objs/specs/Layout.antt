-- How objects lie in the heap's memory: the values of all in one row and the units of all Strings in another, each object's after
-- those of the one before, and for each object an entry that says where.
use Rattle.std.specs.Prelude.{ℕ, ◌≡◌, ◌+◌, ◌≤◌, List, [], ◌∷◌, take, drop, Option, Some, None, vec_len}
use Rattle.instruction_rows.specs.declared.value.Value.{Value}
use Rattle.state_model.specs.Objects.{Object, instance, text}
use Rattle.heap_objs.specs.Heap.{Heap}
use Rattle.heap_objs.specs.declared.table.Entry.{Entry}
use Rattle.heap_objs.specs.declared.heap.Heap.TheInside.{Inside}

-- the object of a class, or a String, that lies so
abbrev pub object_at : List Value → List ℕ → Option ℕ → ℕ → ℕ → Object
object_at values units (Some class) start len = instance class (take len (drop start values))
object_at values units None start len = text (take len (drop start units))

abbrev pub object_of : List Value → List ℕ → Entry → Object
object_of values units e = object_at values units e.class e.start e.len

abbrev pub objects_of : List Value → List ℕ → List Entry → List Object
objects_of values units [] = []
objects_of values units (e ∷ es) = object_of values units e ∷ objects_of values units es

-- an object begins where the one before in its row ends
abbrev pub IsLaid : Option ℕ → ℕ → ℕ → ℕ → Type 0
IsLaid (Some class) start value unit = start ≡ value
IsLaid None start value unit = start ≡ unit

-- where the next value and the next unit lie
abbrev pub next_value : Option ℕ → ℕ → ℕ → ℕ
next_value (Some class) len value = value + len
next_value None len value = value

abbrev pub next_unit : Option ℕ → ℕ → ℕ → ℕ
next_unit (Some class) len unit = unit
next_unit None len unit = unit + len

-- objects that begin at one value and one unit, and end before others
abbrev pub AreLaid : ℕ → ℕ → ℕ → ℕ → List Entry → Type 0
AreLaid value unit values units [] = (value ≡ values) × (unit ≡ units)
AreLaid value unit values units (e ∷ es) =
    IsLaid e.class e.start value unit × AreLaid (next_value e.class e.len value) (next_unit e.class e.len unit) values units es

abbrev pub seen : Inside → Heap
seen a = record { objects = objects_of a.values.items a.units.items a.table.items; cells = a.cells; used = a.used }

pub record IsHeap (a : Inside) : Type 0 where
  pub laid : AreLaid 0 0 (vec_len a.values) (vec_len a.units) a.table.items
  pub used : a.used ≤ a.cells
