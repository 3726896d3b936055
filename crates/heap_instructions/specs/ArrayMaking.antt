-- Arrays of several dimensions, made one by one.
use Rattle.std.specs.Prelude.{ℕ, zero, suc, ℤ, ◌≡◌, ◌+◌, ◌*◌, ◌<◌, ◌++◌, List, [], ◌∷◌, Option, Some, None, drop, length, map}
use Rattle.std.specs.List.{range_with_len}
use Rattle.instruction_rows.specs.declared.value.Slot.{Slot}
use Rattle.instruction_rows.specs.declared.value.Value.{Value}
use Rattle.instruction_rows.specs.declared.value.Value.TheVariants as values
use Rattle.link_model.specs.World.{World}
use Rattle.state_model.specs.Objects.{Object, instance}
use Rattle.heap_objs.specs.Heap.{Heap}
use Rattle.ref_model.specs.Arrays.{array_count, arrays_from, cells_of_lengths, ints_popped}

-- the ints on top, the lowest first
abbrev pub AreInts : ℕ → List ℤ → List Slot → Type 0
AreInts count ns stack = ints_popped count stack ≡ Some (ns, drop count stack)

-- A number, or that it is 4,294,967,296 at least.
abbrev pub IsCounted : Option ℕ → ℕ → Type 0
IsCounted (Some n) number = n ≡ number
IsCounted None number = 4294967295 < number

-- references to objects whose numbers are evenly spaced
abbrev pub references : ℕ → ℕ → ℕ → List Value
references first step n = map (λ index. values.Ref (first + index * step)) (range_with_len 0 n)

-- How far the numbers of the arrays in one array of this number of elements lie apart: by all that is below an element. Without
-- elements nothing is below.
abbrev pub step_between : ℕ → ℕ → ℕ
step_between zero count = 0
step_between (suc n) count = count

-- the heap with more objects, which use this number of cells
abbrev pub with_objects : List Object → ℕ → Heap → Heap
with_objects objects cells h = record h { objects = h.objects ++ objects; used = h.used + cells }

-- the arrays of a class for some lengths were made
pub record AreMade (w : World) (lengths : List ℕ) (class : ℕ) (old new : Heap) : Type 0 where
  pub objects : List Object
  pub from : arrays_from w lengths (length old.objects) class ≡ Some objects
  pub new_is : new ≡ with_objects objects (cells_of_lengths lengths) old
  pub count : length objects ≡ array_count lengths

-- the outer array alone was made
abbrev pub IsOuter : List ℕ → ℕ → ℕ → Heap → Heap → Type 0
IsOuter rest n class old new =
    new ≡ with_objects (instance class (references (length old.objects + 1) (array_count rest) n) ∷ []) (1 + n) old
