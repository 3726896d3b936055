-- The table of what constants mean, and the numbers of those of instructions.
use Rattle.std.specs.Prelude.{◌≡◌, ℕ, List, Some, map, slice_get}
use Rattle.opcodes.specs.declared.op.Primitive.{Primitive}
use Rattle.opcodes.specs.declared.op.Primitive.TheVariants as primitives
use Rattle.link_model.specs.declared.sites.Resolution.{Resolution}
use Rattle.link_model.specs.Numbering.{array_number, array_of_primitive}
use Rattle.link_model.specs.Sites.{Linking, class_resolution, plain}

-- the array of a primitive
abbrev pub primitive_resolution : Linking → Primitive → Resolution
primitive_resolution l p = class_resolution (array_number l.numbering (array_of_primitive p))

-- its number
abbrev pub primitive_number : Primitive → ℕ
primitive_number primitives.Boolean = 1
primitive_number primitives.Char = 2
primitive_number primitives.Float = 3
primitive_number primitives.Double = 4
primitive_number primitives.Byte = 5
primitive_number primitives.Short = 6
primitive_number primitives.Int = 7
primitive_number primitives.Long = 8

-- a table has, from the start, what names nothing and the arrays of primitives
pub record Begins (l : Linking) (table : List Resolution) : Type 0 where
  pub plain_first : slice_get table 0 ≡ Some plain
  pub arrays : (p : Primitive) → slice_get table (primitive_number p) ≡ Some (primitive_resolution l p)

-- what has a number keeps it
abbrev pub Extends : List Resolution → List Resolution → Type 0
Extends old new = (n : ℕ) (x : Resolution) → slice_get old n ≡ Some x → slice_get new n ≡ Some x

-- the numbers of these
abbrev pub AreNumbersOf : List Resolution → List ℕ → List Resolution → Type 0
AreNumbersOf table ns xs = map (slice_get table) ns ≡ map (λ (x : Resolution). Some x) xs

-- the same, method by method
abbrev pub AreListsOf : List Resolution → List (List ℕ) → List (List Resolution) → Type 0
AreListsOf table nss xss = map (map (slice_get table)) nss ≡ map (map (λ (x : Resolution). Some x)) xss
