-- Operands by their types (JVMS 4.10.1.4: canPop). An operand of the wrong kind or type is Kind, and a missing one Depth.
use Rattle.std.specs.Prelude.{Bool, true, false, List, [], ◌∷◌, Option, Some, None, Result, Ok, Err, nat_lt, ◌==◌, ◌&&◌, ◌||◌, if◌then◌else◌}
use Rattle.opcodes.specs.declared.op.ValueKind.{ValueKind}
use Rattle.opcodes.specs.declared.op.ValueKind.TheVariants as kinds
use Rattle.opcodes.specs.declared.op.Element.{Element}
use Rattle.opcodes.specs.declared.op.Element.TheVariants as elements
use Rattle.stack_maps.specs.declared.types.Base.{Base}
use Rattle.stack_maps.specs.declared.types.Base.TheVariants as bases
use Rattle.stack_maps.specs.declared.types.VType.{VType}
use Rattle.stack_maps.specs.declared.types.VType.TheVariants as types
use Rattle.instruction_rows.specs.declared.row_why.RowWhy.{RowWhy}
use Rattle.instruction_rows.specs.declared.row_why.RowWhy.TheVariants as whys
use Rattle.instruction_rows.specs.Results.{◌then◌}
use Rattle.instruction_rows.specs.Kinds.{kind_of_type}
use Rattle.instruction_rows.specs.TypeEffect.{type_popped}
use Rattle.link_model.specs.World.{World}
use Rattle.verify_types.specs.Assignability.{assignable}

-- this, where the test has passed
abbrev pub only_if : {A : Type 0} → Bool → RowWhy → A → Result A RowWhy
only_if passed why x = if passed then Ok x else Err why

-- ---- values of a type

-- the value on top, by the kind of the type
abbrev pub popped_as : Option ValueKind → List VType → Result (VType × List VType) RowWhy
popped_as None stack = Err whys.Kind
popped_as (Some k) stack = type_popped k stack

-- what lies below a value that is assignable to the type
abbrev pub wanted : World → VType → List VType → Result (List VType) RowWhy
wanted w t stack =
    popped_as (kind_of_type t) stack then λ x. only_if (assignable w x.0 t) whys.Kind x.1

-- the same for several, the topmost first
abbrev pub all_wanted : World → List VType → List VType → Result (List VType) RowWhy
all_wanted w [] stack = Ok stack
all_wanted w (t ∷ ts) stack = wanted w t stack then λ rest. all_wanted w ts rest

-- ---- arrays

abbrev pub is_array : VType → Bool
is_array types.Null = true
is_array (types.Named n base) = nat_lt 0 n
is_array t = false

abbrev pub is_class_base : Base → Bool
is_class_base (bases.Class class) = true
is_class_base base = false

-- whether an array instruction serves for elements of this base; one for bytes serves for booleans too
abbrev pub is_element : Element → Base → Bool
is_element elements.Int bases.Int = true
is_element elements.Long bases.Long = true
is_element elements.Reference (bases.Class class) = true
is_element elements.Byte bases.Byte = true
is_element elements.Byte bases.Bool = true
is_element elements.Char bases.Char = true
is_element elements.Short bases.Short = true
is_element element base = false

-- elements that are arrays are references
abbrev pub is_reference_element : Element → Bool
is_reference_element elements.Reference = true
is_reference_element element = false

-- whether an array instruction serves for arrays of this type; null is of each
abbrev pub serves : Element → VType → Bool
serves element types.Null = true
serves element (types.Named n base) = (n == 1 && is_element element base) || (nat_lt 1 n && is_reference_element element)
serves element t = false

-- the array on top, and what lies below it
abbrev pub array_popped : Element → List VType → Result (VType × List VType) RowWhy
array_popped element stack =
    type_popped kinds.Reference stack then λ x. only_if (serves element x.0) whys.Kind x
