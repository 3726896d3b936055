-- The kinds of values (JVMS 2.11.1): int, long and reference. boolean, byte, char and short are ints. float and
-- double have no kind, since no instruction makes one.
use Rattle.std.specs.Prelude.{Bool, true, false, ℕ, ℤ, List, [], ◌∷◌, Option, Some, None}
use Rattle.opcodes.specs.declared.op.ValueKind.{ValueKind}
use Rattle.opcodes.specs.declared.op.ValueKind.TheVariants as kinds
use Rattle.opcodes.specs.declared.op.Element.{Element}
use Rattle.opcodes.specs.declared.op.Element.TheVariants as elements
use Rattle.stack_maps.specs.declared.types.VType.{VType}
use Rattle.stack_maps.specs.declared.types.VType.TheVariants as types
use Rattle.instruction_rows.specs.declared.value.Value.{Value}
use Rattle.instruction_rows.specs.declared.value.Value.TheVariants as values
use Rattle.instruction_rows.specs.declared.value.Slot.{Slot}
use Rattle.instruction_rows.specs.declared.value.Slot.TheVariants as slots

-- what a value of the kind is: a number, or the number of an object, None for null
abbrev pub Of : ValueKind → Type 0
Of kinds.Int = ℤ
Of kinds.Long = ℤ
Of kinds.Reference = Option ℕ

-- the kind of the elements that an array instruction loads or stores (JVMS 2.11.1, 6.5)
abbrev pub kind_of_element : Element → ValueKind
kind_of_element elements.Int = kinds.Int
kind_of_element elements.Long = kinds.Long
kind_of_element elements.Reference = kinds.Reference
kind_of_element elements.Byte = kinds.Int
kind_of_element elements.Char = kinds.Int
kind_of_element elements.Short = kinds.Int

-- functions of values of these kinds
abbrev pub Function : List ValueKind → Type 0 → Type 0
Function [] R = R
Function (k ∷ ks) R = Of k → Function ks R

abbrev pub kind_of : Value → ValueKind
kind_of (values.Int n) = kinds.Int
kind_of (values.Long n) = kinds.Long
kind_of values.Null = kinds.Reference
kind_of (values.Ref object) = kinds.Reference

abbrev pub value : (k : ValueKind) → Of k → Value
value kinds.Int n = values.Int n
value kinds.Long n = values.Long n
value kinds.Reference None = values.Null
value kinds.Reference (Some object) = values.Ref object

-- the value of this kind that a slot holds
abbrev pub held : (k : ValueKind) → Slot → Option (Of k)
held kinds.Int (slots.One (values.Int n)) = Some n
held kinds.Long (slots.One (values.Long n)) = Some n
held kinds.Reference (slots.One values.Null) = Some None
held kinds.Reference (slots.One (values.Ref object)) = Some (Some object)
held k slot = None

-- the kind of the values that a verification type stands for (JVMS 4.10.1.2)
abbrev pub kind_of_type : VType → Option ValueKind
kind_of_type types.Top = None
kind_of_type types.Int = Some kinds.Int
kind_of_type types.Float = None
kind_of_type types.Double = None
kind_of_type types.Long = Some kinds.Long
kind_of_type types.Null = Some kinds.Reference
kind_of_type types.UninitThis = Some kinds.Reference
kind_of_type (types.Object class) = Some kinds.Reference
kind_of_type (types.Uninit new) = Some kinds.Reference
kind_of_type (types.Named dimensions base) = Some kinds.Reference

abbrev pub is_kind : ValueKind → Option ValueKind → Bool
is_kind kinds.Int (Some kinds.Int) = true
is_kind kinds.Long (Some kinds.Long) = true
is_kind kinds.Reference (Some kinds.Reference) = true
is_kind k other = false
