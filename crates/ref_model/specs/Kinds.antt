-- Types of descriptors as the machine sees them (JVMS 2.11.1, 4.3.2): the kind of a value, the value that a field or an element has at
-- first, and what a store keeps of an int. float and double are in no program that runs; here they are as references.
use Rattle.std.specs.Prelude.{ℕ, ℤ, pos, sum_by, ◌==◌, if◌then◌else◌}
use Rattle.descriptors.specs.declared.kind.ElementType.{ElementType}
use Rattle.descriptors.specs.declared.kind.ElementType.TheVariants as elements
use Rattle.descriptors.specs.declared.kind.Kind.{Kind as FieldType}
use Rattle.descriptors.specs.declared.kind.Signature.{Signature}
use Rattle.descriptors.specs.Descriptors.{slots}
use Rattle.opcodes.specs.declared.op.ValueKind.{ValueKind}
use Rattle.opcodes.specs.declared.op.ValueKind.TheVariants as kinds
use Rattle.stack_maps.specs.declared.types.Base.{Base}
use Rattle.stack_maps.specs.declared.types.Base.TheVariants as bases
use Rattle.jvm_words.specs.declared.operation.Narrow.TheVariants as narrows
use Rattle.jvm_words.specs.Words.{narrow_result}
use Rattle.instruction_rows.specs.declared.value.Value.{Value}
use Rattle.instruction_rows.specs.declared.value.Value.TheVariants as values
use Rattle.link_model.specs.declared.sites.ArrayType.{ArrayType}

-- ---- kinds

abbrev pub kind_of_element_type : ElementType → ValueKind
kind_of_element_type elements.Byte = kinds.Int
kind_of_element_type elements.Char = kinds.Int
kind_of_element_type elements.Short = kinds.Int
kind_of_element_type elements.Bool = kinds.Int
kind_of_element_type elements.Int = kinds.Int
kind_of_element_type elements.Long = kinds.Long
kind_of_element_type elements.Float = kinds.Reference
kind_of_element_type elements.Double = kinds.Reference
kind_of_element_type (elements.Class name) = kinds.Reference

-- the kind of the values of a type
abbrev pub value_kind : FieldType → ValueKind
value_kind t = if t.dimensions == 0 then kind_of_element_type t.element else kinds.Reference

-- how many slots the arguments take, without the receiver (JVMS 2.6.1)
abbrev pub argument_slots : Signature → ℕ
argument_slots s = sum_by slots s.args

-- ---- values that nothing was stored in yet (JVMS 2.3, 2.4)

abbrev pub zero_of_kind : ValueKind → Value
zero_of_kind kinds.Int = values.Int (pos 0)
zero_of_kind kinds.Long = values.Long (pos 0)
zero_of_kind kinds.Reference = values.Null

-- of a field of this type
abbrev pub zero_of : FieldType → Value
zero_of t = zero_of_kind (value_kind t)

-- the kind of the values of a type of last elements
abbrev pub kind_of_base : Base → ValueKind
kind_of_base bases.Bool = kinds.Int
kind_of_base bases.Byte = kinds.Int
kind_of_base bases.Char = kinds.Int
kind_of_base bases.Short = kinds.Int
kind_of_base bases.Int = kinds.Int
kind_of_base bases.Long = kinds.Long
kind_of_base bases.Float = kinds.Reference
kind_of_base bases.Double = kinds.Reference
kind_of_base (bases.Class class) = kinds.Reference

-- the kind of an array's elements
abbrev pub kind_of_elements : ArrayType → ValueKind
kind_of_elements array = if array.dimensions == 1 then kind_of_base array.base else kinds.Reference

-- ---- what a store keeps: of a boolean, byte, char or short 1, 8, 16 or 16 bits (JVMS 6.5: putfield, putstatic, ireturn)

abbrev pub kept_of_element : ElementType → ℤ → ℤ
kept_of_element elements.Bool n = narrow_result narrows.Bool n
kept_of_element elements.Byte n = narrow_result narrows.Byte n
kept_of_element elements.Char n = narrow_result narrows.Char n
kept_of_element elements.Short n = narrow_result narrows.Short n
kept_of_element element n = n

abbrev pub kept_of : FieldType → ℤ → ℤ
kept_of t n = if t.dimensions == 0 then kept_of_element t.element n else n

-- what a field or a result of this type keeps of a value
abbrev pub kept : FieldType → Value → Value
kept t (values.Int n) = values.Int (kept_of t n)
kept t v = v

-- the same of an element of an array (JVMS 6.5: bastore, castore, sastore)
abbrev pub kept_of_base : Base → ℤ → ℤ
kept_of_base bases.Bool n = narrow_result narrows.Bool n
kept_of_base bases.Byte n = narrow_result narrows.Byte n
kept_of_base bases.Char n = narrow_result narrows.Char n
kept_of_base bases.Short n = narrow_result narrows.Short n
kept_of_base base n = n

abbrev pub kept_in : ArrayType → Value → Value
kept_in array (values.Int n) = values.Int (kept_of_base array.base n)
kept_in array v = v
