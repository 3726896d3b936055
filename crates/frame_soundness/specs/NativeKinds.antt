-- Native methods by the kinds of what they take and give back, and descriptors by the same: what can be tested of a native method.
use Rattle.std.specs.Prelude.{◌≡◌, Bool, true, false, List, ◌++◌, Option, Some, None, ◌==◌, if◌then◌else◌}
use Rattle.descriptors.specs.declared.kind.ElementType.{ElementType}
use Rattle.descriptors.specs.declared.kind.ElementType.TheVariants as elements
use Rattle.descriptors.specs.declared.kind.Kind.{Kind as FieldType}
use Rattle.descriptors.specs.declared.kind.Signature.{Signature}
use Rattle.lib_table.specs.declared.native.Native.{Native}
use Rattle.opcodes.specs.declared.op.ValueKind.{ValueKind}
use Rattle.instruction_rows.specs.Kinds.{kind_of_type}
use Rattle.link_model.specs.World.{World}
use Rattle.verify_types.specs.ClassTypes.{type_of_kind}
use Rattle.ref_model.specs.Kinds.{value_kind}
use Rattle.ref_model.specs.Memory.{Memory}
use Rattle.ref_model.specs.NativeRows.{row_kinds}
use Rattle.ref_model.specs.Natives.{native_row, native_takes}
use Rattle.ref_model.specs.Operands.{argument_kinds}
use Rattle.frame_soundness.specs.NativeLaws.{native_result}

-- ---- descriptors

-- whether values of this type have a kind: float and double have none
abbrev pub has_element_kind : ElementType → Bool
has_element_kind elements.Float = false
has_element_kind elements.Double = false
has_element_kind element = true

abbrev pub has_kind : FieldType → Bool
has_kind t = if t.dimensions == 0 then has_element_kind t.element else true

-- the verification type of such a type has the kind of its values
abbrev pub TypesHaveKinds : Type 0
TypesHaveKinds = (w : World) (t : FieldType) → has_kind t ≡ true → kind_of_type (type_of_kind w t) ≡ Some (value_kind t)

-- ---- native methods

-- what is said of the kinds that a native method takes are those of its row
abbrev pub NativesTake : Type 0
NativesTake = (w : World) (r : Memory) (n : Native) → row_kinds (native_row w r n) ≡ native_takes n

-- ---- a native method fits its descriptor

abbrev pub GivesKind : Option FieldType → Option ValueKind → Type 0
GivesKind None result = result ≡ None
GivesKind (Some t) result = (has_kind t ≡ true) × (result ≡ Some (value_kind t))

-- It takes the arguments and below them the receiver, if there is one, and gives back what the descriptor says. Nothing is asked of one that
-- has no row.
abbrev pub IsNativeOf : Signature → List ValueKind → Option (List ValueKind) → Option ValueKind → Type 0
IsNativeOf s receiver None result = Unit {0}
IsNativeOf s receiver (Some takes) result = (takes ≡ argument_kinds s ++ receiver) × GivesKind s.result result

abbrev pub FitsNative : Signature → List ValueKind → Native → Type 0
FitsNative s receiver n = IsNativeOf s receiver (native_takes n) (native_result n)
