-- What it means that the values of a heap and of static fields have the kinds of their fields and elements (JVMS 2.11.1).
use Rattle.std.specs.Prelude.{◌≡◌, ℕ, List, Option, Some, None, filter, map, slice_get}
use Rattle.std.specs.Option.{option_map_or}
use Rattle.std.specs.List.{AllZip}
use Rattle.items.specs.First.{Each}
use Rattle.opcodes.specs.declared.op.ValueKind.{ValueKind}
use Rattle.opcodes.specs.declared.op.ValueKind.TheVariants as kinds
use Rattle.instruction_rows.specs.declared.value.Value.{Value}
use Rattle.instruction_rows.specs.Kinds.{kind_of, kind_of_type}
use Rattle.link_model.specs.declared.members.FieldInfo.{FieldInfo}
use Rattle.link_model.specs.declared.sites.ArrayType.{ArrayType}
use Rattle.link_model.specs.World.{World, array_type}
use Rattle.verify_types.specs.ClassTypes.{type_of_kind}
use Rattle.state_model.specs.Objects.{Object, instance, text}
use Rattle.ref_model.specs.Kinds.{value_kind, kind_of_elements}
use Rattle.ref_model.specs.Members.{is_static_field, instance_fields}
use Rattle.ref_model.specs.Memory.{Memory}

-- a value is of the kind
abbrev pub IsOfKind : ValueKind → Value → Type 0
IsOfKind k v = kind_of v ≡ k

abbrev pub kind_of_field : FieldInfo → ValueKind
kind_of_field f = value_kind f.kind

-- ---- objects

abbrev pub field_kind : World → ℕ → ValueKind
field_kind w n = option_map_or kind_of_field (slice_get w.fields n) kinds.Reference

-- the kinds of the fields of an object, in their order
abbrev pub instance_kinds : World → ℕ → List ValueKind
instance_kinds w class = map (field_kind w) (instance_fields w class)

-- the values of an object, or the elements of an array
abbrev pub ValuesFit : World → ℕ → List Value → Option ArrayType → Type 0
ValuesFit w class values None = AllZip IsOfKind (instance_kinds w class) values
ValuesFit w class values (Some t) = Each (IsOfKind (kind_of_elements t)) values

abbrev pub ObjectFits : World → Object → Type 0
ObjectFits w (instance class values) = ValuesFit w class values (array_type w class)
ObjectFits w (text units) = Unit {0}

-- ---- static fields

abbrev pub static_kinds : World → List ValueKind
static_kinds w = map kind_of_field (filter is_static_field w.fields)

-- ---- all values

pub record MemoryFits (w : World) (r : Memory) : Type 0 where
  pub heap : (o : ℕ) (x : Object) → slice_get r.heap o ≡ Some x → ObjectFits w x
  pub statics : AllZip IsOfKind (static_kinds w) r.statics

-- ---- what linking gives: no field is of float or double, so the type of each has the kind of its values

abbrev pub HasFieldKinds : World → Type 0
HasFieldKinds w = (n : ℕ) (f : FieldInfo) → slice_get w.fields n ≡ Some f → kind_of_type (type_of_kind w f.kind) ≡ Some (kind_of_field f)
