-- What is used of a linked world: the superclasses of its classes end, and Object and what else is above arrays are as in Java.
use Rattle.std.specs.Prelude.{◌≡◌, ℕ, zero, suc, ◌<◌, Bool, true, false, not, Option, Some, None, codes, slice_get, ◌==◌, ◌&&◌}
use Rattle.std.specs.Option.{option_map_or}
use Rattle.class_grammar.specs.Names.{object_class}
use Rattle.link_rules.specs.Program.{is_interface}
use Rattle.link_rules.specs.Hierarchy.{parent_of}
use Rattle.link_model.specs.declared.members.FieldInfo.{FieldInfo}
use Rattle.link_model.specs.Fields.{is_static_field}
use Rattle.link_model.specs.World.{World, class_count, name_number}

-- whether going up from a class a class without a superclass is met, among so many
abbrev pub ends : (ℕ → Option ℕ) → ℕ → ℕ → Bool
ends parent zero c = false
ends parent (suc n) c = option_map_or (ends parent n) (parent c) true

-- the superclasses of each class end
abbrev pub HaveEnds : World → Type 0
HaveEnds w = (c : ℕ) → c < class_count w → ends (parent_of w.program) (class_count w) c ≡ true

abbrev pub is_instance_field_of : ℕ → FieldInfo → Bool
is_instance_field_of class f = (f.class == class) && not (is_static_field f)

-- the class itself declares no instance field
abbrev pub AreBare : World → ℕ → Type 0
AreBare w class = (n : ℕ) (f : FieldInfo) → slice_get w.fields n ≡ Some f → is_instance_field_of class f ≡ false

-- Object has no superclass, and its objects have no fields
abbrev pub IsTop : World → Type 0
IsTop w = (c : ℕ) → name_number w object_class ≡ Some c → (parent_of w.program c ≡ None) × AreBare w c

abbrev pub IsInterface : World → Option ℕ → Type 0
IsInterface w class = (c : ℕ) → class ≡ Some c → is_interface w.program c ≡ true

pub record IsSettled (w : World) : Type 0 where
  pub ends : HaveEnds w
  pub top : IsTop w
  -- what else is above arrays are interfaces (JLS 10.8)
  pub cloneable : IsInterface w (name_number w (codes "java/lang/Cloneable"))
  pub serializable : IsInterface w (name_number w (codes "java/io/Serializable"))
