-- Where the values of fields lie (JVMS 2.5.1, 2.7, 4.5).
use Rattle.std.specs.Prelude.{ℕ, Bool, not, List, ◌==◌, ◌&&◌, Option, Some, filter, flat_map, length, map, position, reverse, slice_get, take, if◌then◌else◌}
use Rattle.std.specs.List.{enumerate_from}
use Rattle.class_model.specs.declared.access_flags.TheConstants.{ACC_STATIC}
use Rattle.items.specs.Options.{◌>>=◌}
use Rattle.link_rules.specs.Program.{has_flag}
use Rattle.link_rules.specs.Hierarchy.{superclasses}
use Rattle.link_model.specs.declared.members.FieldInfo.{FieldInfo}
use Rattle.link_model.specs.World.{World}

abbrev pub is_static_field : FieldInfo → Bool
is_static_field f = has_flag ACC_STATIC f.flags

-- whether it is an instance field that the class itself declares
abbrev pub declares : ℕ → FieldInfo → Bool
declares class f = (f.class == class) && not (is_static_field f)

abbrev pub is_field_of : ℕ → ℕ × FieldInfo → Bool
is_field_of class x = declares class x.1

-- the numbers of the instance fields that the class itself declares
abbrev pub own_fields : World → ℕ → List ℕ
own_fields w class = map (λ x. x.0) (filter (is_field_of class) (enumerate_from 0 w.fields))

-- the fields of an object of the class, those of the superclass first
abbrev pub instance_fields : World → ℕ → List ℕ
instance_fields w class = flat_map (own_fields w) (reverse (superclasses w.program class))

-- the place of an instance field among the values of an object, the same in each subclass
abbrev pub field_place : World → ℕ → Option ℕ
field_place w n = slice_get w.fields n >>= λ f. position (λ m. m == n) (instance_fields w f.class)

-- the place of a static field among all static fields
abbrev pub static_place : World → ℕ → ℕ
static_place w n = length (filter is_static_field (take n w.fields))

-- the place of a field: a static one's among all static fields, another's among the values of an object
abbrev pub place : World → ℕ → Option ℕ
place w n = slice_get w.fields n >>= λ f. if is_static_field f then Some (static_place w n) else field_place w n
