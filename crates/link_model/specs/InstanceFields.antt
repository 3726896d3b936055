-- The fields of the objects of each class, by their numbers: those of the superclasses first, and those of one class in the order of
-- its file (JVMS 2.7).
use Rattle.std.specs.Prelude.{ℕ, ◌+◌, List, [], Option, Some, None, reverse, filter_map, if◌then◌else◌}
use Rattle.std.specs.List.{flat_map, enumerate_from}
use Rattle.class_model.specs.declared.member.Member.{Member}
use Rattle.class_model.specs.declared.class_file.ClassFile.{ClassFile}
use Rattle.link_rules.specs.Program.{Program, class_at}
use Rattle.link_rules.specs.Hierarchy.{superclasses}
use Rattle.link_rules.specs.Members.{fields_before, is_static}

-- the number of a field that isn't static, by its index in a class whose first field has this number
abbrev pub own_field : ℕ → ℕ × Member → Option ℕ
own_field first x = if is_static x.1 then None else Some (first + x.0)

abbrev pub own_fields_from : ℕ → List Member → List ℕ
own_fields_from first fields = filter_map (own_field first) (enumerate_from 0 fields)

-- those that the class itself declares
abbrev pub own_fields : Program → ℕ → List ℕ
own_fields p c = class_at (λ (f : ClassFile). own_fields_from (fields_before p.classes c) f.fields) [] p c

-- those of an object of the class
abbrev pub instance_fields : Program → ℕ → List ℕ
instance_fields p c = flat_map (own_fields p) (reverse (superclasses p c))
