-- The fields and methods by number (JVMS 4.5, 4.6): in the order of the classes, and in a class in that of its file.
use Rattle.std.specs.Prelude.{ℕ, List, Option, map}
use Rattle.std.specs.List.{flat_map, enumerate_from}
use Rattle.class_model.specs.declared.constant.Const.{Const}
use Rattle.class_model.specs.declared.member.Member.{Member}
use Rattle.class_model.specs.declared.class_file.ClassFile.{ClassFile}
use Rattle.descriptors.specs.Meaning.{kind_of, signature_of}
use Rattle.link_rules.specs.Program.{Program}
use Rattle.link_rules.specs.Selection.{key_in}
use Rattle.link_model.specs.declared.members.FieldInfo.{FieldInfo}
use Rattle.link_model.specs.declared.members.MethodInfo.{MethodInfo}
use Rattle.link_model.specs.declared.members.MethodCode.{MethodCode}
use Rattle.link_model.specs.Codes.{code_of}

abbrev pub field_info : ℕ → List Const → Member → FieldInfo
field_info c pool m = record {
  class = c;
  flags = m.flags;
  name = (key_in pool m).name;
  kind = kind_of (key_in pool m).descriptor;
}

abbrev pub method_info : ℕ → List Const → Member → MethodInfo
method_info c pool m = record {
  class = c;
  flags = m.flags;
  name = (key_in pool m).name;
  signature = signature_of (key_in pool m).descriptor;
}

abbrev pub fields_in : ℕ × ClassFile → List FieldInfo
fields_in x = map (field_info x.0 x.1.pool) x.1.fields

abbrev pub methods_in : ℕ × ClassFile → List MethodInfo
methods_in x = map (method_info x.0 x.1.pool) x.1.methods

abbrev pub codes_in : ClassFile → List (Option MethodCode)
codes_in f = map code_of f.methods

abbrev pub fields_of : Program → List FieldInfo
fields_of p = flat_map fields_in (enumerate_from 0 p.classes)

abbrev pub methods_of : Program → List MethodInfo
methods_of p = flat_map methods_in (enumerate_from 0 p.classes)

abbrev pub codes_of : Program → List (Option MethodCode)
codes_of p = flat_map codes_in p.classes
