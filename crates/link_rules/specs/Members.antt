-- The fields and methods that classes declare, and their numbers (JVMS 4.5, 4.6).
use Rattle.std.specs.Prelude.{ℕ, ◌+◌, Bool, false, not, List, Option, None, length, position, slice_get, take, sum_by, ◌&&◌}
use Rattle.std.specs.Option.{option_map, option_map_or}
use Rattle.class_model.specs.declared.access_flags.TheConstants.{ACC_PUBLIC, ACC_PRIVATE, ACC_STATIC, ACC_FINAL, ACC_ABSTRACT, ACC_NATIVE}
use Rattle.class_model.specs.declared.constant.Const.{Const}
use Rattle.class_model.specs.declared.member.Member.{Member}
use Rattle.class_model.specs.declared.class_file.ClassFile.{ClassFile}
use Rattle.class_grammar.specs.Pool.{is_text, has_text}
use Rattle.link_rules.specs.declared.place.MemberPlace.{MemberPlace}
use Rattle.link_rules.specs.Program.{Program, class_at, has_flag}

-- a member by its name and its descriptor; two fields or two methods of a class differ in one of them (JVMS 4.5, 4.6)
pub record Key : Type 0 where
  pub name : List ℕ
  pub descriptor : List ℕ

abbrev pub has_key : List Const → Key → Member → Bool
has_key pool key m = has_text (is_text key.name) pool m.name && has_text (is_text key.descriptor) pool m.descriptor

-- the index of the member of this key, the first if there are several
abbrev pub index_of : List Const → Key → List Member → Option ℕ
index_of pool key members = position (has_key pool key) members

-- ---- flags

abbrev pub is_private : Member → Bool
is_private m = has_flag ACC_PRIVATE m.flags

abbrev pub is_static : Member → Bool
is_static m = has_flag ACC_STATIC m.flags

abbrev pub is_final_member : Member → Bool
is_final_member m = has_flag ACC_FINAL m.flags

abbrev pub is_abstract_method : Member → Bool
is_abstract_method m = has_flag ACC_ABSTRACT m.flags

abbrev pub is_native : Member → Bool
is_native m = has_flag ACC_NATIVE m.flags

-- neither private nor static, so subclasses inherit it and may override it (JVMS 5.4.5)
abbrev pub is_open : Member → Bool
is_open m = not (is_private m) && not (is_static m)

abbrev pub is_public_instance : Member → Bool
is_public_instance m = has_flag ACC_PUBLIC m.flags && not (is_static m)

-- ---- a member of a class of the program

abbrev pub place : ℕ → ℕ → MemberPlace
place c i = record { class = c; index = i }

-- where the class declares a field of this key
abbrev pub declared_field : Program → Key → ℕ → Option MemberPlace
declared_field p key c = class_at (λ f. option_map (place c) (index_of f.pool key f.fields)) None p c

-- where the class declares a method of this key
abbrev pub declared_method : Program → Key → ℕ → Option MemberPlace
declared_method p key c = class_at (λ f. option_map (place c) (index_of f.pool key f.methods)) None p c

abbrev pub field_in : Program → MemberPlace → Option Member
field_in p at = class_at (λ f. slice_get f.fields at.index) None p at.class

abbrev pub method_in : Program → MemberPlace → Option Member
method_in p at = class_at (λ f. slice_get f.methods at.index) None p at.class

-- whether there is such a field, or such a method, and it passes the test
abbrev pub has_field : (Member → Bool) → Program → MemberPlace → Bool
has_field test p at = option_map_or test (field_in p at) false

abbrev pub has_method : (Member → Bool) → Program → MemberPlace → Bool
has_method test p at = option_map_or test (method_in p at) false

-- ---- numbers: members are numbered in the order of the classes, and in a class in the order of its file

abbrev pub fields_before : List ClassFile → ℕ → ℕ
fields_before classes c = sum_by (λ f. length f.fields) (take c classes)

abbrev pub methods_before : List ClassFile → ℕ → ℕ
methods_before classes c = sum_by (λ f. length f.methods) (take c classes)

abbrev pub field_number : Program → MemberPlace → ℕ
field_number p at = fields_before p.classes at.class + at.index

abbrev pub method_number : Program → MemberPlace → ℕ
method_number p at = methods_before p.classes at.class + at.index
