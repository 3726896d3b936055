-- What the constant of an instruction means, by numbers (JVMS 5.4.3, 6.5), and which classes the rows of an exception table catch.
use Rattle.std.specs.Prelude.{ℕ, Bool, true, false, List, [], Option, Some, None, map, slice_get, ◌==◌, if◌then◌else◌}
use Rattle.std.specs.Option.{option_map, option_map_or}
use Rattle.std.specs.List.{flat_map, enumerate_from}
use Rattle.class_model.specs.declared.constant.Const.{Const}
use Rattle.class_model.specs.declared.constant.Const.TheVariants.{Integer, Long, Text, Fieldref, Methodref, InterfaceMethodref}
use Rattle.class_model.specs.declared.attribute.CodeBody.{CodeBody}
use Rattle.class_model.specs.declared.attribute.Row.{Row}
use Rattle.class_model.specs.declared.member.Member.{Member}
use Rattle.class_model.specs.declared.class_file.ClassFile.{ClassFile}
use Rattle.class_grammar.specs.Pool.{text_at}
use Rattle.opcodes.specs.declared.op.Op.{Op}
use Rattle.opcodes.specs.declared.op.Op.TheVariants as ops
use Rattle.opcodes.specs.declared.op.Instr.{Instr}
use Rattle.instruction_rows.specs.declared.value.Value.TheVariants as values
use Rattle.link_rules.specs.declared.choice.Choice.{Choice}
use Rattle.link_rules.specs.declared.choice.Choice.TheVariants.{Method, Abstract, Several}
use Rattle.link_rules.specs.declared.place.MemberPlace.{MemberPlace}
use Rattle.link_rules.specs.Program.{Program}
use Rattle.link_rules.specs.Members.{Key, field_number, method_number}
use Rattle.link_rules.specs.Constants.{home_of, key_at, name_at}
use Rattle.link_rules.specs.Instructions.{resolved_field, resolved_method}
use Rattle.link_rules.specs.Selection.{select_special}
use Rattle.link_model.specs.declared.sites.Site.{Site}
use Rattle.link_model.specs.declared.sites.Site.TheVariants as sites
use Rattle.link_model.specs.declared.sites.Resolution.{Resolution}
use Rattle.link_model.specs.declared.sites.SelectionFailure.{SelectionFailure}
use Rattle.link_model.specs.declared.sites.SelectionFailure.TheVariants as failures
use Rattle.link_model.specs.Codes.{body_of, instructions_of}
use Rattle.link_model.specs.Numbering.{Numbering, array_number, array_of_kind, array_of_primitive, class_number, kind_named}
use Rattle.link_model.specs.Strings.{string_number}

-- what resolution needs: the program, its numbers and its Strings
pub record Linking : Type 0 where
  pub program : Program
  pub numbering : Numbering
  pub strings : List (List ℕ)

abbrev pub plain : Resolution
plain = record { site = sites.Plain; class = None; failure = None }

-- a site that names no class besides
abbrev pub without_class : Option Site → Resolution
without_class site = option_map_or (λ s. record { site = s; class = None; failure = None }) site plain

-- a site of a member of the class of this name
abbrev pub member_of : Linking → List ℕ → Option Site → Resolution
member_of l name site =
    option_map_or (λ s. record { site = s; class = class_number l.numbering name; failure = None }) site plain

-- what the function says of the constant at an index
abbrev pub resolution_at : List Const → ℕ → (Const → Resolution) → Resolution
resolution_at pool index of = option_map_or of (slice_get pool index) plain

-- ---- constants that are pushed (JVMS 6.5, ldc, ldc_w, ldc2_w)

-- the String of a text
abbrev pub string_resolution : Linking → List ℕ → Resolution
string_resolution l text = without_class (option_map (λ n. sites.Value (values.Ref n)) (string_number l.strings text))

abbrev pub string_at : Linking → List Const → ℕ → Resolution
string_at l pool index = option_map_or (string_resolution l) (text_at pool index) plain

abbrev pub push_resolution : Linking → List Const → Const → Resolution
push_resolution l pool (Integer n) = without_class (Some (sites.Value (values.Int n)))
push_resolution l pool (Long n) = without_class (Some (sites.Value (values.Long n)))
push_resolution l pool (Text index) = string_at l pool index
push_resolution l pool c = plain

-- ---- fields (JVMS 5.4.3.2)

abbrev pub field_site : Linking → List ℕ → Key → Option Site
field_site l name key = option_map (λ at. sites.Field (field_number l.program at)) (resolved_field l.program name key)

abbrev pub named_field : Linking → List ℕ → Key → Resolution
named_field l name key = member_of l name (field_site l name key)

abbrev pub field_resolution : Linking → List Const → Const → Resolution
field_resolution l pool (Fieldref class member) = named_field l (name_at pool class) (key_at pool member)
field_resolution l pool c = plain

-- ---- methods (JVMS 5.4.3.3, 5.4.3.4)

-- what invokespecial selects in the code of class c of the method that its constant means (JVMS 6.5)
abbrev pub special_choice : Linking → ℕ → List ℕ → Key → MemberPlace → Choice
special_choice l c name key resolved =
    option_map_or (λ home. select_special l.program c home key) (home_of l.program name) (Method resolved)

-- each other invocation has the method that its constant means
abbrev pub method_choice : Linking → ℕ → Bool → List ℕ → Key → MemberPlace → Choice
method_choice l c special name key resolved = if special then special_choice l c name key resolved else Method resolved

-- the method that is selected, or else the one that the constant means
abbrev pub chosen_place : MemberPlace → Choice → MemberPlace
chosen_place resolved (Method at) = at
chosen_place resolved choice = resolved

abbrev pub failure_of : Choice → Option SelectionFailure
failure_of (Method at) = None
failure_of Abstract = Some failures.Abstract
failure_of Several = Some failures.Several

-- an invocation of a method of the class of this name
abbrev pub call_of : Linking → List ℕ → MemberPlace → Choice → Resolution
call_of l name resolved choice = record {
  site = sites.Method (method_number l.program (chosen_place resolved choice));
  class = class_number l.numbering name;
  failure = failure_of choice;
}

abbrev pub named_method : Linking → ℕ → Bool → Bool → List ℕ → Key → Resolution
named_method l c special of_interface name key =
    option_map_or (λ at. call_of l name at (method_choice l c special name key at)) (resolved_method l.program of_interface name key) plain

abbrev pub method_resolution : Linking → ℕ → List Const → Bool → Const → Resolution
method_resolution l c pool special (Methodref class member) =
    named_method l c special false (name_at pool class) (key_at pool member)
method_resolution l c pool special (InterfaceMethodref class member) =
    named_method l c special true (name_at pool class) (key_at pool member)
method_resolution l c pool special const = plain

-- ---- classes (JVMS 5.4.3.1)

abbrev pub class_resolution : Option ℕ → Resolution
class_resolution number = without_class (option_map sites.Class number)

-- the class at an index
abbrev pub named_class : Linking → List Const → ℕ → Resolution
named_class l pool index = class_resolution (class_number l.numbering (name_at pool index))

-- the array of the class at an index
abbrev pub array_of_named : Linking → List Const → ℕ → Resolution
array_of_named l pool index =
    class_resolution (array_number l.numbering (array_of_kind (kind_named (name_at pool index))))

-- ---- instructions

-- what the constant of an instruction means in the code of class c, whose pool this is
abbrev pub resolution_of : Linking → ℕ → List Const → Op → Resolution
resolution_of l c pool (ops.PushConstant i) = resolution_at pool i (push_resolution l pool)
resolution_of l c pool (ops.PushWideConstant i) = resolution_at pool i (push_resolution l pool)
resolution_of l c pool (ops.GetStatic i) = resolution_at pool i (field_resolution l pool)
resolution_of l c pool (ops.PutStatic i) = resolution_at pool i (field_resolution l pool)
resolution_of l c pool (ops.GetField i) = resolution_at pool i (field_resolution l pool)
resolution_of l c pool (ops.PutField i) = resolution_at pool i (field_resolution l pool)
resolution_of l c pool (ops.InvokeVirtual i) = resolution_at pool i (method_resolution l c pool false)
resolution_of l c pool (ops.InvokeSpecial i) = resolution_at pool i (method_resolution l c pool true)
resolution_of l c pool (ops.InvokeStatic i) = resolution_at pool i (method_resolution l c pool false)
resolution_of l c pool (ops.InvokeInterface i count) = resolution_at pool i (method_resolution l c pool false)
resolution_of l c pool (ops.New i) = named_class l pool i
resolution_of l c pool (ops.NewArray primitive) = class_resolution (array_number l.numbering (array_of_primitive primitive))
resolution_of l c pool (ops.ANewArray i) = array_of_named l pool i
resolution_of l c pool (ops.MultiANewArray i n) = named_class l pool i
resolution_of l c pool (ops.CheckCast i) = named_class l pool i
resolution_of l c pool (ops.InstanceOf i) = named_class l pool i
resolution_of l c pool op = plain

abbrev pub instr_resolution : Linking → ℕ → List Const → Instr → Resolution
instr_resolution l c pool i = resolution_of l c pool i.op

-- ---- rows of an exception table

-- the class that is caught; index 0 stands for every throwable (JVMS 4.7.3)
abbrev pub catch_of : Linking → List Const → Row → Option ℕ
catch_of l pool r = if r.catch_type == 0 then None else class_number l.numbering (name_at pool r.catch_type)

-- ---- methods and classes

abbrev pub rows_of : Member → List Row
rows_of m = option_map_or (λ (body : CodeBody). body.rows) (body_of m) []

abbrev pub method_resolutions : Linking → ℕ → List Const → Member → List Resolution
method_resolutions l c pool m = map (instr_resolution l c pool) (instructions_of m)

abbrev pub method_catches : Linking → List Const → Member → List (Option ℕ)
method_catches l pool m = map (catch_of l pool) (rows_of m)

abbrev pub resolutions_in : Linking → ℕ × ClassFile → List (List Resolution)
resolutions_in l x = map (method_resolutions l x.0 x.1.pool) x.1.methods

abbrev pub catches_in : Linking → ClassFile → List (List (Option ℕ))
catches_in l f = map (method_catches l f.pool) f.methods

abbrev pub resolutions_of : Linking → List (List Resolution)
resolutions_of l = flat_map (resolutions_in l) (enumerate_from 0 l.program.classes)

abbrev pub catches_of : Linking → List (List (Option ℕ))
catches_of l = flat_map (catches_in l) l.program.classes
