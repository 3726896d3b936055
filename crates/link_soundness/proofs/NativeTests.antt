-- A test that a declared class passes only if its native methods fit their descriptors, and none of them is main or a class initializer. Each
-- built-in class passes it by computation.
use Rattle.std.proofs.Common.{◌≡◌, ℕ, Bool, true, false, List, [], ◌∷◌, ◌++◌, Option, Some, None, refl, ap, subst, ◌∙◌}
use Rattle.std.specs.Prelude.{codes, not, slice_get, ◌&&◌, ◌||◌, if◌then◌else◌}
use Rattle.std.specs.List.{list_all}
use Rattle.items.specs.First.{Each}
use Rattle.class_model.specs.declared.class_file.ClassFile.{ClassFile}
use Rattle.class_model.specs.declared.constant.Const.{Const}
use Rattle.class_model.specs.declared.member.Member.{Member}
use Rattle.class_grammar.specs.Text.{same_text}
use Rattle.descriptors.specs.declared.kind.Kind.{Kind as FieldType}
use Rattle.descriptors.specs.declared.kind.Signature.{Signature}
use Rattle.descriptors.specs.Meaning.{signature_of}
use Rattle.opcodes.specs.declared.op.ValueKind.{ValueKind}
use Rattle.opcodes.specs.declared.op.ValueKind.TheVariants as kinds
use Rattle.lib_table.specs.declared.native.Native.{Native}
use Rattle.lib_table.specs.Build as build
use Rattle.lib_table.specs.Declarations.{Body, Class, Method, abstract_body, code_body, native_body}
use Rattle.lib_table.specs.Natives.{native_in}
use Rattle.lib_table.specs.Objects as objects
use Rattle.lib_table.specs.Pool.{placed, class, string, name_and_type, field, method, interface_method}
use Rattle.lib_table.specs.System as system
use Rattle.lib_table.specs.Table.{groups}
use Rattle.lib_table.specs.Texts as texts
use Rattle.lib_table.specs.ThreadBuilders as thread_builders
use Rattle.lib_table.specs.Threads as threads
use Rattle.lib_table.specs.Throwables as throwables
use Rattle.link_rules.specs.Members.{Key, is_native, is_static}
use Rattle.link_rules.specs.Program.{own_name}
use Rattle.link_rules.specs.Selection.{key_in}
use Rattle.link_model.specs.MainMethod.{takes_strings}
use Rattle.ref_model.specs.Kinds.{value_kind}
use Rattle.ref_model.specs.Natives.{native_takes}
use Rattle.ref_model.specs.Operands.{argument_kinds}
use Rattle.frame_soundness.specs.NativeKinds.{FitsNative, GivesKind, IsNativeOf, has_kind}
use Rattle.frame_soundness.specs.NativeLaws.{native_result}
use Rattle.verify_types.proofs.ListLaws.{and_true, at_all}

-- ---- kinds

abbrev same_kind : ValueKind → ValueKind → Bool
same_kind kinds.Int kinds.Int = true
same_kind kinds.Long kinds.Long = true
same_kind kinds.Reference kinds.Reference = true
same_kind a b = false

kind_is : (a b : ValueKind) → same_kind a b ≡ true → a ≡ b
kind_is kinds.Int kinds.Int e = refl
kind_is kinds.Int kinds.Long e = absurd cc
kind_is kinds.Int kinds.Reference e = absurd cc
kind_is kinds.Long kinds.Int e = absurd cc
kind_is kinds.Long kinds.Long e = refl
kind_is kinds.Long kinds.Reference e = absurd cc
kind_is kinds.Reference kinds.Int e = absurd cc
kind_is kinds.Reference kinds.Long e = absurd cc
kind_is kinds.Reference kinds.Reference e = refl

abbrev same_kinds : List ValueKind → List ValueKind → Bool
same_kinds [] [] = true
same_kinds (x ∷ xs) (y ∷ ys) = same_kind x y && same_kinds xs ys
same_kinds xs ys = false

kinds_are : (xs ys : List ValueKind) → same_kinds xs ys ≡ true → xs ≡ ys
kinds_are [] [] e = refl
kinds_are [] (y ∷ ys) e = absurd cc
kinds_are (x ∷ xs) [] e = absurd cc
kinds_are (x ∷ xs) (y ∷ ys) e =
    let both = and_true (same_kind x y) (same_kinds xs ys) e in
    ap (λ z. z ∷ xs) (kind_is x y both.0) ∙ ap (λ zs. y ∷ zs) (kinds_are xs ys both.1)

-- ---- a native method and a descriptor

abbrev pub receiver : Bool → List ValueKind
receiver static = if static then [] else kinds.Reference ∷ []

abbrev gives : Option FieldType → Option ValueKind → Bool
gives None None = true
gives None (Some k) = false
gives (Some t) None = false
gives (Some t) (Some k) = has_kind t && same_kind k (value_kind t)

gives_kind : (result : Option FieldType) (given : Option ValueKind) → gives result given ≡ true → GivesKind result given
gives_kind None None e = refl
gives_kind None (Some k) e = absurd cc
gives_kind (Some t) None e = absurd cc
gives_kind (Some t) (Some k) e =
    let both = and_true (has_kind t) (same_kind k (value_kind t)) e in
    (both.0, ap (λ (x : ValueKind). Some x) (kind_is k (value_kind t) both.1))

abbrev takes_fit : Signature → List ValueKind → Option (List ValueKind) → Option ValueKind → Bool
takes_fit s below None given = true
takes_fit s below (Some takes) given = same_kinds takes (argument_kinds s ++ below) && gives s.result given

takes_fits : (s : Signature) (below : List ValueKind) (takes : Option (List ValueKind)) (given : Option ValueKind) → takes_fit s below takes given ≡ true
    → IsNativeOf s below takes given
takes_fits s below None given e = tt
takes_fits s below (Some takes) given e =
    let both = and_true (same_kinds takes (argument_kinds s ++ below)) (gives s.result given) e in
    (kinds_are takes (argument_kinds s ++ below) both.0, gives_kind s.result given both.1)

-- where the declaration is of a native method
abbrev body_fits : List ℕ → Bool → Body → Bool
body_fits descriptor static abstract_body = true
body_fits descriptor static (native_body native) = takes_fit (signature_of descriptor) (receiver static) (native_takes native) (native_result native)
body_fits descriptor static (code_body code) = true

body_is_fit : (descriptor : List ℕ) (static : Bool) (body : Body) (native : Native) → body_fits descriptor static body ≡ true → native_in body ≡ Some native
    → FitsNative (signature_of descriptor) (receiver static) native
body_is_fit descriptor static abstract_body native e is = absurd cc
body_is_fit descriptor static (native_body own) native e is =
    let same : own ≡ native = cc in
    subst (λ (n : Native). FitsNative (signature_of descriptor) (receiver static) n) same
    (takes_fits (signature_of descriptor) (receiver static) (native_takes own) (native_result own) e)
body_is_fit descriptor static (code_body code) native e is = absurd cc

-- ---- a member of a class file and a declaration of its class

-- nothing is asked of other declarations than the member's
abbrev fits_where : Bool → List ℕ → Bool → Body → Bool
fits_where false descriptor static body = true
fits_where true descriptor static body = body_fits descriptor static body

abbrev declaration_fits : Key → Bool → Method → Bool
declaration_fits key static m = fits_where (same_text key.name m.name && same_text key.descriptor m.descriptor) key.descriptor static m.body

declaration_is_fit : (key : Key) (static : Bool) (m : Method) (native : Native) → declaration_fits key static m ≡ true → same_text key.name m.name ≡ true
    → same_text key.descriptor m.descriptor ≡ true → native_in m.body ≡ Some native → FitsNative (signature_of key.descriptor) (receiver static) native
declaration_is_fit key static m native e name descriptor is =
    by (same_text key.name m.name) (same_text key.descriptor m.descriptor) e name descriptor
  where
    by : (a b : Bool) → fits_where (a && b) key.descriptor static m.body ≡ true → a ≡ true → b ≡ true → FitsNative (signature_of key.descriptor) (receiver static) native
    by true true e name descriptor = body_is_fit key.descriptor static m.body native e is
    by true false e name descriptor = absurd cc
    by false b e name descriptor = absurd cc

abbrev member_fits : List Method → Key → Bool → Bool
member_fits methods key static = list_all (declaration_fits key static) methods

abbrev member_passes : List Method → List Const → Member → Bool
member_passes methods pool m = member_fits methods (key_in pool m) (is_static m)

abbrev file_passes : Class → ClassFile → Bool
file_passes c f = same_text (own_name f) c.name && list_all (member_passes c.methods f.pool) f.methods

-- a program can begin with a method like this
abbrev pub begins : Key → Bool
begins key = takes_strings (signature_of key.descriptor).args || same_text key.name (codes "<clinit>")

abbrev pub has_code_to_begin : List Const → Member → Bool
has_code_to_begin pool m = not (is_native m && begins (key_in pool m))

abbrev pub begins_with_code : ClassFile → Bool
begins_with_code f = list_all (has_code_to_begin f.pool) f.methods

abbrev pub class_passes : Class → Bool
class_passes c = file_passes c (build.class_file c) && begins_with_code (build.class_file c)

-- what it gives
pub named_so : (c : Class) → class_passes c ≡ true → same_text (own_name (build.class_file c)) c.name ≡ true
named_so c passes =
    let f = build.class_file c in
    (and_true (same_text (own_name f) c.name) (list_all (member_passes c.methods f.pool) f.methods) (and_true (file_passes c f) (begins_with_code f) passes).0).0

pub member_is_fit : (c : Class) (i : ℕ) (m : Member) (j : ℕ) (declared : Method) (native : Native) → class_passes c ≡ true
    → slice_get (build.class_file c).methods i ≡ Some m → slice_get c.methods j ≡ Some declared
    → same_text (key_in (build.class_file c).pool m).name declared.name ≡ true
    → same_text (key_in (build.class_file c).pool m).descriptor declared.descriptor ≡ true → native_in declared.body ≡ Some native
    → FitsNative (signature_of (key_in (build.class_file c).pool m).descriptor) (receiver (is_static m)) native
member_is_fit c i m j declared native passes member method name descriptor is =
    let f = build.class_file c in
    let fits = (and_true (file_passes c f) (begins_with_code f) passes).0 in
    let all = (and_true (same_text (own_name f) c.name) (list_all (member_passes c.methods f.pool) f.methods) fits).1 in
    let here = at_all (member_passes c.methods f.pool) f.methods i m all member in
    let one = at_all (declaration_fits (key_in f.pool m) (is_static m)) c.methods j declared here method in
    declaration_is_fit (key_in f.pool m) (is_static m) declared native one name descriptor is

pub begins_there : (c : Class) → class_passes c ≡ true → begins_with_code (build.class_file c) ≡ true
begins_there c passes = (and_true (file_passes c (build.class_file c)) (begins_with_code (build.class_file c)) passes).1

-- ---- each built-in class passes

objects_pass : list_all class_passes objects.classes ≡ true
unfolding placed class string name_and_type field method interface_method build.class_file build.field build.method build.code_attribute build.code build.stack_map build.with_instruction objects.classes
objects_pass = refl

texts_pass : list_all class_passes texts.classes ≡ true
unfolding placed class string name_and_type field method interface_method build.class_file build.field build.method build.code_attribute build.code build.stack_map build.with_instruction texts.classes
texts_pass = refl

system_pass : list_all class_passes system.classes ≡ true
unfolding placed class string name_and_type field method interface_method build.class_file build.field build.method build.code_attribute build.code build.stack_map build.with_instruction system.classes
system_pass = refl

threads_pass : list_all class_passes threads.classes ≡ true
unfolding placed class string name_and_type field method interface_method build.class_file build.field build.method build.code_attribute build.code build.stack_map build.with_instruction threads.classes
threads_pass = refl

thread_builders_pass : list_all class_passes thread_builders.classes ≡ true
unfolding placed class string name_and_type field method interface_method build.class_file build.field build.method build.code_attribute build.code build.stack_map build.with_instruction thread_builders.classes
thread_builders_pass = refl

throwables_pass : list_all class_passes throwables.classes ≡ true
unfolding placed class string name_and_type field method interface_method build.class_file build.field build.method build.code_attribute build.code build.stack_map build.with_instruction throwables.classes
throwables_pass = refl

pub groups_pass : Each (λ g. list_all class_passes g ≡ true) groups
groups_pass = (objects_pass, (texts_pass, (system_pass, (threads_pass, (thread_builders_pass, (throwables_pass, tt))))))
