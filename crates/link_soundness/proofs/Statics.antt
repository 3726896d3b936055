-- The values with which static fields begin are of the kinds of their fields (JVMS 4.7.2): a stream or a state is that of a field of a built-in
-- class, whose type is a class; a constant has the type of its field, since each class is a class file; and what is left is zero.
use Rattle.std.proofs.Common.{◌≡◌, ◌⊎◌, inl, inr, ℕ, suc, ◌+◌, Bool, true, false, List, [], ◌∷◌, ◌++◌, Option, Some, None, refl, ap, sym, subst, ◌∙◌}
use Rattle.std.specs.Prelude.{ℤ, codes, filter, map, slice_get, unwrap_or, ◌||◌, if◌then◌else◌}
use Rattle.std.specs.Option.{option_map_or, option_or}
use Rattle.std.specs.List.{flat_map, list_all, enumerate_from}
use Rattle.std.proofs.lemmas.List.{map-append}
use Rattle.std.proofs.lemmas.List.Elements.{filter-append}
use Rattle.items.specs.First.{Each, first_in}
use Rattle.items.specs.Options.{◌>>=◌}
use Rattle.items.proofs.FirstLaws.{passed}
use Rattle.items.proofs.Binds.{some_is}
use Rattle.class_model.specs.declared.attribute.Attribute.{Attribute}
use Rattle.class_model.specs.declared.attribute.Body.{Body}
use Rattle.class_model.specs.declared.attribute.Body.TheVariants as bodies
use Rattle.class_model.specs.declared.class_file.ClassFile.{ClassFile}
use Rattle.class_model.specs.declared.constant.Const.{Const}
use Rattle.class_model.specs.declared.constant.Const.TheVariants.{Integer, Long, Text}
use Rattle.class_model.specs.declared.member.Member.{Member}
use Rattle.class_grammar.specs.declared.class_why.ClassWhy.TheVariants as whys
use Rattle.class_grammar.specs.Checks.{attribute_items, class_items, field_items, has_type, holds, is_value as is_value_there, is_value_of, items, member_items, method_items, pool_items, sound_bytes, value_fault}
use Rattle.class_grammar.specs.Grammar.{IsSound}
use Rattle.class_grammar.specs.Names.{string_descriptor}
use Rattle.class_grammar.specs.Pool.{text_at}
use Rattle.class_grammar.specs.Text.{same_text}
use Rattle.descriptors.specs.declared.kind.Kind.{Kind as FieldType}
use Rattle.descriptors.specs.Meaning.{kind_of as type_named}
use Rattle.opcodes.specs.declared.op.ValueKind.{ValueKind}
use Rattle.opcodes.specs.declared.op.ValueKind.TheVariants as kinds
use Rattle.instruction_rows.specs.declared.value.Value.{Value}
use Rattle.instruction_rows.specs.declared.value.Value.TheVariants as values
use Rattle.instruction_rows.specs.Kinds.{kind_of}
use Rattle.lib_table.specs.Build as build
use Rattle.lib_table.specs.Declarations.{Class}
use Rattle.lib_table.specs.Pool.{placed, class, string, name_and_type, field, method, interface_method}
use Rattle.lib_table.specs.Spelled.{IsSpelled}
use Rattle.lib_table.specs.System as system
use Rattle.lib_table.specs.Threads as threads
use Rattle.link_rules.specs.Faults.{Links}
use Rattle.link_rules.specs.Members.{is_static}
use Rattle.link_rules.specs.Program.{Program, own_name}
use Rattle.link_rules.specs.Selection.{key_in}
use Rattle.link_model.specs.declared.members.FieldInfo.{FieldInfo}
use Rattle.link_model.specs.Fields.{is_static_field}
use Rattle.link_model.specs.Infos.{field_info, fields_in}
use Rattle.link_model.specs.Strings.{string_number, strings_of}
use Rattle.link_model.specs.Worlds.{world_of}
use Rattle.verify_types.proofs.ListLaws.{at_all, each_flat, each_split, option_true}
use Rattle.ref_model.specs.Kinds.{kept, value_kind, zero_of_kind}
use Rattle.ref_model.specs.Opening.{attribute_value, constant_in, constant_or_zero, constant_value, object_or, opening_object, static_opening, statics_in}
use Rattle.frame_soundness.specs.StateKinds.{kind_of_field}
use Rattle.step_soundness.proofs.Selections.{text_same}
use Rattle.link_soundness.specs.Library.{HasLibrary}
use Rattle.link_soundness.specs.FirstValues.{HasStaticKinds}
use Rattle.link_soundness.proofs.Begins.{known}
use Rattle.link_soundness.proofs.Bodies.{each_of_all}
use Rattle.link_soundness.proofs.BuiltIns.{IsDeclared, built_in, file_named}
use Rattle.link_soundness.proofs.LinkedCode.{each_at}
use Rattle.link_soundness.proofs.Tests.{or_true}

-- the kind of the field, by its descriptor
abbrev pub member_kind : ClassFile → Member → ValueKind
member_kind f m = value_kind (type_named (key_in f.pool m).descriptor)

-- ---- constants

zero_kind : (k : ValueKind) → kind_of (zero_of_kind k) ≡ k
zero_kind kinds.Int = refl
zero_kind kinds.Long = refl
zero_kind kinds.Reference = refl

kept_kind : (t : FieldType) (v : Value) → kind_of (kept t v) ≡ kind_of v
kept_kind t (values.Int n) = refl
kept_kind t (values.Long n) = refl
kept_kind t values.Null = refl
kept_kind t (values.Ref o) = refl

or_zero : (t : FieldType) (o : Option Value) → ((v : Value) → o ≡ Some v → kind_of v ≡ value_kind t) → kind_of (constant_or_zero t o) ≡ value_kind t
or_zero t None fits = zero_kind (value_kind t)
or_zero t (Some v) fits = kept_kind t v ∙ fits v refl

abbrev is_of : List ℕ → List ℕ → Bool
is_of type text = same_text type text

of_text : (type text : List ℕ) (k : ValueKind) → value_kind (type_named text) ≡ k → is_of type text ≡ true → value_kind (type_named type) ≡ k
of_text type text k is e = ap (λ t. value_kind (type_named t)) (text_same type text e) ∙ is

int_type : (type : List ℕ) (n : ℤ) → has_type type (Integer n) ≡ true → value_kind (type_named type) ≡ kinds.Int
int_type type n e = last (or_true (is_of type (codes "I") || is_of type (codes "S") || is_of type (codes "C") || is_of type (codes "B")) (is_of type (codes "Z")) e)
  where
    second : (is_of type (codes "I") ≡ true) ⊎ (is_of type (codes "S") ≡ true) → value_kind (type_named type) ≡ kinds.Int
    second (inl e) = of_text type (codes "I") kinds.Int refl e
    second (inr e) = of_text type (codes "S") kinds.Int refl e

    third : ((is_of type (codes "I") || is_of type (codes "S")) ≡ true) ⊎ (is_of type (codes "C") ≡ true) → value_kind (type_named type) ≡ kinds.Int
    third (inl e) = second (or_true (is_of type (codes "I")) (is_of type (codes "S")) e)
    third (inr e) = of_text type (codes "C") kinds.Int refl e

    fourth : ((is_of type (codes "I") || is_of type (codes "S") || is_of type (codes "C")) ≡ true) ⊎ (is_of type (codes "B") ≡ true)
        → value_kind (type_named type) ≡ kinds.Int
    fourth (inl e) = third (or_true (is_of type (codes "I") || is_of type (codes "S")) (is_of type (codes "C")) e)
    fourth (inr e) = of_text type (codes "B") kinds.Int refl e

    last : ((is_of type (codes "I") || is_of type (codes "S") || is_of type (codes "C") || is_of type (codes "B")) ≡ true) ⊎ (is_of type (codes "Z") ≡ true)
        → value_kind (type_named type) ≡ kinds.Int
    last (inl e) = fourth (or_true (is_of type (codes "I") || is_of type (codes "S") || is_of type (codes "C")) (is_of type (codes "B")) e)
    last (inr e) = of_text type (codes "Z") kinds.Int refl e

-- the value of a constant that is of the type
constant_fits : (p : Program) (pool : List Const) (type : List ℕ) (c : Const) (v : Value) → has_type type c ≡ true → constant_value p pool c ≡ Some v
    → kind_of v ≡ value_kind (type_named type)
constant_fits p pool type (Integer n) v typed e =
    let same : values.Int n ≡ v = cc in sym (int_type type n typed ∙ ap kind_of same)
constant_fits p pool type (Long n) v typed e =
    let same : values.Long n ≡ v = cc in sym (of_text type (codes "J") kinds.Long refl typed ∙ ap kind_of same)
constant_fits p pool type (Text index) v typed e =
    let units = some_is (text_at pool index) (λ units. string_number (strings_of p) units >>= λ n. Some (values.Ref n)) v e in
    let n = some_is (string_number (strings_of p) units.0) (λ n. Some (values.Ref n)) v units.2 in
    let same : values.Ref n.0 ≡ v = one (values.Ref n.0) v n.2 in
    sym (of_text type string_descriptor kinds.Reference refl typed ∙ ap kind_of same)
  where
    one : (a b : Value) → ◌≡◌ {A = Option Value} (Some a) (Some b) → a ≡ b
    one a b e = cc
constant_fits p pool type c v typed e = absurd cc

-- ---- a ConstantValue is of the type of its field

-- nothing is wrong with an attribute of a field of a class file
checked_field : (f : ClassFile) (i : ℕ) (m : Member) → IsSpelled f → slice_get f.fields i ≡ Some m
    → Each (λ a. Each IsSound (attribute_items f.pool m a)) m.attributes
checked_field f i m spelled member =
    let all = each_of_all IsSound (items f) spelled.1.sound in
    let behind = (each_split IsSound (pool_items f) (class_items f ++ member_items f) all).1 in
    let members = (each_split IsSound (class_items f) (member_items f) behind).1 in
    let fields = (each_split IsSound (flat_map (field_items f.pool) f.fields) (sound_bytes 2 ∷ flat_map (method_items f.pool) f.methods) members.1).0 in
    let own = each_at (λ x. Each IsSound (field_items f.pool x)) f.fields i m (each_flat IsSound (field_items f.pool) f.fields fields) member in
    each_flat IsSound (attribute_items f.pool m) m.attributes own.1.1.1.1

checked_value : (pool : List Const) (m : Member) (attributes : List Attribute) (index : ℕ) → Each (λ a. Each IsSound (attribute_items pool m a)) attributes
    → first_in constant_in attributes ≡ Some index → value_fault pool m index ≡ None
checked_value pool m [] index sound e = absurd cc
checked_value pool m (a ∷ attributes) index sound e = by a.body sound.0 e (λ behind. checked_value pool m attributes index sound.1 behind)
  where
    with_body : Body → Attribute
    with_body b = record { name = a.name; body = b }

    by : (b : Body) → Each IsSound (attribute_items pool m (with_body b)) → option_or (constant_in (with_body b)) (first_in constant_in attributes) ≡ Some index
        → (first_in constant_in attributes ≡ Some index → value_fault pool m index ≡ None) → value_fault pool m index ≡ None
    by (bodies.Constant own) here e rest = let same : own ≡ index = cc in subst (λ n. value_fault pool m n ≡ None) same here.1.0
    by (bodies.Code body) here e rest = rest e
    by (bodies.Other bytes) here e rest = rest e

attribute_fits : (p : Program) (f : ClassFile) (i : ℕ) (m : Member) (v : Value) → IsSpelled f → slice_get f.fields i ≡ Some m → is_static m ≡ true
    → attribute_value p f.pool m ≡ Some v → kind_of v ≡ member_kind f m
attribute_fits p f i m v spelled member static e =
    let index = some_is (first_in constant_in m.attributes) (λ index. slice_get f.pool index >>= constant_value p f.pool) v e in
    let c = some_is (slice_get f.pool index.0) (constant_value p f.pool) v index.2 in
    let none = checked_value f.pool m m.attributes index.0 (checked_field f i m spelled member) index.1 in
    let value = is_value index.0 none in
    let type = option_true (λ type. holds (has_type type) f.pool index.0) (text_at f.pool m.descriptor) value in
    let typed = sym (ap (λ o. option_map_or (has_type type.0) o false) c.1) ∙ type.2 in
    constant_fits p f.pool type.0 c.0 v typed c.2 ∙ ap (λ o. value_kind (type_named (unwrap_or o []))) (sym type.1)
  where
    is_value : (index : ℕ) → value_fault f.pool m index ≡ None → is_value_of f.pool m.descriptor index ≡ true
    is_value index none = by (is_static m) static none
      where
        by : (b : Bool) → b ≡ true → (if b then (if is_value_of f.pool m.descriptor index then None else Some whys.Index)
            else (if holds is_value_there f.pool index then None else Some whys.Index)) ≡ None → is_value_of f.pool m.descriptor index ≡ true
        by true e none = passed (is_value_of f.pool m.descriptor index) whys.Index none
        by false e none = absurd cc

-- ---- the streams and the states

abbrev is_reference_kind : ValueKind → Bool
is_reference_kind kinds.Int = false
is_reference_kind kinds.Long = false
is_reference_kind kinds.Reference = true

reference_is : (k : ValueKind) → is_reference_kind k ≡ true → k ≡ kinds.Reference
reference_is kinds.Int e = absurd cc
reference_is kinds.Long e = absurd cc
reference_is kinds.Reference e = refl

abbrev is_reference : ClassFile → Member → Bool
is_reference f m = is_reference_kind (member_kind f m)

abbrev has_references : ClassFile → Bool
has_references f = list_all (is_reference f) f.fields

system_declared : IsDeclared system.system
unfolding system.classes
system_declared = record { group = system.classes; group_index = 2; group_is = refl; index = 0; class_is = refl }

system_name : own_name (build.class_file system.system) ≡ codes "java/lang/System"
unfolding placed class string name_and_type field method interface_method build.class_file build.field build.method build.code_attribute build.code build.stack_map build.with_instruction
system_name = refl

system_references : has_references (build.class_file system.system) ≡ true
unfolding placed class string name_and_type field method interface_method build.class_file build.field build.method build.code_attribute build.code build.stack_map build.with_instruction
system_references = refl

pub state_declared : IsDeclared threads.state
unfolding threads.classes
state_declared = record { group = threads.classes; group_index = 3; group_is = refl; index = 2; class_is = refl }

pub state_name : own_name (build.class_file threads.state) ≡ codes "java/lang/Thread$State"
unfolding placed class string name_and_type field method interface_method build.class_file build.field build.method build.code_attribute build.code build.stack_map build.with_instruction
state_name = refl

state_references : has_references (build.class_file threads.state) ≡ true
unfolding placed class string name_and_type field method interface_method build.class_file build.field build.method build.code_attribute build.code build.stack_map build.with_instruction
state_references = refl

-- a field of a built-in class that has such fields alone
of_built_in : (p : Program) (c : Class) (name : List ℕ) (n i : ℕ) (f : ClassFile) (m : Member) → Links p → HasLibrary p → IsDeclared c
    → own_name (build.class_file c) ≡ name → has_references (build.class_file c) ≡ true → slice_get p.classes n ≡ Some f
    → slice_get f.fields i ≡ Some m → same_text (own_name f) name ≡ true → member_kind f m ≡ kinds.Reference
of_built_in p c name n i f m links has declared own references file member same =
    let b = built_in p c links has declared in
    let files = file_named p c b n f links file (own ∙ sym (text_same (own_name f) name same)) in
    let all : has_references f ≡ true = subst (λ g. has_references g ≡ true) files references in
    reference_is (member_kind f m) (at_all (is_reference f) f.fields i m all member)

object_fits : (p : Program) (n i : ℕ) (f : ClassFile) (m : Member) (o : ℕ) → Links p → HasLibrary p → slice_get p.classes n ≡ Some f
    → slice_get f.fields i ≡ Some m → opening_object (own_name f) (key_in f.pool m).name ≡ Some o → member_kind f m ≡ kinds.Reference
object_fits p n i f m o links has file member e =
    by (same_text (own_name f) (codes "java/lang/System")) (same_text (own_name f) (codes "java/lang/Thread$State")) refl refl _ _ e
  where
    by : (a b : Bool) → same_text (own_name f) (codes "java/lang/System") ≡ a → same_text (own_name f) (codes "java/lang/Thread$State") ≡ b
        → (x y : Option ℕ) → (if a then x else if b then y else None) ≡ Some o → member_kind f m ≡ kinds.Reference
    by true b is other x y e =
        of_built_in p system.system (codes "java/lang/System") n i f m links has system_declared system_name system_references file member is
    by false true is other x y e =
        of_built_in p threads.state (codes "java/lang/Thread$State") n i f m links has state_declared state_name state_references file member other
    by false false is other x y e = absurd cc

-- ---- a static field

static_fits : (p : Program) (n i : ℕ) (f : ClassFile) (m : Member) → Links p → HasLibrary p → slice_get p.classes n ≡ Some f
    → slice_get f.fields i ≡ Some m → is_static m ≡ true → kind_of (static_opening p f m) ≡ member_kind f m
static_fits p n i f m links has file member static =
    by (opening_object (own_name f) (key_in f.pool m).name) refl
  where
    rest : Value
    rest = constant_or_zero (type_named (key_in f.pool m).descriptor) (attribute_value p f.pool m)

    by : (o : Option ℕ) → opening_object (own_name f) (key_in f.pool m).name ≡ o
        → kind_of (object_or o (constant_or_zero (type_named (key_in f.pool m).descriptor) (attribute_value p f.pool m))) ≡ member_kind f m
    by None is =
        or_zero (type_named (key_in f.pool m).descriptor) (attribute_value p f.pool m)
        (λ v e. attribute_fits p f i m v (known p n f has file).spelled member static e)
    by (Some o) is = sym (object_fits p n i f m o links has file member is)

-- ---- all of them, class by class

abbrev kinds_among : List FieldInfo → List ValueKind
kinds_among fields = map kind_of_field (filter is_static_field fields)

kinds_join : (xs ys : List FieldInfo) → kinds_among (xs ++ ys) ≡ kinds_among xs ++ kinds_among ys
kinds_join xs ys = ap (map kind_of_field) (filter-append is_static_field xs ys) ∙ map-append kind_of_field (filter is_static_field xs) (filter is_static_field ys)

-- the fields of a class, of which each that is static fits
abbrev Fits : Program → ClassFile → Member → Type 0
Fits p f m = is_static m ≡ true → kind_of (static_opening p f m) ≡ member_kind f m

members_fit : (p : Program) (k : ℕ) (f : ClassFile) (ms : List Member) → ((i : ℕ) (m : Member) → slice_get ms i ≡ Some m → Fits p f m)
    → map kind_of (map (static_opening p f) (filter is_static ms)) ≡ kinds_among (map (field_info k f.pool) ms)
members_fit p k f [] fits = refl
members_fit p k f (m ∷ ms) fits = by (is_static m) refl (members_fit p k f ms (λ i x at. fits (suc i) x at))
  where
    by : (b : Bool) → is_static m ≡ b
        → map kind_of (map (static_opening p f) (filter is_static ms)) ≡ kinds_among (map (field_info k f.pool) ms)
        → map kind_of (map (static_opening p f) (filter is_static (m ∷ ms))) ≡ kinds_among (map (field_info k f.pool) (m ∷ ms))
    by true e rest =
        let one : kind_of (static_opening p f m) ≡ member_kind f m = fits 0 m refl e in
        rw e (ap (λ x. x ∷ map kind_of (map (static_opening p f) (filter is_static ms))) one ∙ ap (λ ks. member_kind f m ∷ ks) rest)
    by false e rest = rw e rest

classes_fit : (p : Program) (k : ℕ) (files : List ClassFile)
    → ((n i : ℕ) (f : ClassFile) (m : Member) → slice_get files n ≡ Some f → slice_get f.fields i ≡ Some m → Fits p f m)
    → map kind_of (flat_map (statics_in p) files) ≡ kinds_among (flat_map fields_in (enumerate_from k files))
classes_fit p k [] fits = refl
classes_fit p k (f ∷ files) fits =
    map-append kind_of (statics_in p f) (flat_map (statics_in p) files)
    ∙ ap (λ ks. ks ++ map kind_of (flat_map (statics_in p) files)) (members_fit p k f f.fields (λ i m at. fits 0 i f m refl at))
    ∙ ap (λ ks. kinds_among (fields_in (k, f)) ++ ks) (classes_fit p (k + 1) files (λ n i g m file at. fits (suc n) i g m file at))
    ∙ sym (kinds_join (fields_in (k, f)) (flat_map fields_in (enumerate_from (k + 1) files)))

pub linked_statics_fit : (p : Program) → Links p → HasLibrary p → HasStaticKinds (world_of p)
linked_statics_fit p links has = classes_fit p 0 p.classes (λ n i f m file member static. static_fits p n i f m links has file member static)
