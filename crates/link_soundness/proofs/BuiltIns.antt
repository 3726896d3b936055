-- The built-in classes in a program that has them: each is the class of its name. Object has neither a superclass nor fields, and Cloneable
-- and Serializable are interfaces (JLS 4.3.2, 10.8).
use Rattle.std.proofs.Common.{◌≡◌, ℕ, zero, suc, ◌+◌, Bool, true, false, List, [], ◌∷◌, length, Option, Some, None, refl, ap, sym, subst, ◌∙◌}
use Rattle.std.specs.Prelude.{codes, map, option_and_then, slice_get, ◌==◌}
use Rattle.std.specs.Option.{option_map_or}
use Rattle.std.specs.List.{flat_map}
use Rattle.std.proofs.lemmas.Bool.{and_left, eqb-true}
use Rattle.items.proofs.FirstLaws.{passed}
use Rattle.class_model.specs.declared.access_flags.TheConstants.{ACC_INTERFACE}
use Rattle.class_model.specs.declared.class_file.ClassFile.{ClassFile}
use Rattle.class_model.specs.declared.member.Member.{Member}
use Rattle.class_grammar.specs.Names.{object_class}
use Rattle.class_grammar.specs.Pool.{class_name_at}
use Rattle.lib_table.specs.Declarations.{Class}
use Rattle.lib_table.specs.Library.{library}
use Rattle.lib_table.specs.Build as build
use Rattle.lib_table.specs.Objects as objects
use Rattle.lib_table.specs.Pool.{placed, class, string, name_and_type, field, method, interface_method}
use Rattle.lib_table.specs.Table.{groups}
use Rattle.link_rules.specs.declared.why.LinkWhy.TheVariants.{Duplicate}
use Rattle.link_rules.specs.Program.{Program, class_named, has_flag, is_interface, own_name}
use Rattle.link_rules.specs.Hierarchy.{parent_in, parent_of}
use Rattle.link_rules.specs.Faults.{Links, is_first_named}
use Rattle.link_model.specs.declared.members.FieldInfo.{FieldInfo}
use Rattle.link_model.specs.World.{name_number}
use Rattle.link_model.specs.Worlds.{world_of}
use Rattle.verify_types.proofs.ListLaws.{option_true}
use Rattle.step_soundness.proofs.MethodNumbers.{left_at, map_at, none_before, right_at}
use Rattle.link_soundness.specs.Library.{HasLibrary}
use Rattle.link_soundness.proofs.Acyclic.{have_ends}
use Rattle.link_soundness.proofs.FieldNumbers.{IsField, field_of}
use Rattle.link_soundness.proofs.Numbers.{number_of_class}
use Rattle.link_soundness.proofs.Settled.{AreBare, IsInterface, IsSettled, IsTop, is_instance_field_of}
use Rattle.link_soundness.proofs.Supers.{parts_at}

-- ---- a class of a program is the class of its name

pub first_named : (p : Program) (c : ℕ) (f : ClassFile) → Links p → slice_get p.classes c ≡ Some f → class_named p (own_name f) ≡ Some c
first_named p c f links file =
    let first = passed (is_first_named p c (own_name f)) Duplicate (parts_at p c f links file).name.0 in
    let h = option_true (λ n. n == c) (class_named p (own_name f)) first in
    h.1 ∙ ap (λ (n : ℕ). Some n) (eqb-true h.0 c h.2)

-- ---- the built-in classes

-- an item of one of the lists that are put together
pub flat_at : {A B : Type 0} (f : A → List B) (xs : List A) (j i : ℕ) (a : A) (b : B) → slice_get xs j ≡ Some a → slice_get (f a) i ≡ Some b
    → (k : ℕ) × (slice_get (flat_map f xs) k ≡ Some b)
flat_at f [] j i a b at item = absurd cc
flat_at {A} {B} f (x ∷ xs) zero i a b at item =
    let same : x ≡ a = cc in
    (i, left_at (f x) (flat_map f xs) i b (ap (λ (y : A). slice_get (f y) i) same ∙ item))
flat_at f (x ∷ xs) (suc j) i a b at item =
    let h = flat_at f xs j i a b at item in
    (length (f x) + h.0, right_at (f x) (flat_map f xs) h.0 ∙ h.1)

-- a declaration of a group of the table
pub record IsDeclared (c : Class) : Type 0 where
  pub group : List Class
  pub group_index : ℕ
  pub group_is : slice_get groups group_index ≡ Some group
  pub index : ℕ
  pub class_is : slice_get group index ≡ Some c

-- the class of a declaration is in the program, under this number
pub record IsBuiltIn (p : Program) (c : Class) : Type 0 where
  pub number : ℕ
  pub file_is : slice_get p.classes number ≡ Some (build.class_file c)
  pub named : class_named p (own_name (build.class_file c)) ≡ Some number

pub built_in : (p : Program) (c : Class) → Links p → HasLibrary p → IsDeclared c → IsBuiltIn p c
built_in p c links has d =
    let k = flat_at (map build.class_file) groups d.group_index d.index d.group (build.class_file c) d.group_is
    (map_at build.class_file d.group d.index c d.class_is) in
    let file : slice_get p.classes k.0 ≡ Some (build.class_file c) =
    ap (λ (q : Program). slice_get q.classes k.0) has.is ∙ left_at library has.files k.0 (build.class_file c) k.1 in
    record { number = k.0; file_is = file; named = first_named p k.0 (build.class_file c) links file }

same_file : (o : Option ClassFile) (a b : ClassFile) → o ≡ Some a → o ≡ Some b → a ≡ b
same_file o a b x y = cc

-- no other class of the program has its name
pub file_named : (p : Program) (c : Class) (b : IsBuiltIn p c) (n : ℕ) (f : ClassFile) → Links p → slice_get p.classes n ≡ Some f
    → own_name (build.class_file c) ≡ own_name f → build.class_file c ≡ f
file_named p c b n f links file names =
    same_file (slice_get p.classes n) (build.class_file c) f (ap (slice_get p.classes) (sym number) ∙ b.file_is) file
  where
    same_number : (k j : ℕ) → ◌≡◌ {A = Option ℕ} (Some k) (Some j) → k ≡ j
    same_number k j e = cc

    number : b.number ≡ n
    number = same_number b.number n (sym b.named ∙ ap (class_named p) names ∙ first_named p n f links file)

-- the number of its name in the world
pub number_known : (p : Program) (c : Class) (b : IsBuiltIn p c) (name : List ℕ) → own_name (build.class_file c) ≡ name
    → name_number (world_of p) name ≡ Some b.number
number_known p c b name own = number_of_class p name b.number (ap (class_named p) (sym own) ∙ b.named)

pub numbered_is : (p : Program) (c : Class) (b : IsBuiltIn p c) (name : List ℕ) (n : ℕ) → own_name (build.class_file c) ≡ name
    → name_number (world_of p) name ≡ Some n → b.number ≡ n
numbered_is p c b name n own e = let known = number_known p c b name own in cc

-- ---- Object

pub object_declared : IsDeclared objects.object
unfolding objects.classes
object_declared = record { group = objects.classes; group_index = 0; group_is = refl; index = 0; class_is = refl }

pub object_name : own_name (build.class_file objects.object) ≡ object_class
unfolding placed class string name_and_type field method interface_method build.class_file build.field build.method build.code_attribute build.code build.stack_map build.with_instruction
object_name = refl

pub object_parent : (let f : ClassFile = build.class_file objects.object in class_name_at f.pool f.parent) ≡ None
unfolding placed class string name_and_type field method interface_method build.class_file build.field build.method build.code_attribute build.code build.stack_map build.with_instruction
object_parent = refl

object_fields : (build.class_file objects.object).fields ≡ []
unfolding placed class string name_and_type field method interface_method build.class_file build.field build.method build.code_attribute build.code build.stack_map build.with_instruction
object_fields = refl

-- a class whose file has no fields declares none
bare : (p : Program) (c : ℕ) (f : ClassFile) → slice_get p.classes c ≡ Some f → f.fields ≡ [] → AreBare (world_of p) c
bare p c f file none = λ n info at. by info (field_of 0 p.classes n info at) (info.class == c) refl
  where
    nothing : (i : ℕ) (m : Member) → slice_get [] i ≡ Some m → ⊥
    nothing i m e = absurd cc

    of_class : (info : FieldInfo) → IsField 0 p.classes info → info.class ≡ c → ⊥
    of_class info h same =
        let class_is : h.class ≡ c = sym (none_before h.class) ∙ ap (λ (i : FieldInfo). i.class) h.is ∙ same in
        let files = same_file (slice_get p.classes c) h.file f (ap (slice_get p.classes) (sym class_is) ∙ h.file_is) file in
        nothing h.index h.member (ap (λ ms. slice_get ms h.index) (sym (ap (λ (g : ClassFile). g.fields) files ∙ none)) ∙ h.member_is)

    by : (info : FieldInfo) → IsField 0 p.classes info → (b : Bool) → (info.class == c) ≡ b → is_instance_field_of c info ≡ false
    by info h true e = absurd (of_class info h (eqb-true info.class c e))
    by info h false e = and_left (info.class == c) _ e

object_is_top : (p : Program) → Links p → HasLibrary p → IsTop (world_of p)
object_is_top p links has = λ c e. subst (λ n. (parent_of p n ≡ None) × AreBare (world_of p) n) (numbered_is p objects.object b object_class c object_name e) (
  ap (λ o. option_map_or (parent_in p) o None) b.file_is ∙ ap (option_and_then (class_named p)) object_parent,
  bare p b.number (build.class_file objects.object) b.file_is object_fields,
)
  where
    b : IsBuiltIn p objects.object
    b = built_in p objects.object links has object_declared

-- ---- what else is above arrays

cloneable_declared : IsDeclared objects.cloneable
unfolding objects.classes
cloneable_declared = record { group = objects.classes; group_index = 0; group_is = refl; index = 2; class_is = refl }

cloneable_name : own_name (build.class_file objects.cloneable) ≡ codes "java/lang/Cloneable"
unfolding placed class string name_and_type field method interface_method build.class_file build.field build.method build.code_attribute build.code build.stack_map build.with_instruction
cloneable_name = refl

cloneable_flag : has_flag ACC_INTERFACE (build.class_file objects.cloneable).flags ≡ true
unfolding placed class string name_and_type field method interface_method build.class_file build.field build.method build.code_attribute build.code build.stack_map build.with_instruction
cloneable_flag = refl

serializable_declared : IsDeclared objects.serializable
unfolding objects.classes
serializable_declared = record { group = objects.classes; group_index = 0; group_is = refl; index = 3; class_is = refl }

serializable_name : own_name (build.class_file objects.serializable) ≡ codes "java/io/Serializable"
unfolding placed class string name_and_type field method interface_method build.class_file build.field build.method build.code_attribute build.code build.stack_map build.with_instruction
serializable_name = refl

serializable_flag : has_flag ACC_INTERFACE (build.class_file objects.serializable).flags ≡ true
unfolding placed class string name_and_type field method interface_method build.class_file build.field build.method build.code_attribute build.code build.stack_map build.with_instruction
serializable_flag = refl

interface_is : (p : Program) (c : Class) (name : List ℕ) → IsBuiltIn p c → own_name (build.class_file c) ≡ name
    → has_flag ACC_INTERFACE (build.class_file c).flags ≡ true → IsInterface (world_of p) (name_number (world_of p) name)
interface_is p c name b own flag = λ n e.
    subst (λ k. is_interface p k ≡ true) (numbered_is p c b name n own e)
    (ap (λ o. option_map_or (λ (f : ClassFile). has_flag ACC_INTERFACE f.flags) o false) b.file_is ∙ flag)

-- ---- all of it

pub settled : (p : Program) → Links p → HasLibrary p → IsSettled (world_of p)
settled p links has = record {
  ends = have_ends p links;
  top = object_is_top p links has;
  cloneable = interface_is p objects.cloneable (codes "java/lang/Cloneable") (built_in p objects.cloneable links has cloneable_declared) cloneable_name cloneable_flag;
  serializable = interface_is p objects.serializable (codes "java/io/Serializable") (built_in p objects.serializable links has serializable_declared)
      serializable_name serializable_flag;
}
