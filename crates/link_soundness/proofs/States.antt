-- The states of a thread have the fields of java.lang.Enum, a reference and an int.
use Rattle.std.proofs.Common.{◌≡◌, ℕ, zero, suc, ◌+◌, ◌<◌, Bool, true, false, not, cond, List, [], ◌∷◌, ◌++◌, length, reverse, Option, Some, None, refl, ap, sym, subst, ◌∙◌, arith}
use Rattle.std.specs.Prelude.{codes, filter, map, option_and_then, slice_get, ◌==◌, ◌&&◌}
use Rattle.std.specs.Option.{option_map_or}
use Rattle.std.specs.List.{flat_map, enumerate_from}
use Rattle.std.proofs.lemmas.Bool.Decides.{nat_tests}
use Rattle.std.proofs.lemmas.List.{append-nil, map-append}
use Rattle.std.proofs.lemmas.List.Elements.{filter-append}
use Rattle.std.proofs.lemmas.Option.{slice_get_within}
use Rattle.class_model.specs.declared.class_file.ClassFile.{ClassFile}
use Rattle.class_model.specs.declared.constant.Const.{Const}
use Rattle.class_model.specs.declared.member.Member.{Member}
use Rattle.class_grammar.specs.Pool.{class_name_at}
use Rattle.opcodes.specs.declared.op.ValueKind.{ValueKind}
use Rattle.opcodes.specs.declared.op.ValueKind.TheVariants as kinds
use Rattle.lib_table.specs.Build as build
use Rattle.lib_table.specs.Declarations.{Class}
use Rattle.lib_table.specs.Objects as objects
use Rattle.lib_table.specs.Pool.{placed, class, string, name_and_type, field, method, interface_method}
use Rattle.lib_table.specs.Threads as threads
use Rattle.link_rules.specs.Faults.{Links}
use Rattle.link_rules.specs.Hierarchy.{climb, parent_in, parent_of, superclasses}
use Rattle.link_rules.specs.Members.{is_static}
use Rattle.link_rules.specs.Program.{Program, class_named, own_name}
use Rattle.link_resolution.proofs.HierarchyLaws.{superclasses_here}
use Rattle.link_model.specs.declared.members.FieldInfo.{FieldInfo}
use Rattle.link_model.specs.Fields.{declares, is_field_of, own_fields}
use Rattle.link_model.specs.Infos.{field_info, fields_in}
use Rattle.link_model.specs.World.{World}
use Rattle.link_model.specs.Worlds.{world_of}
use Rattle.frame_soundness.specs.StateKinds.{field_kind, instance_kinds, kind_of_field}
use Rattle.step_soundness.proofs.MethodNumbers.{none_more, shifted}
use Rattle.link_soundness.specs.FirstValues.{HasStates}
use Rattle.link_soundness.specs.Library.{HasLibrary}
use Rattle.link_soundness.proofs.Acyclic.{have_ends}
use Rattle.link_soundness.proofs.BuiltIns.{IsBuiltIn, IsDeclared, built_in, numbered_is, object_declared, object_parent}
use Rattle.link_soundness.proofs.Chains.{ends_above}
use Rattle.link_soundness.proofs.Settled.{ends}
use Rattle.link_soundness.proofs.Statics.{member_kind, state_declared, state_name}

-- ---- the kinds of the fields that a class itself declares

abbrev own_kinds : ClassFile → List ValueKind
own_kinds f = map (member_kind f) (filter (λ m. not (is_static m)) f.fields)

-- by their numbers
numbered_kinds : (w : World) (c k : ℕ) (rest : List FieldInfo) → ((i : ℕ) (x : FieldInfo) → slice_get rest i ≡ Some x → slice_get w.fields (k + i) ≡ Some x)
    → map (field_kind w) (map (λ x. x.0) (filter (is_field_of c) (enumerate_from k rest))) ≡ map kind_of_field (filter (declares c) rest)
numbered_kinds w c k [] at = refl
numbered_kinds w c k (x ∷ rest) at =
    by (declares c x) refl
    (numbered_kinds w c (k + 1) rest (λ i y e. ap (slice_get w.fields) (shifted k i) ∙ at (suc i) y e))
  where
    here : field_kind w k ≡ kind_of_field x
    here = ap (λ o. option_map_or kind_of_field o kinds.Reference) (ap (slice_get w.fields) (none_more k) ∙ at 0 x refl)

    by : (b : Bool) → declares c x ≡ b
        → map (field_kind w) (map (λ x. x.0) (filter (is_field_of c) (enumerate_from (k + 1) rest))) ≡ map kind_of_field (filter (declares c) rest)
        → map (field_kind w) (map (λ x. x.0) (filter (is_field_of c) (enumerate_from k (x ∷ rest)))) ≡ map kind_of_field (filter (declares c) (x ∷ rest))
    by true e more = rw e (ap (λ y. y ∷ map (field_kind w) (map (λ x. x.0) (filter (is_field_of c) (enumerate_from (k + 1) rest)))) here
        ∙ ap (λ ks. kind_of_field x ∷ ks) more)
    by false e more = rw e more

-- a class doesn't declare the fields of another
of_another : (d j : ℕ) (pool : List Const) (ms : List Member) → (j == d) ≡ false → filter (declares d) (map (field_info j pool) ms) ≡ []
of_another d j pool [] other = refl
of_another d j pool (m ∷ ms) other =
    ap (λ (b : Bool). cond (b && not (is_static m)) (field_info j pool m ∷ filter (declares d) (map (field_info j pool) ms)) (filter (declares d) (map (field_info j pool) ms))) other
    ∙ of_another d j pool ms other

-- and declares its own
of_itself : (d : ℕ) (f : ClassFile) (ms : List Member) → (d == d) ≡ true
    → map kind_of_field (filter (declares d) (map (field_info d f.pool) ms)) ≡ map (member_kind f) (filter (λ m. not (is_static m)) ms)
of_itself d f [] same = refl
of_itself d f (m ∷ ms) same =
    ap (λ (b : Bool). map kind_of_field (cond (b && not (is_static m)) (field_info d f.pool m ∷ filter (declares d) (map (field_info d f.pool) ms)) (filter (declares d) (map (field_info d f.pool) ms)))) same
    ∙ by (is_static m) (of_itself d f ms same)
  where
    by : (b : Bool) → map kind_of_field (filter (declares d) (map (field_info d f.pool) ms)) ≡ map (member_kind f) (filter (λ m. not (is_static m)) ms)
        → map kind_of_field (cond (not b) (field_info d f.pool m ∷ filter (declares d) (map (field_info d f.pool) ms)) (filter (declares d) (map (field_info d f.pool) ms)))
        ≡ map (member_kind f) (cond (not b) (m ∷ filter (λ m. not (is_static m)) ms) (filter (λ m. not (is_static m)) ms))
    by true more = more
    by false more = ap (λ ks. member_kind f m ∷ ks) more

-- nor do later classes
none_later : (d j : ℕ) (files : List ClassFile) → d < j → filter (declares d) (flat_map fields_in (enumerate_from j files)) ≡ []
none_later d j [] low = refl
none_later d j (x ∷ files) low =
    filter-append (declares d) (fields_in (j, x)) (flat_map fields_in (enumerate_from (j + 1) files))
    ∙ ap (λ xs. xs ++ filter (declares d) (flat_map fields_in (enumerate_from (j + 1) files))) (of_another d j x.pool x.fields (other low))
    ∙ none_later d (j + 1) files (omega arith)
  where
    other : d < j → (j == d) ≡ false
    other low = grind (arith, nat_tests)

declared_kinds : (k : ℕ) (files : List ClassFile) (c : ℕ) (f : ClassFile) → slice_get files c ≡ Some f
    → map kind_of_field (filter (declares (k + c)) (flat_map fields_in (enumerate_from k files))) ≡ own_kinds f
declared_kinds k [] c f file = absurd cc
declared_kinds k (x ∷ files) zero f file =
    let same : x ≡ f = cc in
    let later = flat_map fields_in (enumerate_from (k + 1) files) in
    ap (λ d. map kind_of_field (filter (declares d) (fields_in (k, x) ++ later))) (sym (none_more k))
    ∙ ap (map kind_of_field) (filter-append (declares k) (fields_in (k, x)) later ∙ ap (λ xs. filter (declares k) (fields_in (k, x)) ++ xs) (none_later k (k + 1) files (omega arith)))
    ∙ map-append kind_of_field (filter (declares k) (fields_in (k, x))) [] ∙ append-nil (map kind_of_field (filter (declares k) (fields_in (k, x))))
    ∙ of_itself k x x.fields (itself k) ∙ ap own_kinds same
  where
    itself : (n : ℕ) → (n == n) ≡ true
    itself n = search (arith)
declared_kinds k (x ∷ files) (suc c) f file =
    let later = flat_map fields_in (enumerate_from (k + 1) files) in
    ap (map kind_of_field) (filter-append (declares (k + suc c)) (fields_in (k, x)) later
    ∙ ap (λ xs. xs ++ filter (declares (k + suc c)) later) (of_another (k + suc c) k x.pool x.fields (other k c)))
    ∙ ap (λ d. map kind_of_field (filter (declares d) later)) (sym (shifted k c))
    ∙ declared_kinds (k + 1) files c f file
  where
    other : (k c : ℕ) → (k == k + suc c) ≡ false
    other k c = grind (arith, nat_tests)

class_kinds : (p : Program) (c : ℕ) (f : ClassFile) → slice_get p.classes c ≡ Some f → map (field_kind (world_of p)) (own_fields (world_of p) c) ≡ own_kinds f
class_kinds p c f file =
    numbered_kinds (world_of p) c 0 (world_of p).fields (λ i x e. ap (slice_get (world_of p).fields) (zero_more i) ∙ e)
    ∙ ap (λ d. map kind_of_field (filter (declares d) (world_of p).fields)) (sym (zero_more c)) ∙ declared_kinds 0 p.classes c f file
  where
    zero_more : (i : ℕ) → 0 + i ≡ i
    zero_more i = omega arith

-- ---- a class, its superclass and that one's

two_above : (parent : ℕ → Option ℕ) (n s e o : ℕ) → ends parent n s ≡ true → parent s ≡ Some e → parent e ≡ Some o → parent o ≡ None
    → climb parent n s ≡ s ∷ e ∷ o ∷ []
two_above parent zero s e o end first second last = absurd cc
two_above parent (suc zero) s e o end first second last = let no = ends_above parent zero s e end first in absurd cc
two_above parent (suc (suc zero)) s e o end first second last =
    let no = ends_above parent zero e o (ends_above parent (suc zero) s e end first) second in absurd cc
two_above parent (suc (suc (suc n))) s e o end first second last =
    ap (λ x. s ∷ option_map_or (climb parent (suc (suc n))) x []) first
    ∙ ap (λ x. s ∷ e ∷ option_map_or (climb parent (suc n)) x []) second
    ∙ ap (λ x. s ∷ e ∷ o ∷ option_map_or (climb parent n) x []) last

-- the superclass that the file of a built-in class names
parent_is : (p : Program) (c d : Class) (b : IsBuiltIn p c) (a : IsBuiltIn p d) → (let f : ClassFile = build.class_file c in class_name_at f.pool f.parent) ≡ Some (own_name (build.class_file d))
    → parent_of p b.number ≡ Some a.number
parent_is p c d b a name = ap (λ o. option_map_or (parent_in p) o None) b.file_is ∙ ap (option_and_then (class_named p)) name ∙ a.named

-- ---- the states

enum_declared : IsDeclared objects.enum
unfolding objects.classes
enum_declared = record { group = objects.classes; group_index = 0; group_is = refl; index = 4; class_is = refl }

state_parent : (let f : ClassFile = build.class_file threads.state in class_name_at f.pool f.parent) ≡ Some (own_name (build.class_file objects.enum))
unfolding placed class string name_and_type field method interface_method build.class_file build.field build.method build.code_attribute build.code build.stack_map build.with_instruction
state_parent = refl

enum_parent : (let f : ClassFile = build.class_file objects.enum in class_name_at f.pool f.parent) ≡ Some (own_name (build.class_file objects.object))
unfolding placed class string name_and_type field method interface_method build.class_file build.field build.method build.code_attribute build.code build.stack_map build.with_instruction
enum_parent = refl

object_kinds : own_kinds (build.class_file objects.object) ≡ []
unfolding placed class string name_and_type field method interface_method build.class_file build.field build.method build.code_attribute build.code build.stack_map build.with_instruction
object_kinds = refl

enum_kinds : own_kinds (build.class_file objects.enum) ≡ kinds.Reference ∷ kinds.Int ∷ []
unfolding placed class string name_and_type field method interface_method build.class_file build.field build.method build.code_attribute build.code build.stack_map build.with_instruction
enum_kinds = refl

state_kinds : own_kinds (build.class_file threads.state) ≡ []
unfolding placed class string name_and_type field method interface_method build.class_file build.field build.method build.code_attribute build.code build.stack_map build.with_instruction
state_kinds = refl

three_kinds : (w : World) (a b c : List ℕ) (ks : List ValueKind) → map (field_kind w) a ≡ [] → map (field_kind w) b ≡ ks → map (field_kind w) c ≡ []
    → map (field_kind w) (a ++ (b ++ (c ++ []))) ≡ ks
three_kinds w a b c ks first second third =
    map-append (field_kind w) a (b ++ (c ++ [])) ∙ ap (λ xs. xs ++ map (field_kind w) (b ++ (c ++ []))) first
    ∙ map-append (field_kind w) b (c ++ []) ∙ ap (λ xs. xs ++ map (field_kind w) (c ++ [])) second
    ∙ ap (λ xs. ks ++ xs) (map-append (field_kind w) c [] ∙ ap (λ xs. xs ++ []) third) ∙ append-nil ks

pub linked_states_fit : (p : Program) → Links p → HasLibrary p → HasStates (world_of p)
linked_states_fit p links has = λ class e. subst (λ n. instance_kinds w n ≡ kinds.Reference ∷ kinds.Int ∷ []) (numbered_is p threads.state s (codes "java/lang/Thread$State") class state_name e) all
  where
    w : World
    w = world_of p

    s : IsBuiltIn p threads.state
    s = built_in p threads.state links has state_declared

    enumeration : IsBuiltIn p objects.enum
    enumeration = built_in p objects.enum links has enum_declared

    object : IsBuiltIn p objects.object
    object = built_in p objects.object links has object_declared

    none_above : parent_of p object.number ≡ None
    none_above = ap (λ o. option_map_or (parent_in p) o None) object.file_is ∙ ap (option_and_then (class_named p)) object_parent

    low : s.number < length p.classes
    low = slice_get_within p.classes s.number (build.class_file threads.state) s.file_is

    line : superclasses p s.number ≡ s.number ∷ enumeration.number ∷ object.number ∷ []
    line = superclasses_here p s.number low
        ∙ two_above (parent_of p) (length p.classes) s.number enumeration.number object.number (have_ends p links s.number low)
        (parent_is p threads.state objects.enum s enumeration state_parent) (parent_is p objects.enum objects.object enumeration object enum_parent) none_above

    all : instance_kinds w s.number ≡ kinds.Reference ∷ kinds.Int ∷ []
    all = ap (λ cs. map (field_kind w) (flat_map (own_fields w) (reverse cs))) line
        ∙ three_kinds w (own_fields w object.number) (own_fields w enumeration.number) (own_fields w s.number) (kinds.Reference ∷ kinds.Int ∷ [])
        (class_kinds p object.number (build.class_file objects.object) object.file_is ∙ object_kinds)
        (class_kinds p enumeration.number (build.class_file objects.enum) enumeration.file_is ∙ enum_kinds)
        (class_kinds p s.number (build.class_file threads.state) s.file_is ∙ state_kinds)
