-- A field or a method that is resolved is a member of a class, and what a world knows of its number is of that member (JVMS 5.4.3).
use Rattle.std.proofs.Common.{◌≡◌, ℕ, ◌+◌, Bool, true, false, not, List, [], ◌∷◌, Option, Some, None, refl, ap, sym, subst, ◌∙◌}
use Rattle.std.specs.Prelude.{option_and_then, slice_get, ◌&&◌, if◌then◌else◌}
use Rattle.std.specs.Option.{option_map, option_map_or, option_or}
use Rattle.items.specs.First.{Each, first_in}
use Rattle.class_model.specs.declared.class_file.ClassFile.{ClassFile}
use Rattle.class_model.specs.declared.member.Member.{Member}
use Rattle.class_grammar.specs.Names.{object_class}
use Rattle.link_rules.specs.declared.choice.Choice.{Choice}
use Rattle.link_rules.specs.declared.choice.Choice.TheVariants.{Method, Abstract}
use Rattle.link_rules.specs.declared.place.MemberPlace.{MemberPlace}
use Rattle.link_rules.specs.Program.{Program, class_named, is_interface}
use Rattle.link_rules.specs.Hierarchy.{supers, superclasses}
use Rattle.link_rules.specs.Members.{Key, declared_field, declared_method, field_number, has_field, has_key, has_method, index_of, is_abstract_method, is_open, is_private, is_public_instance, is_static, method_number, place}
use Rattle.link_rules.specs.Resolution.{chosen, class_method, field_of, from_interfaces, inherited, interface_method, most_specific_bodies, object_method, open_method}
use Rattle.link_rules.specs.Selection.{by_body, instance_method, interface_choice, select_special, sole_body, special_declared, special_from, special_start}
use Rattle.link_rules.specs.Instructions.{resolved_field, resolved_method}
use Rattle.link_rules.specs.Constants.{home_of}
use Rattle.link_model.specs.Infos.{field_info, fields_of, method_info, methods_of}
use Rattle.verify_types.proofs.ListLaws.{not_true}
use Rattle.step_soundness.proofs.MethodNumbers.{info_at, number_at}
use Rattle.step_soundness.proofs.Selections.{HasKey, bodies_have, bodies_open, declared_has, each_found, first_found, interface_has, position_found}

same_place : (a b : MemberPlace) → ◌≡◌ {A = Option MemberPlace} (Some a) (Some b) → a ≡ b
same_place a b e = cc

-- ---- fields

-- the place is that of a field
pub record HasField (p : Program) (at : MemberPlace) : Type 0 where
  pub file : ClassFile
  pub file_is : slice_get p.classes at.class ≡ Some file
  pub member : Member
  pub member_is : slice_get file.fields at.index ≡ Some member

field_declared : (p : Program) (key : Key) (c : ℕ) (at : MemberPlace) → declared_field p key c ≡ Some at → HasField p at
field_declared p key c at e = by (slice_get p.classes c) refl e
  where
    found : (f : ClassFile) → slice_get p.classes c ≡ Some f → (o : Option ℕ) → index_of f.pool key f.fields ≡ o
        → option_map (place c) o ≡ Some at → HasField p at
    found f file None index e = absurd cc
    found f file (Some i) index e =
        let h = position_found (has_key f.pool key) f.fields i index in
        subst (HasField p) (same_place (place c i) at e) (record { file = f; file_is = file; member = h.item; member_is = h.at })

    by : (o : Option ClassFile) → slice_get p.classes c ≡ o
        → option_map_or (λ (f : ClassFile). option_map (place c) (index_of f.pool key f.fields)) o None ≡ Some at → HasField p at
    by None file e = absurd cc
    by (Some f) file e = found f file (index_of f.pool key f.fields) refl e

pub field_resolved : (p : Program) (name : List ℕ) (key : Key) (at : MemberPlace) → resolved_field p name key ≡ Some at → HasField p at
field_resolved p name key at e = by (home_of p name) e
  where
    by : (o : Option ℕ) → option_and_then (λ home. field_of p home key) o ≡ Some at → HasField p at
    by None e = absurd cc
    by (Some home) e = first_found (HasField p) (declared_field p key) (λ c x is. field_declared p key c x is) (supers p home) at e

-- what is known of its number
pub field_is : (p : Program) (at : MemberPlace) (h : HasField p at) → slice_get (fields_of p) (field_number p at) ≡ Some (field_info (0 + at.class) h.file.pool h.member)
field_is p at h = info_at (λ (g : ClassFile). g.fields) field_info 0 p.classes at.class at.index h.file h.member h.file_is h.member_is

-- the test of the field is that of the member
pub field_flag : (p : Program) (at : MemberPlace) (test : Member → Bool) (h : HasField p at) → has_field test p at ≡ test h.member
field_flag p at test h =
    ap (λ o. option_map_or test (option_map_or (λ (g : ClassFile). slice_get g.fields at.index) o None) false) h.file_is
    ∙ ap (λ o. option_map_or test o false) h.member_is

-- ---- methods

-- the place is that of a method
pub record HasMethod (p : Program) (at : MemberPlace) : Type 0 where
  pub file : ClassFile
  pub file_is : slice_get p.classes at.class ≡ Some file
  pub member : Member
  pub member_is : slice_get file.methods at.index ≡ Some member

of_key : (p : Program) (key : Key) (at : MemberPlace) → HasKey p key at → HasMethod p at
of_key p key at h = record { file = h.file; file_is = h.file_is; member = h.member; member_is = h.member_is }

declared_is : (p : Program) (key : Key) (c : ℕ) (at : MemberPlace) → declared_method p key c ≡ Some at → HasMethod p at
declared_is p key c at e = of_key p key at (declared_has p key c at e)

pub method_is : (p : Program) (at : MemberPlace) (h : HasMethod p at) → slice_get (methods_of p) (method_number p at) ≡ Some (method_info (0 + at.class) h.file.pool h.member)
method_is p at h = number_at 0 p.classes at.class at.index h.file h.member h.file_is h.member_is

pub method_flag : (p : Program) (at : MemberPlace) (test : Member → Bool) (h : HasMethod p at) → has_method test p at ≡ test h.member
method_flag p at test h =
    ap (λ o. option_map_or test (option_map_or (λ (g : ClassFile). slice_get g.methods at.index) o None) false) h.file_is
    ∙ ap (λ o. option_map_or test o false) h.member_is

-- ---- resolution of methods

-- those of superinterfaces
inherited_have : (p : Program) (key : Key) (c : ℕ) → Each (HasKey p key) (inherited p c key)
inherited_have p key c = each_found (HasKey p key) (open_method p key) (λ x y e. interface_has p key x y e) (supers p c)

first_of : (P : MemberPlace → Type 0) (all : List MemberPlace) (at : MemberPlace) → Each P all → chosen [] all ≡ Some at → P at
first_of P [] at each e = absurd cc
first_of P (x ∷ all) at each e = subst P (same_place x at e) each.0

chosen_is : (P : MemberPlace → Type 0) (bodies all : List MemberPlace) (at : MemberPlace) → Each P bodies → Each P all → chosen bodies all ≡ Some at → P at
chosen_is P [] all at some each e = first_of P all at each e
chosen_is P (x ∷ []) all at some each e = subst P (same_place x at e) some.0
chosen_is P (x ∷ y ∷ bodies) [] at some each e = absurd cc
chosen_is P (x ∷ y ∷ bodies) (z ∷ all) at some each e = subst P (same_place z at e) each.0

from_interfaces_has : (p : Program) (c : ℕ) (key : Key) (at : MemberPlace) → from_interfaces p c key ≡ Some at → HasMethod p at
from_interfaces_has p c key at e =
    of_key p key at (chosen_is (HasKey p key) (most_specific_bodies p c key) (inherited p c key) at (bodies_have p key c) (inherited_have p key c) e)

-- the first of two that is there
either_has : (P : MemberPlace → Type 0) (a b : Option MemberPlace) (at : MemberPlace) → ((x : MemberPlace) → a ≡ Some x → P x) → ((x : MemberPlace) → b ≡ Some x → P x)
    → option_or a b ≡ Some at → P at
either_has P None b at first second e = second at e
either_has P (Some x) b at first second e = first at e

class_method_has : (p : Program) (c : ℕ) (key : Key) (at : MemberPlace) → class_method p c key ≡ Some at → HasMethod p at
class_method_has p c key at e =
    either_has (HasMethod p) (first_in (declared_method p key) (superclasses p c)) (from_interfaces p c key) at
    (λ x is. first_found (HasMethod p) (declared_method p key) (λ d y found. declared_is p key d y found) (superclasses p c) x is)
    (λ x is. from_interfaces_has p c key x is) e

-- a public instance method that Object declares
record IsOfObject (p : Program) (at : MemberPlace) : Type 0 where
  pub has : HasMethod p at
  pub passes : has_method is_public_instance p at ≡ true

object_method_has : (p : Program) (key : Key) (at : MemberPlace) → object_method p key ≡ Some at → IsOfObject p at
object_method_has p key at e = by (option_and_then (declared_method p key) (class_named p object_class)) refl e
  where
    declared : (o : Option ℕ) (x : MemberPlace) → option_and_then (declared_method p key) o ≡ Some x → HasMethod p x
    declared None x e = absurd cc
    declared (Some c) x e = declared_is p key c x e

    tested : (x : MemberPlace) → HasMethod p x → (b : Bool) → has_method is_public_instance p x ≡ b → (if b then Some x else None) ≡ Some at → IsOfObject p at
    tested x has true is e = subst (IsOfObject p) (same_place x at e) (record { has = has; passes = is })
    tested x has false is e = absurd cc

    by : (o : Option MemberPlace) → option_and_then (declared_method p key) (class_named p object_class) ≡ o
        → option_and_then (λ x. if has_method is_public_instance p x then Some x else None) o ≡ Some at → IsOfObject p at
    by None is e = absurd cc
    by (Some x) is e = tested x (declared (class_named p object_class) x is) (has_method is_public_instance p x) refl e

interface_method_has : (p : Program) (c : ℕ) (key : Key) (at : MemberPlace) → interface_method p c key ≡ Some at → HasMethod p at
interface_method_has p c key at e =
    either_has (HasMethod p) (declared_method p key c) (option_or (object_method p key) (from_interfaces p c key)) at
    (λ x is. declared_is p key c x is)
    (λ x is. either_has (HasMethod p) (object_method p key) (from_interfaces p c key) x
    (λ y found. (object_method_has p key y found).has) (λ y found. from_interfaces_has p c key y found) is)
    e

pub method_resolved : (p : Program) (of_interface : Bool) (name : List ℕ) (key : Key) (at : MemberPlace) → resolved_method p of_interface name key ≡ Some at → HasMethod p at
method_resolved p of_interface name key at e = by of_interface (home_of p name) e
  where
    by : (b : Bool) (o : Option ℕ) → option_and_then (λ home. if b then interface_method p home key else class_method p home key) o ≡ Some at → HasMethod p at
    by b None e = absurd cc
    by true (Some home) e = interface_method_has p home key at e
    by false (Some home) e = class_method_has p home key at e

-- ---- what invokespecial selects is of objects, where the method that is named is

-- there is a method of objects at the place
pub record IsOfInstances (p : Program) (at : MemberPlace) : Type 0 where
  pub has : HasMethod p at
  pub flag : has_method is_static p at ≡ false

not_and : (a b : Bool) → (a && b) ≡ true → b ≡ true
not_and true b e = e
not_and false b e = absurd cc

flag_of : (p : Program) (at : MemberPlace) (test : Member → Bool) → HasMethod p at → has_method test p at ≡ true → ((m : Member) → test m ≡ true → is_static m ≡ false)
    → has_method is_static p at ≡ false
flag_of p at test has passes gives = method_flag p at is_static has ∙ gives has.member (sym (method_flag p at test has) ∙ passes)

open_instance : (p : Program) (key : Key) (at : MemberPlace) → HasKey p key at → has_method is_open p at ≡ true → IsOfInstances p at
open_instance p key at h passes =
    let has = of_key p key at h in
    record {
      has = has;
      flag = flag_of p at is_open has passes (λ m e. not_true (is_static m) (not_and (not (is_private m)) (not (is_static m)) e));
    }

of_object : (p : Program) (at : MemberPlace) → IsOfObject p at → IsOfInstances p at
of_object p at o = record {
  has = o.has;
  flag = flag_of p at is_public_instance o.has o.passes (λ m e. not_true (is_static m) (not_and _ (not (is_static m)) e));
}

instance_has : (p : Program) (key : Key) (c : ℕ) (at : MemberPlace) → instance_method p key c ≡ Some at → IsOfInstances p at
instance_has p key c at e = by (declared_method p key c) refl e
  where
    tested : (x : MemberPlace) → HasMethod p x → (b : Bool) → has_method is_static p x ≡ b → (if b then None else Some x) ≡ Some at → IsOfInstances p at
    tested x has true is e = absurd cc
    tested x has false is e = subst (IsOfInstances p) (same_place x at e) (record { has = has; flag = is })

    by : (o : Option MemberPlace) → declared_method p key c ≡ o → option_and_then (λ x. if has_method is_static p x then None else Some x) o ≡ Some at
        → IsOfInstances p at
    by None is e = absurd cc
    by (Some x) is e = tested x (declared_is p key c x is) (has_method is_static p x) refl e

bodies_instances : (p : Program) (key : Key) (bodies : List MemberPlace) → Each (HasKey p key) bodies → Each (λ x. has_method is_open p x ≡ true) bodies
    → Each (IsOfInstances p) bodies
bodies_instances p key [] have are_open = tt
bodies_instances p key (x ∷ bodies) have are_open = (open_instance p key x have.0 are_open.0, bodies_instances p key bodies have.1 are_open.1)

-- what a choice gives
abbrev pub IsOfChoice : Program → Choice → Type 0
IsOfChoice p (Method at) = IsOfInstances p at
IsOfChoice p choice = Unit {0}

sole_is : (p : Program) (bodies : List MemberPlace) → Each (IsOfInstances p) bodies → IsOfChoice p (sole_body bodies)
sole_is p [] each = tt
sole_is p (x ∷ []) each = each.0
sole_is p (x ∷ y ∷ bodies) each = tt

body_is : (p : Program) (at : MemberPlace) → IsOfInstances p at → IsOfChoice p (by_body p at)
body_is p at has = by (has_method is_abstract_method p at)
  where
    by : (b : Bool) → IsOfChoice p (if b then Abstract else Method at)
    by true = tt
    by false = has

declared_on : (p : Program) (key : Key) (start : ℕ) (at : MemberPlace) → special_declared p key start ≡ Some at → IsOfInstances p at
declared_on p key start at e = by (is_interface p start) e
  where
    by : (b : Bool) → (if b then option_or (instance_method p key start) (object_method p key) else first_in (instance_method p key) (superclasses p start)) ≡ Some at
        → IsOfInstances p at
    by true e =
        either_has (IsOfInstances p) (instance_method p key start) (object_method p key) at
        (λ x is. instance_has p key start x is) (λ x is. of_object p x (object_method_has p key x is)) e
    by false e = first_found (IsOfInstances p) (instance_method p key) (λ c y found. instance_has p key c y found) (superclasses p start) at e

special_is : (p : Program) (key : Key) (start : ℕ) → IsOfChoice p (special_from p key start)
special_is p key start = by (special_declared p key start) refl
  where
    by : (o : Option MemberPlace) → special_declared p key start ≡ o → IsOfChoice p (option_map_or (by_body p) o (interface_choice p start key))
    by None e =
        sole_is p (most_specific_bodies p start key)
        (bodies_instances p key (most_specific_bodies p start key) (bodies_have p key start) (bodies_open p key start))
    by (Some at) e = body_is p at (declared_on p key start at e)

pub special_selected : (p : Program) (c named : ℕ) (key : Key) → IsOfChoice p (select_special p c named key)
special_selected p c named key = special_is p key (special_start p c named key)
