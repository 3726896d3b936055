-- The objects of a class have the fields that getfield and putfield name, at their places (JVMS 2.7, 5.4.3.2, 6.5).
use Rattle.std.proofs.Common.{◌≡◌, ◌⊎◌, inl, inr, ℕ, zero, suc, ◌+◌, ◌<◌, ◌≤◌, Bool, true, false, not, List, [], ◌∷◌, ◌++◌, length, reverse, Option, Some, None, refl, ap, sym, subst, ◌∙◌, arith}
use Rattle.std.specs.Prelude.{option_and_then, position, slice_get, nat_le, nat_lt, unwrap_or, codes, ◌-◌, ◌==◌, ◌&&◌, ◌||◌, if◌then◌else◌}
use Rattle.std.specs.Option.{option_map, option_map_or}
use Rattle.std.specs.List.{flat_map}
use Rattle.std.proofs.lemmas.Bool.{eqb-true}
use Rattle.std.proofs.lemmas.Bool.Decides.{nat_tests}
use Rattle.std.proofs.lemmas.List.{reverse-append}
use Rattle.std.proofs.lemmas.List.Concat.{flat_map-append}
use Rattle.std.proofs.lemmas.Option.{slice_get_within}
use Rattle.items.specs.First.{AllNone}
use Rattle.items.specs.Options.{◌>>=◌}
use Rattle.items.proofs.FirstLaws.{passed}
use Rattle.class_model.specs.declared.class_file.ClassFile.{ClassFile}
use Rattle.class_grammar.specs.Names.{object_class}
use Rattle.class_grammar.specs.Text.{same_text}
use Rattle.link_resolution.proofs.HierarchyLaws.{superclasses_here}
use Rattle.stack_maps.specs.declared.types.Base.TheVariants as bases
use Rattle.link_rules.specs.declared.place.MemberPlace.{MemberPlace}
use Rattle.link_rules.specs.declared.why.LinkWhy.TheVariants.{WrongKind}
use Rattle.link_rules.specs.Program.{Program, class_named, is_array_name, is_interface}
use Rattle.link_rules.specs.Faults.{Links, field_faults_at}
use Rattle.link_rules.specs.Hierarchy.{directs, edges, is_among, is_below, parent_of, superclasses, supers, visit}
use Rattle.link_rules.specs.Instructions.{field_faults, is_field_kind, resolved_field}
use Rattle.link_rules.specs.Members.{Key, declared_field, field_number, has_field, index_of, is_static, place}
use Rattle.link_rules.specs.Resolution.{field_of}
use Rattle.descriptors.specs.Meaning.{kind_of}
use Rattle.link_model.specs.declared.members.FieldInfo.{FieldInfo}
use Rattle.link_model.specs.declared.sites.ArrayType.{ArrayType}
use Rattle.link_model.specs.declared.sites.Site.TheVariants as sites
use Rattle.link_model.specs.Fields.{field_place, instance_fields, own_fields}
use Rattle.link_model.specs.Infos.{field_info}
use Rattle.link_model.specs.Numbering.{array_number, number_of}
use Rattle.link_model.specs.Sites.{member_of, named_field}
use Rattle.link_model.specs.Subtypes.{base_below, class_below, is_above_arrays, is_array_super, is_named, is_object, is_sub, type_below, type_of}
use Rattle.link_model.specs.World.{World, array_type, class_count, name_number}
use Rattle.link_model.specs.Worlds.{linking_of, world_of}
use Rattle.verify_types.proofs.ListLaws.{and_true, numbered, option_true, true_and}
use Rattle.ref_model.specs.Fetch as fetch
use Rattle.frame_soundness.specs.EventLaws.{HasDimensions, IsInstanceResolution}
use Rattle.step_soundness.proofs.LinkedWorlds.{dimensions_are_there}
use Rattle.step_soundness.proofs.MethodNumbers.{left_at, none_before}
use Rattle.step_soundness.proofs.Selections.{position_found}
use Rattle.link_soundness.proofs.Settled.{IsSettled, is_instance_field_of}
use Rattle.link_soundness.proofs.Chains.{IsUp, suffix, up_holds, up_join}
use Rattle.link_soundness.proofs.LinkedCode.{each_at}
use Rattle.link_soundness.proofs.Numbers.{number_of_class}
use Rattle.link_soundness.proofs.Places.{HasField, field_flag, field_is, field_resolved}
use Rattle.link_soundness.proofs.Supers.{IsAbove, IsRoot, below_above, first_each, named_inside, or_left, parent_inside, parts_at, root_parent, supers_above}
use Rattle.link_soundness.proofs.Tests.{beq_true, lower, or_true}

-- ---- Object and what is above a class

abbrev object_of : Program → Option ℕ
object_of p = name_number (world_of p) object_class

named : (p : Program) (x : ℕ) → class_named p object_class ≡ Some x → object_of p ≡ Some x
named p x e = number_of_class p object_class x e

top : (p : Program) → IsSettled (world_of p) → (x : ℕ) → object_of p ≡ Some x → parent_of p x ≡ None
top p settled x e = (settled.top x e).0

above : (p : Program) (a b : ℕ) → Links p → IsSettled (world_of p) → is_below p a b ≡ true → IsAbove p (object_of p) a b
above p a b links settled e = below_above p (object_of p) a b links (named p) (top p settled) e

-- what is above an interface or Object is such
root_above : (p : Program) (a b : ℕ) → Links p → IsSettled (world_of p) → IsRoot p (object_of p) a → IsAbove p (object_of p) a b → IsRoot p (object_of p) b
root_above p a b links settled root (inr r) = r
root_above p a b links settled root (inl u) =
    up_holds (IsRoot p (object_of p)) (parent_of p) (λ x y r e. root_parent p (object_of p) x y links (named p) (top p settled) r e) u.steps a b root u.is

-- ---- the class of a field that is resolved

same_place : (a b : MemberPlace) → ◌≡◌ {A = Option MemberPlace} (Some a) (Some b) → a ≡ b
same_place a b e = cc

field_class : (p : Program) (key : Key) (c : ℕ) (at : MemberPlace) → declared_field p key c ≡ Some at → at.class ≡ c
field_class p key c at e = by (slice_get p.classes c) e
  where
    found : (o : Option ℕ) → option_map (place c) o ≡ Some at → at.class ≡ c
    found None e = absurd cc
    found (Some i) e = ap (λ (x : MemberPlace). x.class) (sym (same_place (place c i) at e))

    by : (o : Option ClassFile) → option_map_or (λ (f : ClassFile). option_map (place c) (index_of f.pool key f.fields)) o None ≡ Some at → at.class ≡ c
    by None e = absurd cc
    by (Some f) e = found (index_of f.pool key f.fields) e

resolved_above : (p : Program) (home : ℕ) (key : Key) (at : MemberPlace) → Links p → IsSettled (world_of p) → field_of p home key ≡ Some at
    → IsAbove p (object_of p) home at.class
resolved_above p home key at links settled e =
    first_each (IsAbove p (object_of p) home) (λ (x : MemberPlace). IsAbove p (object_of p) home x.class) (declared_field p key)
    (λ c x h is. subst (IsAbove p (object_of p) home) (sym (field_class p key c x is)) h) (supers p home) at
    (supers_above p (object_of p) home links (named p) (top p settled)) e

same_number : (n : ℕ) → (n == n) ≡ true
same_number n = search (arith)

-- a field of objects is declared neither by an interface nor by Object
no_root : (p : Program) (at : MemberPlace) (h : HasField p at) → Links p → IsSettled (world_of p) → is_static h.member ≡ false
    → IsRoot p (object_of p) at.class → ⊥
no_root p at h links settled flag (inl interface) =
    let rules = numbered (λ x. AllNone (field_faults_at p at.class h.file x.0 x.1)) 0 at.index h.file.fields h.member
    (parts_at p at.class h.file links h.file_is).fields h.member_is in
    let static = or_left (is_interface p at.class) (is_static h.member) (passed (not (is_interface p at.class) || is_static h.member) WrongKind rules.1.0) interface in
    absurd cc
no_root p at h links settled flag (inr is) =
    let info : FieldInfo = field_info (0 + at.class) h.file.pool h.member in
    let bare = (settled.top at.class is).1 (field_number p at) info (field_is p at h) in
    let own : (0 + at.class == at.class) ≡ true = ap (λ c. c == at.class) (none_before at.class) ∙ same_number at.class in
    let passes : is_instance_field_of at.class info ≡ true = true_and (0 + at.class == at.class) (not (is_static h.member)) own (ap not flag) in
    absurd cc

-- ---- classes and array classes

below_inside : (p : Program) (a b : ℕ) → is_below p a b ≡ true → a < length p.classes
below_inside p a b e = by (slice_get p.classes a) refl e
  where
    by : (o : Option ClassFile) → slice_get p.classes a ≡ o
        → is_among (option_map_or (λ (f : ClassFile). visit (directs p) (edges p (length p.classes) + 1) (a ∷ []) []) o []) b ≡ true → a < length p.classes
    by None file e = absurd cc
    by (Some f) file e = slice_get_within p.classes a f file

-- an object of a class h is one of an array class only where h is above arrays
record IsPlain (w : World) (class h : ℕ) : Type 0 where
  pub none : array_type w class ≡ None
  pub below : class_below w class h ≡ true

deep : (w : World) (h : ℕ) (a : ArrayType) (d : ℕ) → 1 ≤ d
    → (if d == 0 then base_below w a.base (bases.Class h) else nat_lt 0 d && is_array_super w (bases.Class h)) ≡ true → is_above_arrays w h ≡ true
deep w h a zero low e = absurd (omega arith)
deep w h a (suc d) low e =
    let some : (suc d == 0) ≡ false = grind (arith, nat_tests) in
    let arrays : Bool = nat_lt 0 (suc d) && is_array_super w (bases.Class h) in
    (and_true (nat_lt 0 (suc d)) (is_array_super w (bases.Class h)) (sym (ap (λ (b : Bool). if b then base_below w a.base (bases.Class h) else arrays) some) ∙ e)).1

sub_is : (w : World) (class h : ℕ) → HasDimensions w → array_type w h ≡ None → is_sub w class h ≡ true → IsPlain w class h ⊎ (is_above_arrays w h ≡ true)
sub_is w class h dimensions none e =
    by (array_type w class) refl (sym (ap (λ o. type_below w (type_of w class) (unwrap_or o (plain_type h))) none) ∙ e)
  where
    plain_type : ℕ → ArrayType
    plain_type c = record { dimensions = 0; base = bases.Class c }

    dimension : (a : ArrayType) → array_type w class ≡ Some a → 1 ≤ a.dimensions
    dimension a is = within (nat_lt class (length w.names)) is
      where
        within : (b : Bool) → (if b then None else slice_get w.arrays (class - length w.names)) ≡ Some a → 1 ≤ a.dimensions
        within true is = absurd cc
        within false is = each_at (λ (x : ArrayType). 1 ≤ x.dimensions) w.arrays (class - length w.names) a dimensions is

    by : (o : Option ArrayType) → array_type w class ≡ o → type_below w (unwrap_or o (plain_type class)) (plain_type h) ≡ true
        → IsPlain w class h ⊎ (is_above_arrays w h ≡ true)
    by None is e = inl (record { none = is; below = e })
    by (Some a) is e = inr (deep w h a a.dimensions (dimension a is) e)

-- what is above arrays is Object or an interface
number_is : (found : Option ℕ) (c : ℕ) → option_map_or (λ n. n == c) found false ≡ true → found ≡ Some c
number_is found c e = let h = option_true (λ n. n == c) found e in h.1 ∙ ap (λ (n : ℕ). Some n) (eqb-true h.0 c h.2)

arrays_root : (p : Program) (h : ℕ) → IsSettled (world_of p) → is_above_arrays (world_of p) h ≡ true → IsRoot p (object_of p) h
arrays_root p h settled e =
    by (or_true (is_object w h || is_named w (codes "java/lang/Cloneable") h) (is_named w (codes "java/io/Serializable") h) e)
  where
    w : World
    w = world_of p

    inner : (is_object w h ≡ true) ⊎ (is_named w (codes "java/lang/Cloneable") h ≡ true) → IsRoot p (object_of p) h
    inner (inl e) = inr (number_is (object_of p) h e)
    inner (inr e) = inl (settled.cloneable h (number_is (name_number w (codes "java/lang/Cloneable")) h e))

    by : ((is_object w h || is_named w (codes "java/lang/Cloneable") h) ≡ true) ⊎ (is_named w (codes "java/io/Serializable") h ≡ true) → IsRoot p (object_of p) h
    by (inl e) = inner (or_true (is_object w h) (is_named w (codes "java/lang/Cloneable") h) e)
    by (inr e) = inl (settled.serializable h (number_is (name_number w (codes "java/io/Serializable")) h e))

-- ---- the fields of a superclass come first

fields_first : (p : Program) (class super n at : ℕ) → IsSettled (world_of p) → class < length p.classes → super < length p.classes
    → IsUp (parent_of p) class super → slice_get (instance_fields (world_of p) super) at ≡ Some n → slice_get (instance_fields (world_of p) class) at ≡ Some n
fields_first p class super n at settled low high u lies =
    let w = world_of p in
    let h = suffix (parent_of p) (length p.classes) (λ c inside. settled.ends c inside) (λ c d e. parent_inside p c d e) u.steps class super low u.is in
    let all : superclasses p class ≡ h.front ++ superclasses p super =
    superclasses_here p class low ∙ h.parts ∙ ap (λ cs. h.front ++ cs) (sym (superclasses_here p super high)) in
    let fields : instance_fields w class ≡ instance_fields w super ++ flat_map (own_fields w) (reverse h.front) =
    ap (λ cs. flat_map (own_fields w) (reverse cs)) all
    ∙ ap (flat_map (own_fields w)) (reverse-append h.front (superclasses p super))
    ∙ flat_map-append (own_fields w) (reverse (superclasses p super)) (reverse h.front) in
    ap (λ xs. slice_get xs at) fields ∙ left_at (instance_fields w super) (flat_map (own_fields w) (reverse h.front)) at n lies

-- ---- a field that is named

-- the field lies at its place in the objects of the class that declares it
field_lies : (p : Program) (x : MemberPlace) (h : HasField p x) (n at : ℕ) → field_number p x ≡ n → field_place (world_of p) n ≡ Some at
    → slice_get (instance_fields (world_of p) x.class) at ≡ Some n
field_lies p x h n at same placed =
    let w = world_of p in
    let known : slice_get w.fields n ≡ Some (field_info (0 + x.class) h.file.pool h.member) = ap (slice_get w.fields) (sym same) ∙ field_is p x h in
    let found : position (λ m. m == n) (instance_fields w (0 + x.class)) ≡ Some at =
    sym (ap (λ (o : Option FieldInfo). o >>= λ f. position (λ m. m == n) (instance_fields w f.class)) known) ∙ placed in
    let g = position_found (λ m. m == n) (instance_fields w (0 + x.class)) at found in
    ap (λ c. slice_get (instance_fields w c) at) (sym (none_before x.class)) ∙ g.at ∙ ap (λ (m : ℕ). Some m) (eqb-true g.item n g.passes)

pub instance_named : (p : Program) (c : ℕ) (name : List ℕ) (key : Key) (class : ℕ) → Links p → IsSettled (world_of p)
    → AllNone (field_faults p c false name key) → IsInstanceResolution (world_of p) (named_field (linking_of p) name key) class
instance_named p c name key class links settled none = λ n number at field_is_n class_is sub placed.
    by n number at sub placed (resolved_field p name key) refl (passed (is_field_kind p false (resolved_field p name key)) WrongKind none.1.0) field_is_n class_is
  where
    w : World
    w = world_of p

    Answer : ℕ → ℕ → Type 0
    Answer n at = (slice_get (instance_fields w class) at ≡ Some n) × (array_type w class ≡ None)

    -- where the class that is named is h
    of_class : (n at h : ℕ) (x : MemberPlace) (has : HasField p x) → is_static has.member ≡ false → slice_get (instance_fields w x.class) at ≡ Some n
        → h < length p.classes → IsAbove p (object_of p) h x.class → array_type w h ≡ None → is_sub w class h ≡ true → Answer n at
    of_class n at h x has flag lies inside up no_array sub = either (sub_is w class h (dimensions_are_there p) no_array sub)
      where
        no : IsRoot p (object_of p) h → Answer n at
        no root = absurd (no_root p x has links settled flag (root_above p h x.class links settled root up))

        joined : array_type w class ≡ None → class < length p.classes → IsAbove p (object_of p) class h → IsAbove p (object_of p) h x.class → Answer n at
        joined plain low (inr root) up = no root
        joined plain low (inl u) (inr root) = absurd (no_root p x has links settled flag root)
        joined plain low (inl u) (inl v) = (
          fields_first p class x.class n at settled low (slice_get_within p.classes x.class has.file has.file_is)
              (up_join (parent_of p) u.steps class h x.class u.is v) lies,
          plain,
        )

        itself : array_type w class ≡ None → class ≡ h → Answer n at
        itself plain same =
            joined plain (subst (λ c. c < length p.classes) (sym same) inside)
            (subst (λ c. IsAbove p (object_of p) c h) (sym same) (inl (record { steps = 0; is = refl }))) up

        in_program : array_type w class ≡ None → ((class == h) ≡ true) ⊎ (is_below p class h ≡ true) → Answer n at
        in_program plain (inl same) = itself plain (eqb-true class h same)
        in_program plain (inr below) = joined plain (below_inside p class h below) (above p class h links settled below) up

        -- a class that isn't in the program is below itself and Object
        below_it : array_type w class ≡ None → ((class == h || is_below p class h) ≡ true) ⊎ ((nat_le (class_count w) class && is_object w h) ≡ true) → Answer n at
        below_it plain (inl e) = in_program plain (or_true (class == h) (is_below p class h) e)
        below_it plain (inr e) = no (inr (number_is (object_of p) h (and_true (nat_le (class_count w) class) (is_object w h) e).1))

        either : IsPlain w class h ⊎ (is_above_arrays w h ≡ true) → Answer n at
        either (inl plain) = below_it plain.none (or_true (class == h || is_below p class h) (nat_le (class_count w) class && is_object w h) plain.below)
        either (inr e) = no (arrays_root p h settled e)

    -- the class that is named, by whether it is an array class
    of_name : (n number at : ℕ) (x : MemberPlace) (has : HasField p x) → is_static has.member ≡ false → slice_get (instance_fields w x.class) at ≡ Some n
        → is_sub w class number ≡ true → (b : Bool)
        → option_and_then (λ home. field_of p home key) (if b then class_named p object_class else class_named p name) ≡ Some x
        → (if b then array_number (linking_of p).numbering (kind_of name) else number_of (linking_of p).numbering.names name) ≡ Some number
        → Answer n at
    of_name n number at x has flag lies sub true resolved numbered = in_object (class_named p object_class) refl resolved
      where
        in_object : (o : Option ℕ) → class_named p object_class ≡ o → option_and_then (λ home. field_of p home key) o ≡ Some x → Answer n at
        in_object None is e = absurd cc
        in_object (Some home) is e =
            absurd (no_root p x has links settled flag
            (root_above p home x.class links settled (inr (named p home is)) (resolved_above p home key x links settled e)))
    of_name n number at x has flag lies sub false resolved numbered = in_class (class_named p name) refl resolved
      where
        in_class : (o : Option ℕ) → class_named p name ≡ o → option_and_then (λ home. field_of p home key) o ≡ Some x → Answer n at
        in_class None is e = absurd cc
        in_class (Some home) is e =
            let known : number_of w.names name ≡ Some home = number_of_class p name home is in
            let same : number ≡ home = cc in
            let g = position_found (λ other. same_text other name) w.names home known in
            let no_array : array_type w home ≡ None =
            ap (λ (b : Bool). if b then None else slice_get w.arrays (home - length w.names)) (lower home (length w.names) (slice_get_within w.names home g.item g.at)) in
            of_class n at home x has flag lies (named_inside p name home is) (resolved_above p home key x links settled e) no_array (subst (λ k. is_sub w class k ≡ true) same sub)

    by : (n number at : ℕ) → is_sub w class number ≡ true → field_place w n ≡ Some at
        → (o : Option MemberPlace) → resolved_field p name key ≡ o → is_field_kind p false o ≡ true
        → fetch.field_of (member_of (linking_of p) name (option_map (λ x. sites.Field (field_number p x)) o)).site ≡ Some n
        → (member_of (linking_of p) name (option_map (λ x. sites.Field (field_number p x)) o)).class ≡ Some number → Answer n at
    by n number at sub placed None is kind e class_is = absurd cc
    by n number at sub placed (Some x) is kind e class_is =
        let same : field_number p x ≡ n = cc in
        let has = field_resolved p name key x is in
        let flag = sym (field_flag p x is_static has) ∙ beq_true (has_field is_static p x) false kind in
        of_name n number at x has flag (field_lies p x has n at same placed) sub (is_array_name name) is class_is
