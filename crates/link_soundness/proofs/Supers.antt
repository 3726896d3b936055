-- What is above a class: its superclasses, and else interfaces and Object (JVMS 4.1, 5.3.5).
use Rattle.std.proofs.Common.{◌≡◌, ◌⊎◌, inl, inr, ℕ, zero, suc, ◌+◌, ◌<◌, Bool, true, false, cond, List, [], ◌∷◌, ◌++◌, length, Option, Some, None, refl, ap, sym, subst, ◌∙◌}
use Rattle.std.specs.Prelude.{filter_map, option_and_then, slice_get, unwrap_or, not, ◌&&◌, ◌||◌, ◌==◌}
use Rattle.std.specs.Option.{option_map_or, option_or, option_to_list}
use Rattle.std.specs.List.{cons_option, flat_map, enumerate_from, list_any}
use Rattle.std.proofs.lemmas.Bool.{eqb-true}
use Rattle.std.proofs.lemmas.Option.{slice_get_within}
use Rattle.items.specs.First.{AllNone, Each, first_in}
use Rattle.items.proofs.FirstLaws.{passed}
use Rattle.class_model.specs.declared.class_file.ClassFile.{ClassFile}
use Rattle.class_grammar.specs.Names.{object_class}
use Rattle.class_grammar.specs.Pool.{class_name_at}
use Rattle.class_grammar.specs.Text.{same_text}
use Rattle.link_rules.specs.declared.why.LinkWhy.TheVariants.{WrongKind}
use Rattle.link_rules.specs.Program.{Program, class_named, is_array_name, is_interface, own_name}
use Rattle.link_rules.specs.Hierarchy.{class_in, directs, edges, interfaces_in, interfaces_of, is_among, is_below, parent_in, parent_of, supers, visit}
use Rattle.link_rules.specs.Faults.{Links, class_faults_at, field_faults_at, interface_faults_at, is_parent_kind, method_code_faults, method_faults_at, name_faults, names_class, names_interface, parent_faults, parent_faults_of}
use Rattle.verify_types.proofs.ListLaws.{and_true, each_flat, each_join, each_kept, each_split, not_true}
use Rattle.step_soundness.proofs.MethodNumbers.{none_before}
use Rattle.step_soundness.proofs.Selections.{position_found, text_same}
use Rattle.link_soundness.proofs.Chains.{IsUp, up_one}
use Rattle.link_soundness.proofs.LinkedCode.{class_links}

-- ---- the classes that are met

visit_all : (P : ℕ → Type 0) (above : ℕ → List ℕ) → ((x : ℕ) → P x → Each P (above x)) → (n : ℕ) (todo seen : List ℕ) → Each P todo → Each P seen
    → Each P (visit above n todo seen)
visit_all P above closed zero todo seen h g = g
visit_all P above closed (suc n) [] seen h g = g
visit_all P above closed (suc n) (c ∷ todo) seen h g =
    by (is_among seen c) (visit_all P above closed n todo seen h.1 g)
    (visit_all P above closed n (above c ++ todo) (seen ++ c ∷ []) (each_join P (above c) todo (closed c h.0) h.1) (each_join P seen (c ∷ []) g (h.0, tt)))
  where
    by : (b : Bool) → Each P (visit above n todo seen) → Each P (visit above n (above c ++ todo) (seen ++ c ∷ []))
        → Each P (cond b (visit above n todo seen) (visit above n (above c ++ todo) (seen ++ c ∷ [])))
    by true seen_all new_all = seen_all
    by false seen_all new_all = new_all

-- what holds of a class, and of all that is directly above each that it holds of
pub supers_all : (P : ℕ → Type 0) (p : Program) (c : ℕ) → ((x : ℕ) → P x → Each P (directs p x)) → P c → Each P (supers p c)
supers_all P p c closed h = by (slice_get p.classes c)
  where
    by : (o : Option ClassFile) → Each P (option_map_or (λ f. visit (directs p) (edges p (length p.classes) + 1) (c ∷ []) []) o [])
    by None = tt
    by (Some f) = visit_all P (directs p) closed (edges p (length p.classes) + 1) (c ∷ []) [] (h, tt) tt

among_each : (P : ℕ → Type 0) (cs : List ℕ) (c : ℕ) → Each P cs → is_among cs c ≡ true → P c
among_each P [] c h e = absurd cc
among_each P (d ∷ cs) c h e = by (d == c) refl e (λ rest. among_each P cs c h.1 rest)
  where
    by : (b : Bool) → (d == c) ≡ b → (b || list_any (λ x. x == c) cs) ≡ true → (is_among cs c ≡ true → P c) → P c
    by true is e more = subst P (eqb-true d c is) h.0
    by false is e more = more e

pub first_each : {B : Type 0} (P : ℕ → Type 0) (Q : B → Type 0) (f : ℕ → Option B) → ((x : ℕ) (y : B) → P x → f x ≡ Some y → Q y) → (xs : List ℕ) (y : B)
    → Each P xs → first_in f xs ≡ Some y → Q y
first_each P Q f each [] y h e = absurd cc
first_each {B} P Q f each (x ∷ xs) y h e = by (f x) refl e (first_each P Q f each xs y h.1)
  where
    by : (o : Option B) → f x ≡ o → option_or o (first_in f xs) ≡ Some y → (first_in f xs ≡ Some y → Q y) → Q y
    by None is e rest = rest e
    by (Some z) is e rest = each x y h.0 (is ∙ e)

-- ---- what linking gives of a class

of_number : (P : ℕ → Type 0) (c : ℕ) → P (0 + c) → P c
of_number P c h = subst P (none_before c) h

links_at : (p : Program) (c : ℕ) (f : ClassFile) → Links p → slice_get p.classes c ≡ Some f → AllNone (class_faults_at p c f)
links_at p c f links file = of_number (λ n. AllNone (class_faults_at p n f)) c (class_links p c f links file)

abbrev IsNone : {A : Type 0} → Option A → Type 0
IsNone o = o ≡ None

-- the rules of a class, part by part
pub record Parts (p : Program) (c : ℕ) (f : ClassFile) : Type 0 where
  pub name : AllNone (name_faults p c f)
  pub parent : AllNone (parent_faults p c f)
  pub interfaces : Each (λ i. AllNone (interface_faults_at p c f i)) f.interfaces
  pub fields : Each (λ x. AllNone (field_faults_at p c f x.0 x.1)) (enumerate_from 0 f.fields)
  pub methods : Each (λ x. AllNone (method_faults_at p c f x.0 x.1)) (enumerate_from 0 f.methods)

parts_of : (p : Program) (c : ℕ) (f : ClassFile) → AllNone (class_faults_at p c f) → Parts p c f
parts_of p c f none =
    let named = name_faults p c f in
    let parents = parent_faults p c f in
    let interfaces = flat_map (interface_faults_at p c f) f.interfaces in
    let fields = flat_map (λ x. field_faults_at p c f x.0 x.1) (enumerate_from 0 f.fields) in
    let methods = flat_map (λ x. method_faults_at p c f x.0 x.1) (enumerate_from 0 f.methods) in
    let codes = flat_map (method_code_faults p c f.pool) f.methods in
    let a = each_split IsNone (named ++ parents ++ interfaces ++ fields ++ methods) codes none in
    let b = each_split IsNone (named ++ parents ++ interfaces ++ fields) methods a.0 in
    let d = each_split IsNone (named ++ parents ++ interfaces) fields b.0 in
    let e = each_split IsNone (named ++ parents) interfaces d.0 in
    record {
      name = (each_split IsNone named parents e.0).0;
      parent = (each_split IsNone named parents e.0).1;
      interfaces = each_flat IsNone (interface_faults_at p c f) f.interfaces e.1;
      fields = each_flat IsNone (λ x. field_faults_at p c f x.0 x.1) (enumerate_from 0 f.fields) d.1;
      methods = each_flat IsNone (λ x. method_faults_at p c f x.0 x.1) (enumerate_from 0 f.methods) b.1;
    }

pub parts_at : (p : Program) (c : ℕ) (f : ClassFile) → Links p → slice_get p.classes c ≡ Some f → Parts p c f
parts_at p c f links file = parts_of p c f (links_at p c f links file)

-- ---- interfaces and Object

-- an interface, or the class that is Object
abbrev pub IsRoot : Program → Option ℕ → ℕ → Type 0
IsRoot p object c = (is_interface p c ≡ true) ⊎ (object ≡ Some c)

pub named_inside : (p : Program) (name : List ℕ) (d : ℕ) → class_named p name ≡ Some d → d < length p.classes
named_inside p name d e =
    let h = position_found (λ f. same_text (own_name f) name) p.classes d e in
    slice_get_within p.classes d h.item h.at

-- the class at an index of a pool is the class of the name there
pub record IsNamedClass (p : Program) (f : ClassFile) (index d : ℕ) : Type 0 where
  pub name : List ℕ
  pub name_is : class_name_at f.pool index ≡ Some name
  pub is : class_named p name ≡ Some d

pub class_in_is : (p : Program) (f : ClassFile) (index d : ℕ) → class_in p f index ≡ Some d → IsNamedClass p f index d
class_in_is p f index d e = by (class_name_at f.pool index) refl e
  where
    by : (o : Option (List ℕ)) → class_name_at f.pool index ≡ o → option_and_then (class_named p) o ≡ Some d → IsNamedClass p f index d
    by None is e = absurd cc
    by (Some name) is e = record { name = name; name_is = is; is = e }

pub parent_inside : (p : Program) (c d : ℕ) → parent_of p c ≡ Some d → d < length p.classes
parent_inside p c d e = by (slice_get p.classes c) e
  where
    by : (o : Option ClassFile) → option_map_or (parent_in p) o None ≡ Some d → d < length p.classes
    by None e = absurd cc
    by (Some f) e = let h = class_in_is p f f.parent d e in named_inside p h.name d h.is

not_false : (b : Bool) → not b ≡ false → b ≡ true
not_false true e = refl
not_false false e = absurd cc

interface_is : (p : Program) (c : ℕ) (f : ClassFile) (index d : ℕ) → AllNone (interface_faults_at p c f index) → class_in p f index ≡ Some d → is_interface p d ≡ true
interface_is p c f index d none e =
    let h = class_in_is p f index d e in
    let name = unwrap_or (class_name_at f.pool index) [] in
    let same : name ≡ h.name = ap (λ o. unwrap_or o []) h.name_is in
    let kind = passed (not (is_array_name name) && not (names_class p name)) WrongKind none.1.1.0 in
    let no_class = not_true (names_class p name) (and_true (not (is_array_name name)) (not (names_class p name)) kind).1 in
    let known : not (is_interface p d) ≡ false =
    sym (ap (λ n. names_class p n) same ∙ ap (λ o. option_map_or (λ x. not (is_interface p x)) o false) h.is) ∙ no_class in
    not_false (is_interface p d) known

interfaces_are : (p : Program) (object : Option ℕ) (c : ℕ) (f : ClassFile) (indices : List ℕ) → Each (λ i. AllNone (interface_faults_at p c f i)) indices
    → Each (IsRoot p object) (filter_map (class_in p f) indices)
interfaces_are p object c f [] none = tt
interfaces_are p object c f (i ∷ indices) none = by (class_in p f i) refl (interfaces_are p object c f indices none.1)
  where
    by : (o : Option ℕ) → class_in p f i ≡ o → Each (IsRoot p object) (filter_map (class_in p f) indices)
        → Each (IsRoot p object) (cons_option o (filter_map (class_in p f) indices))
    by None is rest = rest
    by (Some d) is rest = (inl (interface_is p c f i d none.0 is), rest)

-- the superinterfaces of a class
pub interfaces_root : (p : Program) (object : Option ℕ) (c : ℕ) → Links p → Each (IsRoot p object) (interfaces_of p c)
interfaces_root p object c links = by (slice_get p.classes c) refl
  where
    by : (o : Option ClassFile) → slice_get p.classes c ≡ o → Each (IsRoot p object) (option_map_or (interfaces_in p) o [])
    by None file = tt
    by (Some f) file = interfaces_are p object c f f.interfaces (parts_at p c f links file).interfaces

pub or_left : (a b : Bool) → (not a || b) ≡ true → a ≡ true → b ≡ true
or_left true b e is = e
or_left false b e is = absurd cc

-- the superclass of an interface is Object
interface_parent : (p : Program) (c d : ℕ) → Links p → is_interface p c ≡ true → parent_of p c ≡ Some d → class_named p object_class ≡ Some d
interface_parent p c d links interface e = by (slice_get p.classes c) refl e
  where
    named : (f : ClassFile) → AllNone (parent_faults p c f) → IsNamedClass p f f.parent d → class_named p object_class ≡ Some d
    named f none h =
        let rules = subst (λ o. AllNone (option_map_or (parent_faults_of p c) o [])) h.name_is none in
        let kind = passed (is_parent_kind p c h.name) WrongKind rules.1.1.0 in
        let object = or_left (is_interface p c) (same_text h.name object_class)
        (and_true (not (is_array_name h.name || names_interface p h.name)) (not (is_interface p c) || same_text h.name object_class) kind).1 interface in
        ap (class_named p) (sym (text_same h.name object_class object)) ∙ h.is

    by : (o : Option ClassFile) → slice_get p.classes c ≡ o → option_map_or (parent_in p) o None ≡ Some d → class_named p object_class ≡ Some d
    by None file e = absurd cc
    by (Some f) file e = named f (parts_at p c f links file).parent (class_in_is p f f.parent d e)

-- and so of each of these
pub root_parent : (p : Program) (object : Option ℕ) (c d : ℕ) → Links p → ((x : ℕ) → class_named p object_class ≡ Some x → object ≡ Some x)
    → ((x : ℕ) → object ≡ Some x → parent_of p x ≡ None) → IsRoot p object c → parent_of p c ≡ Some d → IsRoot p object d
root_parent p object c d links named top (inl interface) e = inr (named d (interface_parent p c d links interface e))
root_parent p object c d links named top (inr is) e = let none = top c is in absurd cc

-- ---- what is above a class

option_each : (P : ℕ → Type 0) (o : Option ℕ) → ((x : ℕ) → o ≡ Some x → P x) → Each P (option_to_list o)
option_each P None h = tt
option_each P (Some x) h = (h x refl, tt)

-- a superclass, or an interface or Object
abbrev pub IsAbove : Program → Option ℕ → ℕ → ℕ → Type 0
IsAbove p object c d = IsUp (parent_of p) c d ⊎ IsRoot p object d

above_closed : (p : Program) (object : Option ℕ) (c : ℕ) → Links p → ((x : ℕ) → class_named p object_class ≡ Some x → object ≡ Some x)
    → ((x : ℕ) → object ≡ Some x → parent_of p x ≡ None) → (x : ℕ) → IsAbove p object c x → Each (IsAbove p object c) (directs p x)
above_closed p object c links named top x h =
    each_join (IsAbove p object c) (interfaces_of p x) (option_to_list (parent_of p x))
    (each_kept (IsRoot p object) (IsAbove p object c) (λ y root. inr root) (interfaces_of p x) (interfaces_root p object x links))
    (option_each (IsAbove p object c) (parent_of p x) (λ y e. by h y e))
  where
    by : IsAbove p object c x → (y : ℕ) → parent_of p x ≡ Some y → IsAbove p object c y
    by (inl u) y e = inl (record { steps = suc u.steps; is = up_one (parent_of p) u.steps c x y u.is e })
    by (inr root) y e = inr (root_parent p object x y links named top root e)

pub supers_above : (p : Program) (object : Option ℕ) (c : ℕ) → Links p → ((x : ℕ) → class_named p object_class ≡ Some x → object ≡ Some x)
    → ((x : ℕ) → object ≡ Some x → parent_of p x ≡ None) → Each (IsAbove p object c) (supers p c)
supers_above p object c links named top =
    supers_all (IsAbove p object c) p c (above_closed p object c links named top) (inl (record { steps = 0; is = refl }))

pub below_above : (p : Program) (object : Option ℕ) (a b : ℕ) → Links p → ((x : ℕ) → class_named p object_class ≡ Some x → object ≡ Some x)
    → ((x : ℕ) → object ≡ Some x → parent_of p x ≡ None) → is_below p a b ≡ true → IsAbove p object a b
below_above p object a b links named top e = among_each (IsAbove p object a) (supers p a) b (supers_above p object a links named top) e
