-- The classes of which the opening heap has objects are there: four built-in ones, and String[], which the descriptor of main names.
use Rattle.std.proofs.Common.{◌≡◌, ℕ, zero, suc, ◌+◌, ◌-◌, ◌<◌, ◌≤◌, Bool, true, false, cond, List, [], ◌∷◌, ◌++◌, drop, length, get_or, max, Option, Some, None, refl, ap, sym, subst, ◌∙◌, arith}
use Rattle.std.specs.Prelude.{codes, is_none, is_some, map, position, replicate, slice_get, slice_set, unwrap_or, ◌==◌, ◌&&◌, ◌||◌, if◌then◌else◌}
use Rattle.std.specs.Option.{option_map, option_map_or, option_or, option_to_list}
use Rattle.std.specs.List.{flat_map, fold, enumerate_from}
use Rattle.std.proofs.lemmas.Bool.{eqb-true}
use Rattle.std.proofs.lemmas.Bool.Decides.{nat_tests}
use Rattle.std.proofs.lemmas.List.{append-nil, get_or-set_other, get_or-set_same, get_or_append_left, length-append, length-replicate, length-set}
use Rattle.std.proofs.lemmas.Option.{slice_get_within, slice_get-get_or}
use Rattle.items.specs.Options.{◌>>=◌}
use Rattle.class_model.specs.declared.class_file.ClassFile.{ClassFile}
use Rattle.class_model.specs.declared.member.Member.{Member}
use Rattle.class_grammar.specs.Names.{is_like_method}
use Rattle.class_grammar.specs.Pool.{text_at}
use Rattle.class_grammar.specs.Text.{same_text}
use Rattle.descriptors.specs.declared.kind.ElementType.{ElementType}
use Rattle.descriptors.specs.declared.kind.ElementType.TheVariants as elements
use Rattle.descriptors.specs.declared.kind.Kind.{Kind}
use Rattle.descriptors.specs.Descriptors.{open_parenthesis}
use Rattle.descriptors.specs.declared.fronts.Front.TheVariants.{Brackets}
use Rattle.descriptors.specs.declared.kind.Signature.{Signature}
use Rattle.descriptors.specs.Meaning.{arguments_in, kind_of, result_in, result_of, signature_of}
use Rattle.descriptors.specs.States.{State, first_bad, is_method, Args}
use Rattle.stack_maps.specs.declared.types.Base.{Base}
use Rattle.stack_maps.specs.declared.types.Base.TheVariants as bases
use Rattle.lib_table.specs.Build as build
use Rattle.lib_table.specs.Declarations.{Class}
use Rattle.lib_table.specs.Pool.{placed, class, string, name_and_type, field, method, interface_method}
use Rattle.lib_table.specs.System as system
use Rattle.lib_table.specs.Texts as texts
use Rattle.lib_table.specs.Threads as threads
use Rattle.lib_table.specs.Throwables as throwables
use Rattle.lib_table.specs.Words.{public, throwable}
use Rattle.link_rules.specs.Faults.{Links}
use Rattle.link_rules.specs.Program.{Program, class_named, own_name}
use Rattle.link_rules.specs.Selection.{key_in}
use Rattle.link_resolution.proofs.Positions.{position_append, position_cons}
use Rattle.link_model.specs.declared.members.MethodInfo.{MethodInfo}
use Rattle.link_model.specs.declared.sites.ArrayType.{ArrayType}
use Rattle.link_model.specs.LookUps.{array_class, same_type}
use Rattle.link_model.specs.MainMethod.{is_string, takes_strings}
use Rattle.link_model.specs.Numbering.{Numbering, arrays_of, arrays_of_base, base_at, deeper, element_index, first_numbers, kinds_in_code, kinds_in_constant, kinds_in_descriptor, kinds_in_file, kinds_in_member, kinds_in_signature, kinds_of, number_of, numbering_of, with_class, with_element, with_kind}
use Rattle.link_model.specs.Worlds.{world_of}
use Rattle.verify_types.proofs.ListLaws.{and_true}
use Rattle.ref_model.specs.Opening.{words_class}
use Rattle.step_soundness.specs.OpeningLaws.{IsMain}
use Rattle.step_soundness.proofs.MethodNumbers.{left_at, member_of, none_more, right_at, shifted}
use Rattle.step_soundness.proofs.Selections.{text_same}
use Rattle.link_soundness.specs.Library.{HasLibrary}
use Rattle.link_soundness.specs.OpeningClasses.{HasName, HasOpeningClasses}
use Rattle.link_soundness.proofs.BuiltIns.{IsDeclared, built_in, flat_at, number_known}
use Rattle.link_soundness.proofs.Numbers.{position_front}
use Rattle.link_soundness.proofs.Statics.{state_declared, state_name}

-- ---- a class that is there stays under its number, and its array types have as many dimensions as before, or more

abbrev is_named : List ℕ → List ℕ → Bool
is_named name other = same_text other name

record IsWide (name : List ℕ) (c : ℕ) (n : Numbering) : Type 0 where
  pub named : number_of n.names name ≡ Some c
  pub long : 8 + c < length n.depths

depth_of : ℕ → Numbering → ℕ
depth_of c n = get_or n.depths (8 + c) 0

pushed : (name : List ℕ) (c : ℕ) (n : Numbering) (other : List ℕ) (more : List ℕ) → IsWide name c n
    → IsWide name c (let m : Numbering = record { names = n.names ++ other ∷ []; depths = n.depths ++ more } in m)
pushed name c n other more wide =
    let size : length (n.depths ++ more) ≡ length n.depths + length more = length-append n.depths more in
    record {
      named = position_append (is_named name) n.names (other ∷ [])
          ∙ ap (λ o. option_or o (option_map (λ k. length n.names + k) (position (is_named name) (other ∷ [])))) wide.named;
      long = longer (8 + c) (length n.depths) (length more) (length (n.depths ++ more)) wide.long size;
    }
  where
    longer : (a b d e : ℕ) → a < b → e ≡ b + d → a < e
    longer a b d e h s = omega arith

class_kept : (name : List ℕ) (c : ℕ) (n : Numbering) (other : List ℕ) → IsWide name c n → IsWide name c (with_class n other)
class_kept name c n other wide = by (is_some (number_of n.names other))
  where
    by : (b : Bool) → IsWide name c (if b then n else (let m : Numbering = record { names = n.names ++ other ∷ []; depths = n.depths ++ 0 ∷ [] } in m))
    by true = wide
    by false = pushed name c n other (0 ∷ []) wide

class_depth : (name : List ℕ) (c : ℕ) (n : Numbering) (other : List ℕ) → IsWide name c n → depth_of c (with_class n other) ≡ depth_of c n
unfolding depth_of
class_depth name c n other wide = by (is_some (number_of n.names other))
  where
    by : (b : Bool) → get_or (if b then n else (let m : Numbering = record { names = n.names ++ other ∷ []; depths = n.depths ++ 0 ∷ [] } in m)).depths (8 + c) 0
        ≡ get_or n.depths (8 + c) 0
    by true = refl
    by false = get_or_append_left n.depths (0 ∷ []) 0 (8 + c) wide.long

element_kept : (name : List ℕ) (c : ℕ) (n : Numbering) (element : ElementType) → IsWide name c n → IsWide name c (with_element n element)
element_kept name c n (elements.Class other) wide = class_kept name c n other wide
element_kept name c n elements.Byte wide = wide
element_kept name c n elements.Char wide = wide
element_kept name c n elements.Double wide = wide
element_kept name c n elements.Float wide = wide
element_kept name c n elements.Int wide = wide
element_kept name c n elements.Long wide = wide
element_kept name c n elements.Short wide = wide
element_kept name c n elements.Bool wide = wide

element_depth : (name : List ℕ) (c : ℕ) (n : Numbering) (element : ElementType) → IsWide name c n → depth_of c (with_element n element) ≡ depth_of c n
element_depth name c n (elements.Class other) wide = class_depth name c n other wide
element_depth name c n elements.Byte wide = refl
element_depth name c n elements.Char wide = refl
element_depth name c n elements.Double wide = refl
element_depth name c n elements.Float wide = refl
element_depth name c n elements.Int wide = refl
element_depth name c n elements.Long wide = refl
element_depth name c n elements.Short wide = refl
element_depth name c n elements.Bool wide = refl

deeper_kept : (name : List ℕ) (c : ℕ) (n : Numbering) (element : ElementType) (d : ℕ) → IsWide name c n → IsWide name c (deeper n element d)
deeper_kept name c n element d wide = record {
  named = wide.named;
  long = subst (λ k. 8 + c < k) (sym (length-set n.depths (element_index n.names element) (max (get_or n.depths (element_index n.names element) 0) d))) wide.long;
}

deeper_depth : (name : List ℕ) (c : ℕ) (n : Numbering) (element : ElementType) (d : ℕ) → IsWide name c n → depth_of c n ≤ depth_of c (deeper n element d)
unfolding depth_of
deeper_depth name c n element d wide = by (8 + c == at) refl
  where
    at : ℕ
    at = element_index n.names element

    set : ℕ
    set = max (get_or n.depths at 0) d

    by : (b : Bool) → (8 + c == at) ≡ b → get_or n.depths (8 + c) 0 ≤ get_or (slice_set n.depths at set) (8 + c) 0
    by true e =
        let same : 8 + c ≡ at = eqb-true (8 + c) at e in
        let read : get_or (slice_set n.depths at set) (8 + c) 0 ≡ set =
        ap (λ i. get_or (slice_set n.depths at set) i 0) same ∙ get_or-set_same n.depths at set 0 (subst (λ i. i < length n.depths) same wide.long) in
        let old : get_or n.depths (8 + c) 0 ≡ get_or n.depths at 0 = ap (λ i. get_or n.depths i 0) same in
        grown (get_or n.depths (8 + c) 0) (get_or n.depths at 0) d (get_or (slice_set n.depths at set) (8 + c) 0) old read
      where
        grown : (a b d x : ℕ) → a ≡ b → x ≡ max b d → a ≤ x
        grown a b d x e f = omega arith
    by false e =
        let other : get_or (slice_set n.depths at set) (8 + c) 0 ≡ get_or n.depths (8 + c) 0 =
        get_or-set_other n.depths at (8 + c) set 0 (λ same. differs same e) in
        subst (λ x. get_or n.depths (8 + c) 0 ≤ x) (sym other) (at_most (get_or n.depths (8 + c) 0))
      where
        differs : 8 + c ≡ at → (8 + c == at) ≡ false → ⊥
        differs same e = let is : (8 + c == at) ≡ true = grind (arith, nat_tests) in absurd cc

        at_most : (k : ℕ) → k ≤ k
        at_most k = omega arith

kind_kept : (name : List ℕ) (c : ℕ) (n : Numbering) (kind : Kind) → IsWide name c n → IsWide name c (with_kind n kind)
kind_kept name c n kind wide = deeper_kept name c (with_element n kind.element) kind.element kind.dimensions (element_kept name c n kind.element wide)

kind_depth : (name : List ℕ) (c : ℕ) (n : Numbering) (kind : Kind) → IsWide name c n → depth_of c n ≤ depth_of c (with_kind n kind)
kind_depth name c n kind wide =
    subst (λ k. k ≤ depth_of c (with_kind n kind)) (element_depth name c n kind.element wide)
    (deeper_depth name c (with_element n kind.element) kind.element kind.dimensions (element_kept name c n kind.element wide))

at_least : (a b d : ℕ) → a ≤ b → b ≤ d → a ≤ d
at_least a b d h g = omega arith

kinds_depth : (name : List ℕ) (c d : ℕ) (n : Numbering) (kinds : List Kind) → IsWide name c n → d ≤ depth_of c n → d ≤ depth_of c (fold with_kind n kinds)
kinds_depth name c d n [] wide least = least
kinds_depth name c d n (kind ∷ kinds) wide least =
    kinds_depth name c d (with_kind n kind) kinds (kind_kept name c n kind wide)
    (at_least d (depth_of c n) (depth_of c (with_kind n kind)) least (kind_depth name c n kind wide))

-- ---- an array of the class gives it a dimension

own_depth : (c : ℕ) (n : Numbering) (name : List ℕ) (d : ℕ) → IsWide name c n → d ≤ depth_of c (deeper n (elements.Class name) d)
unfolding depth_of
own_depth c n name d wide =
    let at : element_index n.names (elements.Class name) ≡ 8 + c = ap (λ o. 8 + unwrap_or o (length n.names)) wide.named in
    let set : ℕ = max (get_or n.depths (element_index n.names (elements.Class name)) 0) d in
    let read : get_or (slice_set n.depths (element_index n.names (elements.Class name)) set) (8 + c) 0 ≡ set =
    ap (λ i. get_or (slice_set n.depths i set) (8 + c) 0) at ∙ get_or-set_same n.depths (8 + c) set 0 wide.long in
    grown (get_or n.depths (element_index n.names (elements.Class name)) 0) d
    (get_or (slice_set n.depths (element_index n.names (elements.Class name)) set) (8 + c) 0) read
  where
    grown : (b d x : ℕ) → x ≡ max b d → d ≤ x
    grown b d x e = omega arith

string_depth : (c : ℕ) (n : Numbering) (kind : Kind) → IsWide (codes "java/lang/String") c n → (kind.dimensions == 1 && is_string kind.element) ≡ true
    → 1 ≤ depth_of c (with_kind n kind)
string_depth c n kind wide e = by kind.element (and_true (kind.dimensions == 1) (is_string kind.element) e).1
  where
    one : kind.dimensions ≡ 1
    one = eqb-true kind.dimensions 1 (and_true (kind.dimensions == 1) (is_string kind.element) e).0

    by : (element : ElementType) → is_string element ≡ true → 1 ≤ depth_of c (deeper (with_element n element) element kind.dimensions)
    by (elements.Class name) is =
        let same : codes "java/lang/String" ≡ name = sym (text_same name (codes "java/lang/String") is) in
        let here : IsWide name c (with_class n name) = class_kept name c n name (subst (λ x. IsWide x c n) same wide) in
        subst (λ k. k ≤ depth_of c (deeper (with_class n name) (elements.Class name) kind.dimensions)) one
        (own_depth c (with_class n name) name kind.dimensions here)
    by elements.Byte is = absurd cc
    by elements.Char is = absurd cc
    by elements.Double is = absurd cc
    by elements.Float is = absurd cc
    by elements.Int is = absurd cc
    by elements.Long is = absurd cc
    by elements.Short is = absurd cc
    by elements.Bool is = absurd cc

strings_depth : (c : ℕ) (n : Numbering) (kinds : List Kind) (i : ℕ) (kind : Kind) → IsWide (codes "java/lang/String") c n → slice_get kinds i ≡ Some kind
    → (kind.dimensions == 1 && is_string kind.element) ≡ true → 1 ≤ depth_of c (fold with_kind n kinds)
strings_depth c n [] i kind wide at is = absurd cc
strings_depth c n (k ∷ kinds) zero kind wide at is =
    let same : k ≡ kind = cc in
    kinds_depth (codes "java/lang/String") c 1 (with_kind n k) kinds (kind_kept (codes "java/lang/String") c n k wide)
    (string_depth c n k wide (subst (λ (x : Kind). (x.dimensions == 1 && is_string x.element) ≡ true) (sym same) is))
strings_depth c n (k ∷ kinds) (suc i) kind wide at is =
    strings_depth c (with_kind n k) kinds i kind (kind_kept (codes "java/lang/String") c n k wide) at is

kinds_kept : (name : List ℕ) (c : ℕ) (n : Numbering) (kinds : List Kind) → IsWide name c n → IsWide name c (fold with_kind n kinds)
kinds_kept name c n [] wide = wide
kinds_kept name c n (kind ∷ kinds) wide = kinds_kept name c (with_kind n kind) kinds (kind_kept name c n kind wide)

first_wide : (p : Program) (c : ℕ) (name : List ℕ) (f : ClassFile) → class_named p name ≡ Some c → slice_get p.classes c ≡ Some f → IsWide name c (first_numbers p)
first_wide p c name f named file =
    let low : c < length p.classes = slice_get_within p.classes c f file in
    let size : length (replicate (8 + length p.classes) 0) ≡ 8 + length p.classes = simp length-replicate in
    record {
      named = ap (position (is_named name)) (sym (append-nil (map own_name p.classes))) ∙ position_front own_name (is_named name) p.classes [] c named;
      long = inside c (length p.classes) (length (replicate (8 + length p.classes) 0)) low size;
    }
  where
    inside : (c n k : ℕ) → c < n → k ≡ 8 + n → 8 + c < k
    inside c n k low size = omega arith

-- ---- the array class by its type

some_array : (base : Base) (d : ℕ) → 1 ≤ d → slice_get (arrays_of_base base d) 0 ≡ Some (let t : ArrayType = record { dimensions = 1; base = base } in t)
some_array base zero low = absurd (omega arith)
some_array base (suc zero) low = refl
some_array base (suc (suc d)) low =
    left_at (arrays_of_base base (suc d)) _ 0 (record { dimensions = 1; base = base }) (some_array base (suc d) (omega arith))

numbered_item : {A : Type 0} (k n : ℕ) (xs : List A) (x : A) → slice_get xs n ≡ Some x → slice_get (enumerate_from k xs) n ≡ Some (k + n, x)
numbered_item k n [] x e = absurd cc
numbered_item {A} k zero (y ∷ xs) x e =
    let same : y ≡ x = cc in ap (λ (z : A). Some (k, z)) same ∙ ap (λ i. Some (i, x)) (none_more k)
numbered_item k (suc n) (y ∷ xs) x e = numbered_item (k + 1) n xs x e ∙ ap (λ i. Some (i, x)) (shifted k n)

by_index : (a b c d e f g h : Bool) (class : ℕ) → a ≡ false → b ≡ false → c ≡ false → d ≡ false → e ≡ false → f ≡ false → g ≡ false → h ≡ false
    → (if a then bases.Bool else if b then bases.Byte else if c then bases.Char else if d then bases.Short else if e then bases.Int
    else if f then bases.Long else if g then bases.Float else if h then bases.Double else bases.Class class) ≡ bases.Class class
by_index a b c d e f g h class p q r s t u v w = rw (p, q, r, s, t, u, v, w) refl

base_is : (c : ℕ) → base_at (8 + c) ≡ bases.Class c
base_is c =
    by_index (8 + c == 0) (8 + c == 1) (8 + c == 2) (8 + c == 3) (8 + c == 4) (8 + c == 5) (8 + c == 6) (8 + c == 7) (8 + c - 8)
    (apart 0 (omega arith)) (apart 1 (omega arith)) (apart 2 (omega arith)) (apart 3 (omega arith)) (apart 4 (omega arith)) (apart 5 (omega arith))
    (apart 6 (omega arith)) (apart 7 (omega arith))
    ∙ ap bases.Class (back c)
  where
    apart : (k : ℕ) → k < 8 → (8 + c == k) ≡ false
    apart k low = grind (arith, nat_tests)

    back : (c : ℕ) → 8 + c - 8 ≡ c
    back c = omega arith

position_there : {A : Type 0} (test : A → Bool) (xs : List A) (k : ℕ) (x : A) → slice_get xs k ≡ Some x → test x ≡ true → (n : ℕ) × (position test xs ≡ Some n)
position_there test [] k x at is = absurd cc
position_there {A} test (y ∷ xs) k x at is = by (test y) refl k at (λ n there. position_there test xs n x there is)
  where
    moved : (b : Bool) → test y ≡ b → (n : ℕ) × (cond b (Some 0) (option_map suc (position test xs)) ≡ Some n) → (n : ℕ) × (position test (y ∷ xs) ≡ Some n)
    moved b e h = (h.0, position_cons test y xs ∙ ap (λ t. cond t (Some 0) (option_map suc (position test xs))) e ∙ h.1)

    not_first : y ≡ x → test y ≡ false → ⊥
    not_first same e = let no : test y ≡ true = ap test same ∙ is in absurd cc

    by : (b : Bool) → test y ≡ b → (n : ℕ) → slice_get (y ∷ xs) n ≡ Some x → ((m : ℕ) → slice_get xs m ≡ Some x → (j : ℕ) × (position test xs ≡ Some j))
        → (m : ℕ) × (position test (y ∷ xs) ≡ Some m)
    by true e n at more = moved true e (0, refl)
    by false e zero at more = let same : y ≡ x = cc in absurd (not_first same e)
    by false e (suc n) at more = let h = more n at in moved false e (suc h.0, ap (option_map suc) h.1)

array_there : (p : Program) (c : ℕ) → IsWide (codes "java/lang/String") c (numbering_of p) → 1 ≤ depth_of c (numbering_of p)
    → (n : ℕ) × (array_class (world_of p) (let t : ArrayType = record { dimensions = 1; base = bases.Class c } in t) ≡ Some n)
unfolding depth_of
array_there p c wide deep =
    let depths = (numbering_of p).depths in
    let at : slice_get depths (8 + c) ≡ Some (get_or depths (8 + c) 0) = slice_get-get_or depths (8 + c) 0 wide.long in
    let item = numbered_item 0 (8 + c) depths (get_or depths (8 + c) 0) at in
    let found = flat_at (λ x. arrays_of_base (base_at x.0) x.1) (enumerate_from 0 depths) (8 + c) 0 (0 + (8 + c), get_or depths (8 + c) 0) wanted item
    (some_array (base_at (0 + (8 + c))) (get_or depths (8 + c) 0) deep ∙ ap (λ b. Some (of_base b)) (ap base_at (zero_more (8 + c)) ∙ base_is c)) in
    let place = position_there (λ other. same_type other wanted) (arrays_of depths) found.0 wanted found.1 (itself c) in
    (length (numbering_of p).names + place.0, ap (option_map (λ k. length (numbering_of p).names + k)) place.1)
  where
    of_base : Base → ArrayType
    of_base b = record { dimensions = 1; base = b }

    wanted : ArrayType
    wanted = record { dimensions = 1; base = bases.Class c }

    zero_more : (k : ℕ) → 0 + k ≡ k
    zero_more k = omega arith

    itself : (n : ℕ) → (n == n) ≡ true
    itself n = search (arith)

-- ---- main's descriptor names String[]

in_left : {A : Type 0} (xs ys : List A) (x : A) → ((n : ℕ) × (slice_get xs n ≡ Some x)) → (n : ℕ) × (slice_get (xs ++ ys) n ≡ Some x)
in_left xs ys x h = (h.0, left_at xs ys h.0 x h.1)

in_right : {A : Type 0} (xs ys : List A) (x : A) → ((n : ℕ) × (slice_get ys n ≡ Some x)) → (n : ℕ) × (slice_get (xs ++ ys) n ≡ Some x)
in_right xs ys x h = (length xs + h.0, right_at xs ys h.0 ∙ h.1)

after_first : State → List ℕ → Option ℕ
after_first more us = first_bad more (0 + 1) us

method_like : (text : List ℕ) → is_method text ≡ true → is_like_method text ≡ true
unfolding after_first
method_like [] e = absurd cc
method_like (u ∷ us) e = by (u == open_parenthesis) e
  where
    first : Option State → Option ℕ
    first o = elim o [ None ↦ Some 0 | Some more ↦ after_first more us ]

    by : (b : Bool) → is_none (first (if b then Some (Args 0 (Brackets 0)) else None)) ≡ true → (b || false) ≡ true
    by true e = refl
    by false e = absurd cc

-- the first argument of a method that takes an array of Strings
record TakesStrings (text : List ℕ) : Type 0 where
  pub kind : Kind
  pub is : (kind.dimensions == 1 && is_string kind.element) ≡ true
  pub at : slice_get (kinds_in_descriptor text) 0 ≡ Some kind

no_arguments : (text : List ℕ) (b : Bool) → b ≡ false
    → takes_strings (if b then (let s : Signature = record { args = arguments_in (length text) (drop 1 text); result = result_of (result_in (length text) (drop 1 text)) } in s)
    else (let s : Signature = record { args = []; result = None } in s)).args ≡ true → ⊥
no_arguments text true e takes = absurd cc
no_arguments text false e takes = absurd cc

strings_named : (text : List ℕ) → takes_strings (signature_of text).args ≡ true → TakesStrings text
strings_named text takes = by (is_method text) refl (like (is_method text) refl takes)
  where
    like : (b : Bool) → is_method text ≡ b → takes_strings (signature_of text).args ≡ true → is_method text ≡ true
    like true e takes = e
    like false e takes = absurd (no_arguments text (is_method text) e takes)

    of_args : (args : List Kind) (rest : List Kind) → takes_strings args ≡ true → (kind : Kind) × ((kind.dimensions == 1 && is_string kind.element) ≡ true) × (slice_get (args ++ rest) 0 ≡ Some kind)
    of_args [] rest e = absurd cc
    of_args (kind ∷ []) rest e = (kind, e, refl)
    of_args (kind ∷ other ∷ kinds) rest e = absurd cc

    by : (b : Bool) → is_method text ≡ b → is_method text ≡ true → TakesStrings text
    by b same is =
        let h = of_args (signature_of text).args (option_to_list (signature_of text).result) takes in
        record {
          kind = h.0;
          is = h.1;
          at = ap (λ (c : Bool). slice_get (if c then kinds_in_signature (signature_of text) else kind_of text ∷ []) 0) (method_like text is) ∙ h.2;
        }

main_names : (p : Program) (c i : ℕ) (f : ClassFile) (m : Member) → slice_get p.classes c ≡ Some f → slice_get f.methods i ≡ Some m
    → takes_strings (signature_of (key_in f.pool m).descriptor).args ≡ true
    → (kind : Kind) × ((kind.dimensions == 1 && is_string kind.element) ≡ true) × ((n : ℕ) × (slice_get (kinds_of p) n ≡ Some kind))
main_names p c i f m file member takes = by (text_at f.pool m.descriptor) refl takes
  where
    all : (kind : Kind) → slice_get (kinds_in_member f.pool m) 0 ≡ Some kind → (n : ℕ) × (slice_get (kinds_of p) n ≡ Some kind)
    all kind at =
        let own = flat_at (kinds_in_member f.pool) f.methods i 0 m kind member at in
        let front = flat_map (kinds_in_constant f.pool) f.pool ++ flat_map (kinds_in_member f.pool) f.fields in
        let in_file = in_left (front ++ flat_map (kinds_in_member f.pool) f.methods) (flat_map (kinds_in_code f.pool) f.methods) kind
        (in_right front (flat_map (kinds_in_member f.pool) f.methods) kind own) in
        flat_at kinds_in_file p.classes c in_file.0 f kind file in_file.1

    by : (o : Option (List ℕ)) → text_at f.pool m.descriptor ≡ o → takes_strings (signature_of (unwrap_or o [])).args ≡ true
        → (kind : Kind) × ((kind.dimensions == 1 && is_string kind.element) ≡ true) × ((n : ℕ) × (slice_get (kinds_of p) n ≡ Some kind))
    by None is takes = absurd cc
    by (Some text) is takes =
        let h = strings_named text takes in
        (h.kind, h.is, all h.kind (ap (λ o. slice_get (option_map_or kinds_in_descriptor o []) 0) is ∙ h.at))

-- ---- the classes

error_class : Class
error_class = throwable public "java/lang/OutOfMemoryError" "java/lang/VirtualMachineError"

error_declared : IsDeclared error_class
unfolding throwables.classes error_class
error_declared = record { group = throwables.classes; group_index = 5; group_is = refl; index = 25; class_is = refl }

error_name : own_name (build.class_file error_class) ≡ codes "java/lang/OutOfMemoryError"
unfolding placed class string name_and_type field method interface_method build.class_file build.field build.method build.code_attribute build.code build.stack_map build.with_instruction error_class
error_name = refl

stream_declared : IsDeclared system.print_stream
unfolding system.classes
stream_declared = record { group = system.classes; group_index = 2; group_is = refl; index = 1; class_is = refl }

stream_name : own_name (build.class_file system.print_stream) ≡ codes "java/io/PrintStream"
unfolding placed class string name_and_type field method interface_method build.class_file build.field build.method build.code_attribute build.code build.stack_map build.with_instruction
stream_name = refl

thread_declared : IsDeclared threads.thread
unfolding threads.classes
thread_declared = record { group = threads.classes; group_index = 3; group_is = refl; index = 1; class_is = refl }

thread_name : own_name (build.class_file threads.thread) ≡ codes "java/lang/Thread"
unfolding placed class string name_and_type field method interface_method build.class_file build.field build.method build.code_attribute build.code build.stack_map build.with_instruction
thread_name = refl

string_declared : IsDeclared texts.string
unfolding texts.classes
string_declared = record { group = texts.classes; group_index = 1; group_is = refl; index = 0; class_is = refl }

string_name : own_name (build.class_file texts.string) ≡ codes "java/lang/String"
unfolding placed class string name_and_type field method interface_method build.class_file build.field build.method build.code_attribute build.code build.stack_map build.with_instruction
string_name = refl

has_name : (p : Program) (c : Class) (name : List ℕ) → Links p → HasLibrary p → IsDeclared c → own_name (build.class_file c) ≡ name → HasName (world_of p) name
has_name p c name links has declared own =
    let b = built_in p c links has declared in
    (b.number, number_known p c b name own)

words_there : (p : Program) (main : ℕ) → Links p → HasLibrary p → IsMain (world_of p) main → (n : ℕ) × (words_class (world_of p) ≡ Some n)
words_there p main links has is =
    let b = built_in p texts.string links has string_declared in
    let h = member_of 0 p.classes main is.method is.at in
    let named : class_named p (codes "java/lang/String") ≡ Some b.number = ap (class_named p) (sym string_name) ∙ b.named in
    let first = first_wide p b.number (codes "java/lang/String") (build.class_file texts.string) named b.file_is in
    let takes : takes_strings (signature_of (key_in h.file.pool h.member).descriptor).args ≡ true =
    ap (λ (i : MethodInfo). takes_strings i.signature.args) h.is ∙ is.takes in
    let kind = main_names p h.class h.index h.file h.member h.file_is h.member_is takes in
    let deep = strings_depth b.number (first_numbers p) (kinds_of p) kind.2.0 kind.0 first kind.2.1 kind.1 in
    let array = array_there p b.number (kinds_kept (codes "java/lang/String") b.number (first_numbers p) (kinds_of p) first) deep in (
      array.0,
      ap (λ (o : Option ℕ). o >>= λ class. array_class (world_of p) (record { dimensions = 1; base = bases.Class class }))
          (number_known p texts.string b (codes "java/lang/String") string_name) ∙ array.1,
    )

pub linked_classes_open : (p : Program) (main : ℕ) → Links p → HasLibrary p → IsMain (world_of p) main → HasOpeningClasses (world_of p)
linked_classes_open p main links has is = record {
  error = has_name p error_class (codes "java/lang/OutOfMemoryError") links has error_declared error_name;
  stream = has_name p system.print_stream (codes "java/io/PrintStream") links has stream_declared stream_name;
  thread = has_name p threads.thread (codes "java/lang/Thread") links has thread_declared thread_name;
  state = has_name p threads.state (codes "java/lang/Thread$State") links has state_declared state_name;
  words = words_there p main links has is;
}
