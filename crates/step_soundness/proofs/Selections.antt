-- What selection finds has the name and the descriptor of the method that was named.
use Rattle.std.proofs.Common.{◌≡◌, ◌⊎◌, inl, inr, ℕ, zero, suc, ◌<◌, Bool, true, false, nat_eq, List, [], ◌∷◌, get_or, length, cond, Option, Some, None, refl, ap, sym, subst, ◌∙◌, arith}
use Rattle.std.specs.Prelude.{filter, filter_map, option_and_then, position, slice_get, unwrap_or, if◌then◌else◌}
use Rattle.std.specs.Option.{option_map, option_map_or, option_or}
use Rattle.std.specs.List.{cons_option}
use Rattle.std.proofs.lemmas.Bool.{eqb-true}
use Rattle.std.proofs.lemmas.List.Quantifiers.{position-Some}
use Rattle.items.specs.First.{Each, first_in}
use Rattle.class_model.specs.declared.class_file.ClassFile.{ClassFile}
use Rattle.class_model.specs.declared.constant.Const.{Const}
use Rattle.class_model.specs.declared.member.Member.{Member}
use Rattle.class_grammar.specs.Pool.{text_at, is_text, has_text}
use Rattle.class_grammar.specs.Text.{same_text}
use Rattle.link_rules.specs.declared.choice.Choice.{Choice}
use Rattle.link_rules.specs.declared.choice.Choice.TheVariants.{Method, Abstract}
use Rattle.link_rules.specs.declared.place.MemberPlace.{MemberPlace}
use Rattle.link_rules.specs.Program.{Program, is_interface}
use Rattle.link_rules.specs.Hierarchy.{supers, superclasses}
use Rattle.link_rules.specs.Members.{Key, has_key, index_of, place, declared_method, has_method, is_open, is_private, is_abstract_method}
use Rattle.link_rules.specs.Resolution.{if_open, open_method, inherited, is_specific_body, most_specific_bodies}
use Rattle.link_rules.specs.Selection.{key_in, override, by_body, sole_body, select_by_key, select_in, select}
use Rattle.verify_types.proofs.ListLaws.{and_true}

-- ---- texts and keys

pub text_same : (a b : List ℕ) → same_text a b ≡ true → a ≡ b
text_same [] [] e = refl
text_same [] (v ∷ vs) e = absurd cc
text_same (u ∷ us) [] e = absurd cc
text_same (u ∷ us) (v ∷ vs) e =
    let both = and_true (nat_eq u v) (same_text us vs) e in
    ap (λ n. n ∷ us) (eqb-true u v both.0) ∙ ap (λ ws. v ∷ ws) (text_same us vs both.1)

text_is : (pool : List Const) (index : ℕ) (text : List ℕ) → has_text (is_text text) pool index ≡ true → unwrap_or (text_at pool index) [] ≡ text
text_is pool index text e = by (text_at pool index) e
  where
    by : (o : Option (List ℕ)) → option_map_or (is_text text) o false ≡ true → unwrap_or o [] ≡ text
    by None e = absurd cc
    by (Some units) e = text_same units text e

-- the place is that of a method of this name and descriptor
pub record HasKey (p : Program) (key : Key) (at : MemberPlace) : Type 0 where
  pub file : ClassFile
  pub file_is : slice_get p.classes at.class ≡ Some file
  pub member : Member
  pub member_is : slice_get file.methods at.index ≡ Some member
  pub name : (key_in file.pool member).name ≡ key.name
  pub descriptor : (key_in file.pool member).descriptor ≡ key.descriptor

-- ---- lists

pub record Found {A : Type 0} (test : A → Bool) (xs : List A) (n : ℕ) : Type 0 where
  pub item : A
  pub at : slice_get xs n ≡ Some item
  pub passes : test item ≡ true

get_or_is : {A : Type 0} (xs : List A) (n : ℕ) (d : A) → n < length xs → slice_get xs n ≡ Some (get_or xs n d)
get_or_is [] n d low = absurd (omega arith)
get_or_is (x ∷ xs) zero d low = refl
get_or_is (x ∷ xs) (suc n) d low = get_or_is xs n d (omega arith)

pub position_found : {A : Type 0} (test : A → Bool) (xs : List A) (n : ℕ) → position test xs ≡ Some n → Found test xs n
position_found test [] n e = absurd cc
position_found test (x ∷ xs) n e =
    let h = position-Some test (x ∷ xs) n x e in
    record { item = get_or (x ∷ xs) n x; at = get_or_is (x ∷ xs) n x h.0; passes = h.1 }

pub first_found : {A B : Type 0} (P : B → Type 0) (f : A → Option B) → ((x : A) (y : B) → f x ≡ Some y → P y) → (xs : List A) (y : B)
    → first_in f xs ≡ Some y → P y
first_found P f each [] y e = absurd cc
first_found {A} {B} P f each (x ∷ xs) y e = by (f x) refl e (first_found P f each xs y)
  where
    by : (o : Option B) → f x ≡ o → option_or o (first_in f xs) ≡ Some y → (first_in f xs ≡ Some y → P y) → P y
    by None is e rest = rest e
    by (Some z) is e rest = each x y (is ∙ e)

each_filtered : {A : Type 0} (P : A → Type 0) (test : A → Bool) (xs : List A) → Each P xs → Each P (filter test xs)
each_filtered P test [] each = tt
each_filtered {A} P test (x ∷ xs) each = by (test x) (each_filtered P test xs each.1)
  where
    by : (b : Bool) → Each P (filter test xs) → Each P (cond b (x ∷ filter test xs) (filter test xs))
    by true rest = (each.0, rest)
    by false rest = rest

pub each_found : {A B : Type 0} (P : B → Type 0) (f : A → Option B) → ((x : A) (y : B) → f x ≡ Some y → P y) → (xs : List A)
    → Each P (filter_map f xs)
each_found P f each [] = tt
each_found {A} {B} P f each (x ∷ xs) = by (f x) refl (each_found P f each xs)
  where
    by : (o : Option B) → f x ≡ o → Each P (filter_map f xs) → Each P (cons_option o (filter_map f xs))
    by None is rest = rest
    by (Some y) is rest = (each x y is, rest)

-- ---- methods by key

same_place : (a b : MemberPlace) → ◌≡◌ {A = Option MemberPlace} (Some a) (Some b) → a ≡ b
same_place a b e = cc

pub declared_has : (p : Program) (key : Key) (c : ℕ) (at : MemberPlace) → declared_method p key c ≡ Some at → HasKey p key at
declared_has p key c at e = by (slice_get p.classes c) refl e
  where
    found : (f : ClassFile) → slice_get p.classes c ≡ Some f → (o : Option ℕ) → index_of f.pool key f.methods ≡ o
        → option_map (place c) o ≡ Some at → HasKey p key at
    found f file None index e = absurd cc
    found f file (Some i) index e =
        let h = position_found (has_key f.pool key) f.methods i index in
        let both = and_true (has_text (is_text key.name) f.pool h.item.name) (has_text (is_text key.descriptor) f.pool h.item.descriptor) h.passes in
        subst (HasKey p key) (same_place (place c i) at e) (record {
          file = f;
          file_is = file;
          member = h.item;
          member_is = h.at;
          name = text_is f.pool h.item.name key.name both.0;
          descriptor = text_is f.pool h.item.descriptor key.descriptor both.1;
        })

    by : (o : Option ClassFile) → slice_get p.classes c ≡ o
        → option_map_or (λ (f : ClassFile). option_map (place c) (index_of f.pool key f.methods)) o None ≡ Some at → HasKey p key at
    by None file e = absurd cc
    by (Some f) file e = found f file (index_of f.pool key f.methods) refl e

-- where it is neither private nor static
open_has : (p : Program) (key : Key) (o : Option MemberPlace) (at : MemberPlace) → ((x : MemberPlace) → o ≡ Some x → HasKey p key x)
    → option_and_then (if_open p) o ≡ Some at → HasKey p key at
open_has p key None at has e = absurd cc
open_has p key (Some x) at has e = by (has_method is_open p x) e
  where
    by : (b : Bool) → (if b then Some x else None) ≡ Some at → HasKey p key at
    by true e = subst (HasKey p key) (same_place x at e) (has x refl)
    by false e = absurd cc

override_has : (p : Program) (key : Key) (c : ℕ) (at : MemberPlace) → override p key c ≡ Some at → HasKey p key at
override_has p key c at e = open_has p key (declared_method p key c) at (λ x is. declared_has p key c x is) e

pub interface_has : (p : Program) (key : Key) (c : ℕ) (at : MemberPlace) → open_method p key c ≡ Some at → HasKey p key at
interface_has p key c at e = by (is_interface p c) e
  where
    by : (b : Bool) → (if b then option_and_then (if_open p) (declared_method p key c) else None) ≡ Some at → HasKey p key at
    by true e = override_has p key c at e
    by false e = absurd cc

pub bodies_have : (p : Program) (key : Key) (c : ℕ) → Each (HasKey p key) (most_specific_bodies p c key)
bodies_have p key c =
    each_filtered (HasKey p key) (is_specific_body p (inherited p c key)) (inherited p c key)
    (each_found (HasKey p key) (open_method p key) (λ x y e. interface_has p key x y e) (supers p c))

-- ---- selection

same_choice : (a b : MemberPlace) → ◌≡◌ {A = Choice} (Method a) (Method b) → a ≡ b
same_choice a b e = cc

body_is : (p : Program) (at found : MemberPlace) → by_body p at ≡ Method found → at ≡ found
body_is p at found e = by (has_method is_abstract_method p at) e
  where
    by : (b : Bool) → (if b then Abstract else Method at) ≡ Method found → at ≡ found
    by true e = absurd cc
    by false e = same_choice at found e

sole_has : (p : Program) (key : Key) (bodies : List MemberPlace) (found : MemberPlace) → Each (HasKey p key) bodies → sole_body bodies ≡ Method found
    → HasKey p key found
sole_has p key [] found each e = absurd cc
sole_has p key (at ∷ []) found each e = subst (HasKey p key) (same_choice at found e) each.0
sole_has p key (at ∷ other ∷ rest) found each e = absurd cc

by_key_has : (p : Program) (c : ℕ) (key : Key) (found : MemberPlace) → select_by_key p c key ≡ Method found → HasKey p key found
by_key_has p c key found e = by (first_in (override p key) (superclasses p c)) refl e
  where
    by : (o : Option MemberPlace) → first_in (override p key) (superclasses p c) ≡ o
        → option_map_or (by_body p) o (sole_body (most_specific_bodies p c key)) ≡ Method found → HasKey p key found
    by None is e = sole_has p key (most_specific_bodies p c key) found (bodies_have p key c) e
    by (Some at) is e =
        subst (HasKey p key) (body_is p at found e)
        (first_found (HasKey p key) (override p key) (λ x y e. override_has p key x y e) (superclasses p c) at is)

select_in_has : (p : Program) (c : ℕ) (at found : MemberPlace) (f : ClassFile) (m : Member) → slice_get p.classes at.class ≡ Some f
    → slice_get f.methods at.index ≡ Some m → select_in p c at f.pool m ≡ Method found → HasKey p (key_in f.pool m) found
select_in_has p c at found f m file member e = by (is_private m) e
  where
    by : (b : Bool) → (if b then by_body p at else select_by_key p c (key_in f.pool m)) ≡ Method found → HasKey p (key_in f.pool m) found
    by true e = subst (HasKey p (key_in f.pool m)) (body_is p at found e)
        (record { file = f; file_is = file; member = m; member_is = member; name = refl; descriptor = refl })
    by false e = by_key_has p c (key_in f.pool m) found e

pub select_has : (p : Program) (c : ℕ) (at found : MemberPlace) (f : ClassFile) (m : Member) → slice_get p.classes at.class ≡ Some f
    → slice_get f.methods at.index ≡ Some m → select p c at ≡ Method found → HasKey p (key_in f.pool m) found
select_has p c at found f m file member e =
    let outer = ap (λ o. option_map_or (λ (g : ClassFile). option_map_or (select_in p c at g.pool) (slice_get g.methods at.index) Abstract) o Abstract) file in
    let inner = ap (λ o. option_map_or (select_in p c at f.pool) o Abstract) member in
    select_in_has p c at found f m file member (sym (outer ∙ inner) ∙ e)

-- ---- what selection finds is of objects

-- what is found is the method itself, or one that is neither private nor static
abbrev pub IsItselfOrOpen : Program → MemberPlace → MemberPlace → Type 0
IsItselfOrOpen p at found = (at ≡ found) ⊎ (has_method is_open p found ≡ true)

opened : (p : Program) (o : Option MemberPlace) (at : MemberPlace) → option_and_then (if_open p) o ≡ Some at → has_method is_open p at ≡ true
opened p None at e = absurd cc
opened p (Some x) at e = by (has_method is_open p x) refl e
  where
    by : (b : Bool) → has_method is_open p x ≡ b → (if b then Some x else None) ≡ Some at → has_method is_open p at ≡ true
    by true is e = ap (has_method is_open p) (sym (same_place x at e)) ∙ is
    by false is e = absurd cc

open_interface : (p : Program) (key : Key) (c : ℕ) (at : MemberPlace) → open_method p key c ≡ Some at → has_method is_open p at ≡ true
open_interface p key c at e = by (is_interface p c) e
  where
    by : (b : Bool) → (if b then option_and_then (if_open p) (declared_method p key c) else None) ≡ Some at → has_method is_open p at ≡ true
    by true e = opened p (declared_method p key c) at e
    by false e = absurd cc

pub bodies_open : (p : Program) (key : Key) (c : ℕ) → Each (λ at. has_method is_open p at ≡ true) (most_specific_bodies p c key)
bodies_open p key c =
    each_filtered (λ at. has_method is_open p at ≡ true) (is_specific_body p (inherited p c key)) (inherited p c key)
    (each_found (λ at. has_method is_open p at ≡ true) (open_method p key) (λ x y e. open_interface p key x y e) (supers p c))

sole_open : (p : Program) (bodies : List MemberPlace) (found : MemberPlace) → Each (λ at. has_method is_open p at ≡ true) bodies
    → sole_body bodies ≡ Method found → has_method is_open p found ≡ true
sole_open p [] found each e = absurd cc
sole_open p (at ∷ []) found each e = ap (has_method is_open p) (sym (same_choice at found e)) ∙ each.0
sole_open p (at ∷ other ∷ rest) found each e = absurd cc

by_key_open : (p : Program) (c : ℕ) (key : Key) (found : MemberPlace) → select_by_key p c key ≡ Method found → has_method is_open p found ≡ true
by_key_open p c key found e = by (first_in (override p key) (superclasses p c)) refl e
  where
    by : (o : Option MemberPlace) → first_in (override p key) (superclasses p c) ≡ o
        → option_map_or (by_body p) o (sole_body (most_specific_bodies p c key)) ≡ Method found → has_method is_open p found ≡ true
    by None is e = sole_open p (most_specific_bodies p c key) found (bodies_open p key c) e
    by (Some at) is e =
        ap (has_method is_open p) (sym (body_is p at found e))
        ∙ first_found (λ x. has_method is_open p x ≡ true) (override p key) (λ x y e. opened p (declared_method p key x) y e) (superclasses p c) at is

pub select_open : (p : Program) (c : ℕ) (at found : MemberPlace) (f : ClassFile) (m : Member) → slice_get p.classes at.class ≡ Some f
    → slice_get f.methods at.index ≡ Some m → select p c at ≡ Method found → IsItselfOrOpen p at found
select_open p c at found f m file member e =
    let outer = ap (λ o. option_map_or (λ (g : ClassFile). option_map_or (select_in p c at g.pool) (slice_get g.methods at.index) Abstract) o Abstract) file in
    let inner = ap (λ o. option_map_or (select_in p c at f.pool) o Abstract) member in
    by (is_private m) (sym (outer ∙ inner) ∙ e)
  where
    by : (b : Bool) → (if b then by_body p at else select_by_key p c (key_in f.pool m)) ≡ Method found → IsItselfOrOpen p at found
    by true e = inl (body_is p at found e)
    by false e = inr (by_key_open p c (key_in f.pool m) found e)
