-- A pool that grows by a mention stays sound.
use Rattle.std.proofs.Common.{◌≡◌, ℕ, ℤ, FitsSigned, suc, ◌+◌, ◌<◌, ◌≤◌, Bool, true, false, cond, List, [], ◌∷◌, ◌++◌, length, Option, Some, None, option_and_then, slice_get, refl, sym, ◌∙◌, ap, subst, arith, length-append, append_assoc, nat_eq, ltb}
use Rattle.std.specs.Int.{w32, w64}
use Rattle.std.specs.Option.{option_map}
use Rattle.std.specs.List.{AllByRecursion}
use Rattle.std.specs.Cmp.Lexicographic.{pointwise, bytes_decides}
use Rattle.std.proofs.Math.ListN.{get_or-append}
use Rattle.std.proofs.Math.Seq.{get_or-append_seam}
use Rattle.std.proofs.lemmas.List.{append-nil}
use Rattle.std.proofs.lemmas.Option.{slice_get_within, slice_get-get_or, get_or_from_slice_get}
use Rattle.std.proofs.lemmas.Bool.{ltb-false}
use Rattle.class_model.specs.declared.constant.Const.{Const}
use Rattle.class_model.specs.declared.constant.Const.TheVariants.{Unused, Utf8, Integer, Long, Class, Text, Fieldref, Methodref, InterfaceMethodref, NameAndType}
use Rattle.class_grammar.specs.Names.{is_class_text}
use Rattle.class_grammar.specs.Pool.{text_of, text_at, class_name_of, class_name_at}
use Rattle.class_grammar.specs.Ranges.{is_wide, AreEntries}
use Rattle.asm_pool.specs.Keys.{key_of}
use Rattle.asm_pool.specs.Mentions.{Mention, ◌then◌, is_long, second_entry, slots_of, place_of, mentioned_at, mentioned, is_short, text, class, string, int, long, name_and_type, field, method, interface_method}
use Rattle.asm_soundness.specs.Pools.{IsMemberAt, IsClassAt, AreNames, IsKnown, IsSoundPool, Grows, IsAscii, AreMember, is_member_by, KeepsMembers}
use Rattle.asm_soundness.proofs.KeyLaws.{utf8_of_key, class_of_key, names_of_key}

-- ---- what is in a pool stays there

found : {A B : Type 0} (f : A → Option B) (o : Option A) (y : B) → option_and_then f o ≡ Some y → (x : A) × (o ≡ Some x) × (f x ≡ Some y)
found f None y e = absurd cc
found f (Some x) y e = (x, refl, e)

get_stays : (pool more : List Const) (i : ℕ) (c : Const) → slice_get pool i ≡ Some c → slice_get (pool ++ more) i ≡ Some c
get_stays pool more i c e =
    let lt : i < length pool = slice_get_within pool i c e in
    let all : i < length (pool ++ more) = omega (arith, lt, length-append pool more) in
    slice_get-get_or (pool ++ more) i c all ∙ ap (λ (x : Const). Some x) (get_or-append pool more c i lt ∙ get_or_from_slice_get pool i c c e)

pub text_stays : (pool more : List Const) (i : ℕ) (t : List ℕ) → text_at pool i ≡ Some t → text_at (pool ++ more) i ≡ Some t
text_stays pool more i t e =
    let p = found text_of (slice_get pool i) t e in
    ap (option_and_then text_of) (get_stays pool more i p.0 p.1) ∙ p.2

name_of_stays : (pool more : List Const) (c : Const) (t : List ℕ) → class_name_of pool c ≡ Some t → class_name_of (pool ++ more) c ≡ Some t
name_of_stays pool more (Class name) t e = text_stays pool more name t e
name_of_stays pool more other t e = absurd cc

pub name_stays : (pool more : List Const) (i : ℕ) (t : List ℕ) → class_name_at pool i ≡ Some t → class_name_at (pool ++ more) i ≡ Some t
name_stays pool more i t e =
    let p = found (class_name_of pool) (slice_get pool i) t e in
    ap (option_and_then (class_name_of (pool ++ more))) (get_stays pool more i p.0 p.1) ∙ name_of_stays pool more p.0 t p.2

pub class_stays : (pool more : List Const) (i : ℕ) → IsClassAt pool i → IsClassAt (pool ++ more) i
class_stays pool more i h = record { name = h.name; here = name_stays pool more i h.name h.here }

member_stays : (of_field : Bool) (pool more : List Const) (i : ℕ) → IsMemberAt of_field pool i → IsMemberAt of_field (pool ++ more) i
member_stays of_field pool more i h = record {
  name_index = h.name_index;
  descriptor_index = h.descriptor_index;
  name = h.name;
  descriptor = h.descriptor;
  here = get_stays pool more i _ h.here;
  name_is = text_stays pool more h.name_index h.name h.name_is;
  descriptor_is = text_stays pool more h.descriptor_index h.descriptor h.descriptor_is;
  passed = h.passed;
}

known_stays : (pool more : List Const) (c : Const) → IsKnown pool c → IsKnown (pool ++ more) c
known_stays pool more Unused h = tt
known_stays pool more (Utf8 units) h = h
known_stays pool more (Integer n) h = h
known_stays pool more (Long n) h = h
known_stays pool more (Class name) h = record { units = h.units; is = text_stays pool more name h.units h.is; passed = h.passed }
known_stays pool more (Text t) h = record { units = h.units; is = text_stays pool more t h.units h.is }
known_stays pool more (Fieldref owner member) h = (class_stays pool more owner h.0, member_stays _ pool more member h.1)
known_stays pool more (Methodref owner member) h = (class_stays pool more owner h.0, member_stays _ pool more member h.1)
known_stays pool more (InterfaceMethodref owner member) h = (class_stays pool more owner h.0, member_stays _ pool more member h.1)
known_stays pool more (NameAndType name descriptor) h = record {
  name_units = h.name_units;
  descriptor_units = h.descriptor_units;
  name_is = text_stays pool more name h.name_units h.name_is;
  descriptor_is = text_stays pool more descriptor h.descriptor_units h.descriptor_is;
  of_field = h.of_field;
  passed = h.passed;
}
known_stays pool more other h = absurd h

all_stay : (pool more cs : List Const) → AllByRecursion (IsKnown pool) cs → AllByRecursion (IsKnown (pool ++ more)) cs
all_stay pool more [] h = tt
all_stay pool more (c ∷ cs) h = (known_stays pool more c h.0, all_stay pool more cs h.1)

all_append : {A : Type 0} (P : A → Type 0) (xs ys : List A) → AllByRecursion P xs → AllByRecursion P ys → AllByRecursion P (xs ++ ys)
all_append P [] ys h k = k
all_append P (x ∷ xs) ys h k = (h.0, all_append P xs ys h.1 k)

-- ---- one more constant

-- a constant that a mention adds
abbrev pub IsEntry : Const → Type 0
IsEntry Unused = ⊥
IsEntry other = Unit {0}

slots_known : (pool : List Const) (c : Const) → IsKnown pool c → AllByRecursion (IsKnown pool) (slots_of c)
slots_known pool (Long n) h = (h, (tt, tt))
slots_known pool other h = (h, tt)

slots_entries : (pool : List Const) (c : Const) → IsKnown pool c → IsEntry c → AreEntries false (slots_of c)
slots_entries pool Unused h e = absurd e
slots_entries pool (Utf8 units) h e = refl
slots_entries pool (Integer n) h e = refl
slots_entries pool (Long n) h e = refl
slots_entries pool (Class name) h e = refl
slots_entries pool (Text t) h e = refl
slots_entries pool (Fieldref owner member) h e = refl
slots_entries pool (Methodref owner member) h e = refl
slots_entries pool (InterfaceMethodref owner member) h e = refl
slots_entries pool (NameAndType name descriptor) h e = refl
slots_entries pool other h e = absurd h

entries_append : (behind : Bool) (cs more : List Const) → AreEntries behind cs → AreEntries false more → AreEntries behind (cs ++ more)
entries_append false [] more h k = k
entries_append true [] more h k = absurd cc
entries_append true (Unused ∷ cs) more h k = entries_append false cs more h k
entries_append true (c ∷ cs) more h k = absurd h
entries_append false (Unused ∷ cs) more h k = absurd h
entries_append false (c ∷ cs) more h k = entries_append (is_wide c) cs more h k

pool_grows : (pool : List Const) (c : Const) → IsSoundPool pool → IsKnown pool c → IsEntry c → length pool + length (slots_of c) ≤ 65535 → IsSoundPool (pool ++ slots_of c)
pool_grows pool c h k e few = record {
  behind = h.behind ++ slots_of c;
  first = ap (λ (p : List Const). p ++ slots_of c) h.first;
  entries = entries_append false h.behind (slots_of c) h.entries (slots_entries pool c k e);
  few = omega (arith, few, length-append pool (slots_of c));
  known = all_append (IsKnown (pool ++ slots_of c)) pool (slots_of c) (all_stay pool (slots_of c) pool h.known) (all_stay pool (slots_of c) (slots_of c) (slots_known pool c k));
}

-- ---- a mention

-- a constant with the key at the place
abbrev IsThere : List ℕ → List Const → ℕ → Type 0
IsThere key pool i = (d : Const) × (slice_get pool i ≡ Some d) × (key_of d ≡ key)

there_behind : (key : List ℕ) (c : Const) (cs : List Const) (i : ℕ) (o : Option ℕ) → ((j : ℕ) → o ≡ Some j → IsThere key cs j) → option_map suc o ≡ Some i → IsThere key (c ∷ cs) i
there_behind key c cs i None below e = absurd cc
there_behind key c cs i (Some j) below e =
    let same : suc j ≡ i = cc in
    subst (λ k. IsThere key (c ∷ cs) k) same (below j refl)

there_by : (key : List ℕ) (c : Const) (cs : List Const) (i : ℕ) (b : Bool) → ((j : ℕ) → place_of key cs ≡ Some j → IsThere key cs j) → pointwise nat_eq (key_of c) key ≡ b
    → cond b (Some 0) (option_map suc (place_of key cs)) ≡ Some i → IsThere key (c ∷ cs) i
there_by key c cs i true below t e =
    let same : 0 ≡ i = cc in
    let here : IsThere key (c ∷ cs) 0 = (c, refl, (bytes_decides (key_of c) key).0 t) in
    subst (λ k. IsThere key (c ∷ cs) k) same here
there_by key c cs i false below t e = there_behind key c cs i (place_of key cs) below e

place_is : (key : List ℕ) (pool : List Const) (i : ℕ) → place_of key pool ≡ Some i → IsThere key pool i
place_is key [] i e = absurd cc
place_is key (c ∷ cs) i e = there_by key c cs i (pointwise nat_eq (key_of c) key) (place_is key cs) refl e

-- what a mention leaves: a sound pool with the constant at the index
abbrev Left : List Const → Const → ℕ → List Const → Type 0
Left pool c index new = Grows pool new × IsThere (key_of c) new index

abbrev answer : ℕ → List Const → Mention
answer index pool = Some (index, pool)

abbrev index_in : Mention → ℕ
index_in (Some x) = x.0
index_in None = 0

abbrev pool_in : Mention → List Const
pool_in (Some x) = x.1
pool_in None = []

-- what was answered
answered : (i j : ℕ) (p q : List Const) → answer i p ≡ answer j q → (i ≡ j) × (p ≡ q)
answered i j p q e = (ap index_in e, ap pool_in e)

left_found : (pool : List Const) (c : Const) (index i : ℕ) (new : List Const) → IsSoundPool pool → IsThere (key_of c) pool i → answer i pool ≡ answer index new → Left pool c index new
left_found pool c index i new h t e =
    let p = answered i index pool new e in
    let grows : Grows pool pool = record { more = []; is = sym (append-nil pool); sound = h } in
    subst (λ (x : List Const). Left pool c index x) p.1 (subst (λ k. Left pool c k pool) p.0 (grows, t))

there_last : (pool : List Const) (c : Const) → IsThere (key_of c) (pool ++ slots_of c) (length pool)
there_last pool c =
    let n : length (slots_of c) ≡ suc (length (second_entry (is_long c))) = refl in
    let lt : length pool < length (pool ++ slots_of c) = omega (arith, n, length-append pool (slots_of c)) in
    (c, slice_get-get_or (pool ++ slots_of c) (length pool) c lt ∙ ap (λ (x : Const). Some x) (get_or-append_seam pool c (second_entry (is_long c)) c), refl)

left_new : (pool : List Const) (c : Const) (index : ℕ) (new : List Const) → IsSoundPool pool → IsKnown pool c → IsEntry c → length pool + length (slots_of c) ≤ 65535
    → answer (length pool) (pool ++ slots_of c) ≡ answer index new → Left pool c index new
left_new pool c index new h k e few s =
    let p = answered (length pool) index (pool ++ slots_of c) new s in
    let grows : Grows pool (pool ++ slots_of c) = record { more = slots_of c; is = refl; sound = pool_grows pool c h k e few } in
    subst (λ (x : List Const). Left pool c index x) p.1 (subst (λ i. Left pool c i (pool ++ slots_of c)) p.0 (grows, there_last pool c))

left_room : (pool : List Const) (c : Const) (index : ℕ) (new : List Const) (b : Bool) → IsSoundPool pool → IsKnown pool c → IsEntry c → ltb 65535 (length pool + length (slots_of c)) ≡ b
    → cond b None (answer (length pool) (pool ++ slots_of c)) ≡ answer index new → Left pool c index new
left_room pool c index new true h k e t s = absurd cc
left_room pool c index new false h k e t s = left_new pool c index new h k e (ltb-false 65535 (length pool + length (slots_of c)) t) s

left_at : (pool : List Const) (c : Const) (index : ℕ) (new : List Const) (o : Option ℕ) → IsSoundPool pool → IsKnown pool c → IsEntry c → place_of (key_of c) pool ≡ o
    → mentioned_at o c pool ≡ Some (index, new) → Left pool c index new
left_at pool c index new None h k e t s = left_room pool c index new _ h k e refl s
left_at pool c index new (Some i) h k e t s = left_found pool c index i new h (place_is (key_of c) pool i t) s

pub mention_left : (pool : List Const) (c : Const) (index : ℕ) (new : List Const) → IsSoundPool pool → IsKnown pool c → IsEntry c → mentioned c pool ≡ Some (index, new) → Left pool c index new
unfolding mentioned
mention_left pool c index new h k e s = left_at pool c index new (place_of (key_of c) pool) h k e refl s

-- ---- texts and classes

short_text : (b : Bool) (units : List ℕ) (pool : List Const) (x : ℕ × List Const) → is_short units ≡ b → cond b (mentioned (Utf8 units) pool) None ≡ Some x
    → (is_short units ≡ true) × (mentioned (Utf8 units) pool ≡ Some x)
short_text true units pool x t e = (t, e)
short_text false units pool x t e = absurd cc

pub text_keeps : (units : List ℕ) (pool : List Const) (index : ℕ) (new : List Const) → IsSoundPool pool → AllByRecursion (λ u. u < 128) units → text units pool ≡ Some (index, new)
    → Grows pool new × (text_at new index ≡ Some units)
text_keeps units pool index new h ascii e =
    let s = short_text (is_short units) units pool (index, new) refl e in
    let left = mention_left pool (Utf8 units) index new h (record { ascii = ascii; short = s.0 }) tt s.1 in
    let same : left.1.0 ≡ Utf8 units = utf8_of_key left.1.0 units left.1.2 in
    (left.0, ap (option_and_then text_of) (left.1.1 ∙ ap (λ (x : Const). Some x) same))

then_some : (m : Mention) (f : ℕ → List Const → Mention) (x : ℕ × List Const) → m then f ≡ Some x → (y : ℕ × List Const) × (m ≡ Some y) × (f y.0 y.1 ≡ Some x)
then_some None f x e = absurd cc
then_some (Some y) f x e = (y, refl, e)

grows_on : (a b c : List Const) → Grows a b → Grows b c → Grows a c
grows_on a b c g h = record {
  more = g.more ++ h.more;
  is = h.is ∙ ap (λ (x : List Const). x ++ h.more) g.is ∙ append_assoc a g.more h.more;
  sound = h.sound;
}

pub class_keeps : (name : List ℕ) (pool : List Const) (index : ℕ) (new : List Const) → IsSoundPool pool → AllByRecursion (λ u. u < 128) name → is_class_text name ≡ true
    → class name pool ≡ Some (index, new) → Grows pool new × (class_name_at new index ≡ Some name)
class_keeps name pool index new h ascii sound e =
    let s = then_some (text name pool) (λ n. mentioned (Class n)) (index, new) e in
    let t = text_keeps name pool s.0.0 s.0.1 h ascii s.1 in
    let left = mention_left s.0.1 (Class s.0.0) index new t.0.sound (record { units = name; is = t.1; passed = sound }) tt s.2 in
    let same : left.1.0 ≡ Class s.0.0 = class_of_key left.1.0 s.0.0 left.1.2 in
    let stays : text_at new s.0.0 ≡ Some name = ap (λ (p : List Const). text_at p s.0.0) left.0.is ∙ text_stays s.0.1 left.0.more s.0.0 name t.1 in
    (grows_on pool s.0.1 new t.0 left.0, ap (option_and_then (class_name_of new)) (left.1.1 ∙ ap (λ (x : Const). Some x) same) ∙ stays)

pub string_keeps : (units : List ℕ) (pool : List Const) (index : ℕ) (new : List Const) → IsSoundPool pool → IsAscii units → string units pool ≡ Some (index, new) → Grows pool new
string_keeps units pool index new h ascii e =
    let s = then_some (text units pool) (λ n. mentioned (Text n)) (index, new) e in
    let t = text_keeps units pool s.0.0 s.0.1 h ascii s.1 in
    let left = mention_left s.0.1 (Text s.0.0) index new t.0.sound (record { units = units; is = t.1 }) tt s.2 in
    grows_on pool s.0.1 new t.0 left.0

pub numbers_keep : (n : ℤ) (pool : List Const) (index : ℕ) (new : List Const) → IsSoundPool pool
    → (FitsSigned w32 n → int n pool ≡ Some (index, new) → Grows pool new) × (FitsSigned w64 n → long n pool ≡ Some (index, new) → Grows pool new)
numbers_keep n pool index new h =
    (λ fits e. (mention_left pool (Integer n) index new h fits tt e).0, λ fits e. (mention_left pool (Long n) index new h fits tt e).0)

-- ---- members

name_and_type_keeps : (of_field : Bool) (name descriptor : List ℕ) (pool : List Const) (index : ℕ) (new : List Const) → IsSoundPool pool → IsAscii name → IsAscii descriptor
    → is_member_by of_field name descriptor ≡ true → name_and_type name descriptor pool ≡ Some (index, new) → Grows pool new × IsMemberAt of_field new index
name_and_type_keeps of_field name descriptor pool index new h a b passed e =
    let s = then_some (text name pool) (λ n p. text descriptor p then λ d. mentioned (NameAndType n d)) (index, new) e in
    let t = text_keeps name pool s.0.0 s.0.1 h a s.1 in
    let r = then_some (text descriptor s.0.1) (λ d. mentioned (NameAndType s.0.0 d)) (index, new) s.2 in
    let u = text_keeps descriptor s.0.1 r.0.0 r.0.1 t.0.sound b r.1 in
    let name_is : text_at r.0.1 s.0.0 ≡ Some name = ap (λ (p : List Const). text_at p s.0.0) u.0.is ∙ text_stays s.0.1 u.0.more s.0.0 name t.1 in
    let known : AreNames r.0.1 s.0.0 r.0.0 = record { name_units = name; descriptor_units = descriptor; name_is = name_is; descriptor_is = u.1; of_field = of_field; passed = passed } in
    let left = mention_left r.0.1 (NameAndType s.0.0 r.0.0) index new u.0.sound known tt r.2 in
    let same : left.1.0 ≡ NameAndType s.0.0 r.0.0 = names_of_key left.1.0 s.0.0 r.0.0 left.1.2 in
    let stays : (i : ℕ) (w : List ℕ) → text_at r.0.1 i ≡ Some w → text_at new i ≡ Some w = λ i w g. ap (λ (p : List Const). text_at p i) left.0.is ∙ text_stays r.0.1 left.0.more i w g in (
      grows_on pool r.0.1 new (grows_on pool s.0.1 r.0.1 t.0 u.0) left.0,
      record {
        name_index = s.0.0;
        descriptor_index = r.0.0;
        name = name;
        descriptor = descriptor;
        here = left.1.1 ∙ ap (λ (x : Const). Some x) same;
        name_is = stays s.0.0 name name_is;
        descriptor_is = stays r.0.0 descriptor u.1;
        passed = passed;
      },
    )

-- a constant that names a class and a member of this kind
abbrev Names : Bool → (ℕ → ℕ → Const) → Type 0
Names of_field make = (pool : List Const) (owner member : ℕ) → IsClassAt pool owner → IsMemberAt of_field pool member → IsKnown pool (make owner member) × IsEntry (make owner member)

member_keeps : (of_field : Bool) (make : ℕ → ℕ → Const) (owner name descriptor : List ℕ) (pool : List Const) (index : ℕ) (new : List Const) → Names of_field make → IsSoundPool pool
    → AreMember of_field owner name descriptor
    → class owner pool then (λ owner pool. name_and_type name descriptor pool then λ member. mentioned (make owner member)) ≡ Some (index, new) → Grows pool new
member_keeps of_field make owner name descriptor pool index new names h a e =
    let s = then_some (class owner pool) (λ owner pool. name_and_type name descriptor pool then λ member. mentioned (make owner member)) (index, new) e in
    let t = class_keeps owner pool s.0.0 s.0.1 h a.owner_ascii a.owner_sound s.1 in
    let r = then_some (name_and_type name descriptor s.0.1) (λ member. mentioned (make s.0.0 member)) (index, new) s.2 in
    let u = name_and_type_keeps of_field name descriptor s.0.1 r.0.0 r.0.1 t.0.sound a.name_ascii a.descriptor_ascii a.passed r.1 in
    let owner_is : IsClassAt r.0.1 s.0.0 = record { name = owner; here = ap (λ (p : List Const). class_name_at p s.0.0) u.0.is ∙ name_stays s.0.1 u.0.more s.0.0 owner t.1 } in
    let k = names r.0.1 s.0.0 r.0.0 owner_is u.1 in
    let left = mention_left r.0.1 (make s.0.0 r.0.0) index new u.0.sound k.0 k.1 r.2 in
    grows_on pool r.0.1 new (grows_on pool s.0.1 r.0.1 t.0 u.0) left.0

pub members_keep : (owner name descriptor : List ℕ) (pool : List Const) → KeepsMembers owner name descriptor pool
unfolding field method interface_method
members_keep owner name descriptor pool index new h = (
  λ a e. member_keeps true Fieldref owner name descriptor pool index new (λ p o m c n. ((c, n), tt)) h a e,
  λ a e. member_keeps false Methodref owner name descriptor pool index new (λ p o m c n. ((c, n), tt)) h a e,
  λ a e. member_keeps false InterfaceMethodref owner name descriptor pool index new (λ p o m c n. ((c, n), tt)) h a e,
)
