-- A sound pool keeps to the grammar of class files.
use Rattle.std.proofs.Common.{◌≡◌, ℕ, ◌+◌, ◌<◌, ◌≤◌, ◌==◌, Bool, true, false, not, ◌&&◌, ◌||◌, cond, List, [], ◌∷◌, ◌++◌, length, Option, Some, None, option_and_then, slice_get, is_some, refl, sym, ◌∙◌, ap, subst, arith, length-append, count_by, ltb, leb}
use Rattle.std.specs.Option.{option_map_or}
use Rattle.std.specs.List.{AllByRecursion, flat_map}
use Rattle.std.proofs.lemmas.Option.{slice_get_within}
use Rattle.std.proofs.lemmas.Bool.{leb-true, le-ltb, lt-ltb}
use Rattle.std.proofs.lemmas.List.Sums.{sum_by-cons}
use Rattle.std.proofs.lemmas.List.Concat.{flat_map-cons}
use Rattle.asm_soundness.proofs.NameLaws.{method_like, field_plain}
use Rattle.class_model.specs.declared.constant.Const.{Const}
use Rattle.class_model.specs.declared.constant.Const.TheVariants.{Unused, Utf8, Integer, Long, Class, Text, Fieldref, Methodref, InterfaceMethodref, NameAndType}
use Rattle.jvm_utf8.specs.Text as utf8
use Rattle.class_grammar.specs.declared.class_why.ClassWhy.{ClassWhy}
use Rattle.class_grammar.specs.declared.class_why.ClassWhy.TheVariants as whys
use Rattle.class_grammar.specs.Names.{is_class_text, is_field_name, is_method_name, is_like_method}
use Rattle.class_grammar.specs.Pool.{text_of, text_at, class_name_of}
use Rattle.class_grammar.specs.Ranges.{IsU2, IsConstant, IsPool}
use Rattle.class_grammar.specs.Checks.{Item, unless, is_class, text_fault, constant_items, text_items, class_fault, is_descriptor, descriptor_fault, of_field_fault, of_method_fault, name_fault}
use Rattle.class_grammar.specs.Grammar.{IsSound}
use Rattle.descriptors.specs.States.{is_field, is_method}
use Rattle.asm_soundness.specs.Pools.{IsMemberAt, IsClassAt, IsText, AreNames, IsKnown, IsSoundPool, IsAscii, is_member_by}

-- ---- numbers in their ranges

found : {A B : Type 0} (f : A → Option B) (o : Option A) (y : B) → option_and_then f o ≡ Some y → (x : A) × (o ≡ Some x) × (f x ≡ Some y)
found f None y e = absurd cc
found f (Some x) y e = (x, refl, e)

-- an index of a pool has two bytes
small : {A : Type 0} (f : Const → Option A) (pool : List Const) (i : ℕ) (y : A) → length pool ≤ 65535 → option_and_then f (slice_get pool i) ≡ Some y → IsU2 i
small f pool i y few e =
    let p = found f (slice_get pool i) y e in
    let lt : i < length pool = slice_get_within pool i p.0 p.1 in
    omega arith

there : (pool : List Const) (i : ℕ) (c : Const) → length pool ≤ 65535 → slice_get pool i ≡ Some c → IsU2 i
there pool i c few e =
    let lt : i < length pool = slice_get_within pool i c e in
    omega arith

pub small_text : (pool : List Const) (i : ℕ) (units : List ℕ) → length pool ≤ 65535 → text_at pool i ≡ Some units → IsU2 i
small_text pool i units few e = small text_of pool i units few e

pub small_class : (pool : List Const) (i : ℕ) → length pool ≤ 65535 → IsClassAt pool i → IsU2 i
small_class pool i few h = small (class_name_of pool) pool i h.name few h.here

ascii_units : (units : List ℕ) → IsAscii units → AllByRecursion IsU2 units
ascii_units [] h = tt
ascii_units (u ∷ us) h = let lt : u < 128 = h.0 in (omega arith, ascii_units us h.1)

both_true : (a b : Bool) → (a && b) ≡ true → (a ≡ true) × (b ≡ true)
both_true true b e = (refl, e)
both_true false b e = absurd cc

-- a unit in ASCII has one byte, or two where it is 0
size_by : (zero wide low plain : Bool) (a b c d e f g : ℕ) → wide ≡ false → plain ≡ true
    → length (cond (zero || (wide && low)) (a ∷ b ∷ []) (cond plain (c ∷ []) (d ∷ e ∷ f ∷ []))) ≡ 1 + cond zero 1 0
size_by true wide low plain a b c d e f g w p = refl
size_by false wide low plain a b c d e f g w p =
    ap (λ (x : Bool). length (cond (x && low) (a ∷ b ∷ []) (cond plain (c ∷ []) (d ∷ e ∷ f ∷ [])))) w
    ∙ ap (λ (x : Bool). length (cond x (c ∷ []) (d ∷ e ∷ f ∷ []))) p

unit_size : (u : ℕ) → u < 128 → length (utf8.unit u) ≡ 1 + cond (u == 0) 1 0
unit_size u lt =
    let few : u ≤ 127 = omega arith in
    size_by (u == 0) (ltb 127 u) (ltb u 2048) (ltb u 128) _ _ _ _ _ _ 0 (le-ltb 127 u few) (lt-ltb u 128 lt)

text_size : (units : List ℕ) → IsAscii units → length (utf8.text units) ≡ length units + count_by (λ u. u == 0) units
text_size [] h = refl
text_size (u ∷ us) h =
    let here = unit_size u h.0 in
    let behind = text_size us h.1 in
    let whole : length (utf8.text (u ∷ us)) ≡ length (utf8.unit u) + length (utf8.text us) = ap length (flat_map-cons utf8.unit u us) ∙ length-append (utf8.unit u) (utf8.text us) in
    let counted : count_by (λ (n : ℕ). n == 0) (u ∷ us) ≡ cond (u == 0) 1 0 + count_by (λ (n : ℕ). n == 0) us = sum_by-cons (λ (n : ℕ). cond (n == 0) 1 0) u us in
    let n : length (u ∷ us) ≡ length us + 1 = omega arith in
    omega (arith, here, behind, whole, counted, n)

text_fits : (units : List ℕ) → IsText units → IsU2 (length (utf8.text units))
text_fits units h =
    let size = text_size units h.ascii in
    let short : length units + count_by (λ (u : ℕ). u == 0) units ≤ 65535 = leb-true (length units + count_by (λ (u : ℕ). u == 0) units) 65535 (both_true (leb (length units) 65535) (leb (length units + count_by (λ (u : ℕ). u == 0) units) 65535) h.short).1 in
    omega (arith, size, short)

range_of : (pool : List Const) (c : Const) → length pool ≤ 65535 → IsKnown pool c → IsConstant c
range_of pool Unused few h = tt
range_of pool (Utf8 units) few h = (ascii_units units h.ascii, text_fits units h)
range_of pool (Integer n) few h = h
range_of pool (Long n) few h = h
range_of pool (Class name) few h = small text_of pool name h.units few h.is
range_of pool (Text t) few h = small text_of pool t h.units few h.is
range_of pool (Fieldref owner member) few h = (small (class_name_of pool) pool owner h.0.name few h.0.here, there pool member _ few h.1.here)
range_of pool (Methodref owner member) few h = (small (class_name_of pool) pool owner h.0.name few h.0.here, there pool member _ few h.1.here)
range_of pool (InterfaceMethodref owner member) few h = (small (class_name_of pool) pool owner h.0.name few h.0.here, there pool member _ few h.1.here)
range_of pool (NameAndType name descriptor) few h = (small text_of pool name h.name_units few h.name_is, small text_of pool descriptor h.descriptor_units few h.descriptor_is)
range_of pool other few h = absurd h

ranges_of : (pool cs : List Const) → length pool ≤ 65535 → AllByRecursion (IsKnown pool) cs → AllByRecursion IsConstant cs
ranges_of pool [] few h = tt
ranges_of pool (c ∷ cs) few h = (range_of pool c few h.0, ranges_of pool cs few h.1)

pub range_is : (pool : List Const) → IsSoundPool pool → IsPool pool
range_is pool h =
    let all : AllByRecursion IsConstant (Unused ∷ h.behind) = subst (AllByRecursion IsConstant) h.first (ranges_of pool pool h.few h.known) in
    let few : IsU2 (length (Unused ∷ h.behind)) = subst (λ (p : List Const). IsU2 (length p)) h.first (omega (arith, h.few)) in
    let it : IsPool (Unused ∷ h.behind) = ((few, all), h.entries) in
    subst IsPool (sym h.first) it

-- ---- nothing is wrong with a constant

class_passes : (pool : List Const) (c : Const) (name : List ℕ) → class_name_of pool c ≡ Some name → is_class c ≡ true
class_passes pool (Class n) name e = refl
class_passes pool other name e = absurd cc

pub class_sound : (pool : List Const) (i : ℕ) → IsClassAt pool i → class_fault pool i ≡ None
class_sound pool i h =
    let p = found (class_name_of pool) (slice_get pool i) h.name h.here in
    ap (λ (o : Option Const). unless (option_map_or is_class o false) whys.Index) p.1 ∙ ap (λ (b : Bool). unless b whys.Index) (class_passes pool p.0 h.name p.2)

pub text_sound : (test : List ℕ → Bool) (why : ClassWhy) (pool : List Const) (i : ℕ) (units : List ℕ) → text_at pool i ≡ Some units → test units ≡ true → text_fault test why pool i ≡ None
text_sound test why pool i units is passed =
    ap (λ (o : Option (List ℕ)). option_map_or (λ units. unless (test units) why) o (Some whys.Index)) is ∙ ap (λ (b : Bool). unless b why) passed

member_sound : (test : List ℕ → Bool) (of_field : Bool) (pool : List Const) (i : ℕ) (h : IsMemberAt of_field pool i) → test h.descriptor ≡ true
    → option_map_or (descriptor_fault test pool) (slice_get pool i) (Some whys.Index) ≡ None
member_sound test of_field pool i h passed =
    ap (λ (o : Option Const). option_map_or (descriptor_fault test pool) o (Some whys.Index)) h.here
    ∙ ap (λ (o : Option (List ℕ)). option_map_or (λ units. unless (test units) whys.Descriptor) o None) h.descriptor_is
    ∙ ap (λ (b : Bool). unless b whys.Descriptor) passed

field_sound : (pool : List Const) (i : ℕ) → IsMemberAt true pool i → of_field_fault pool i ≡ None
field_sound pool i h =
    let t = both_true (is_field_name h.name) (is_field h.descriptor) h.passed in
    member_sound (λ units. not (is_like_method units)) true pool i h (ap not (field_plain h.descriptor t.1))

method_sound : (pool : List Const) (i : ℕ) → IsMemberAt false pool i → of_method_fault pool i ≡ None
method_sound pool i h =
    let t = both_true (is_method_name h.name) (is_method h.descriptor) h.passed in
    member_sound is_like_method false pool i h (method_like h.descriptor t.1)

-- by whether the descriptor begins as a method's
like_at : (pool : List Const) (name descriptor : ℕ) (h : AreNames pool name descriptor) (like : Bool) → is_like_method h.descriptor_units ≡ like
    → name_fault pool name descriptor ≡ cond like (text_fault is_method_name whys.Name pool name) (text_fault is_field_name whys.Name pool name)
like_at pool name descriptor h like e =
    ap (λ (o : Option (List ℕ)). cond (option_map_or is_like_method o false) (text_fault is_method_name whys.Name pool name) (text_fault is_field_name whys.Name pool name)) h.descriptor_is
    ∙ ap (λ (b : Bool). cond b (text_fault is_method_name whys.Name pool name) (text_fault is_field_name whys.Name pool name)) e

names_sound : (pool : List Const) (name descriptor : ℕ) (h : AreNames pool name descriptor) (of_field : Bool) → is_member_by of_field h.name_units h.descriptor_units ≡ true
    → (name_fault pool name descriptor ≡ None) × (text_fault is_descriptor whys.Descriptor pool descriptor ≡ None)
names_sound pool name descriptor h true passed =
    let t = both_true (is_field_name h.name_units) (is_field h.descriptor_units) passed in
    let plain = field_plain h.descriptor_units t.1 in (
      like_at pool name descriptor h false plain ∙ text_sound is_field_name whys.Name pool name h.name_units h.name_is t.0,
      text_sound is_descriptor whys.Descriptor pool descriptor h.descriptor_units h.descriptor_is (ap (λ (b : Bool). cond b (is_method h.descriptor_units) (is_field h.descriptor_units)) plain ∙ t.1),
    )
names_sound pool name descriptor h false passed =
    let t = both_true (is_method_name h.name_units) (is_method h.descriptor_units) passed in
    let like = method_like h.descriptor_units t.1 in (
      like_at pool name descriptor h true like ∙ text_sound is_method_name whys.Name pool name h.name_units h.name_is t.0,
      text_sound is_descriptor whys.Descriptor pool descriptor h.descriptor_units h.descriptor_is (ap (λ (b : Bool). cond b (is_method h.descriptor_units) (is_field h.descriptor_units)) like ∙ t.1),
    )

units_sound : (units : List ℕ) → AllByRecursion IsSound (text_items units)
units_sound [] = tt
units_sound (u ∷ us) = (refl, units_sound us)

sound_of : (pool : List Const) (c : Const) → IsKnown pool c → AllByRecursion IsSound (constant_items pool c)
sound_of pool Unused h = tt
sound_of pool (Utf8 units) h = (refl, units_sound units)
sound_of pool (Integer n) h = (refl, tt)
sound_of pool (Long n) h = (refl, tt)
sound_of pool (Class name) h = (refl, (text_sound is_class_text whys.Name pool name h.units h.is h.passed, tt))
sound_of pool (Text t) h = (refl, (ap (λ (o : Option (List ℕ)). unless (is_some o) whys.Index) h.is, tt))
sound_of pool (Fieldref owner member) h = (refl, (class_sound pool owner h.0, (field_sound pool member h.1, tt)))
sound_of pool (Methodref owner member) h = (refl, (class_sound pool owner h.0, (method_sound pool member h.1, tt)))
sound_of pool (InterfaceMethodref owner member) h = (refl, (class_sound pool owner h.0, (method_sound pool member h.1, tt)))
sound_of pool (NameAndType name descriptor) h =
    let t = names_sound pool name descriptor h h.of_field h.passed in
    (refl, (t.0, (t.1, tt)))
sound_of pool other h = absurd h

pub all_append : (xs ys : List Item) → AllByRecursion IsSound xs → AllByRecursion IsSound ys → AllByRecursion IsSound (xs ++ ys)
all_append [] ys h k = k
all_append (x ∷ xs) ys h k = (h.0, all_append xs ys h.1 k)

sounds_of : (pool cs : List Const) → AllByRecursion (IsKnown pool) cs → AllByRecursion IsSound (flat_map (constant_items pool) cs)
sounds_of pool [] h = tt
sounds_of pool (c ∷ cs) h =
    subst (AllByRecursion IsSound) (sym (flat_map-cons (constant_items pool) c cs))
    (all_append (constant_items pool c) (flat_map (constant_items pool) cs) (sound_of pool c h.0) (sounds_of pool cs h.1))

pub sound_is : (pool : List Const) → IsSoundPool pool → AllByRecursion IsSound (flat_map (constant_items pool) pool)
sound_is pool h = sounds_of pool pool h.known
