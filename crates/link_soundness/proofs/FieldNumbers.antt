-- The fields of a linked world by number: each is a member of the class that declares it, and has the kind of its values.
use Rattle.std.proofs.Common.{◌≡◌, ◌⊎◌, inl, inr, ℕ, zero, suc, ◌+◌, Bool, true, false, not, List, [], ◌∷◌, drop, Some, refl, ap, sym, ◌∙◌, arith}
use Rattle.std.specs.Prelude.{codes, slice_get, ◌==◌, ◌||◌, if◌then◌else◌}
use Rattle.std.specs.List.{flat_map, enumerate_from}
use Rattle.std.proofs.lemmas.Bool.{or_parts}
use Rattle.std.proofs.lemmas.Bool.Decides.{nat_tests}
use Rattle.items.specs.First.{AllNone}
use Rattle.items.proofs.FirstLaws.{passed}
use Rattle.class_model.specs.declared.class_file.ClassFile.{ClassFile}
use Rattle.class_model.specs.declared.member.Member.{Member}
use Rattle.class_grammar.specs.Text.{is_one_of}
use Rattle.descriptors.specs.declared.kind.ElementType.TheVariants as elements
use Rattle.descriptors.specs.declared.kind.Kind.{Kind}
use Rattle.descriptors.specs.Meaning.{brackets_in, element_of, kind_of, type_of}
use Rattle.descriptors.specs.States.{is_field}
use Rattle.link_rules.specs.declared.why.LinkWhy.TheVariants.{Unsupported}
use Rattle.link_rules.specs.Program.{Program}
use Rattle.link_rules.specs.Constants.{has_floating, is_floating, is_in_name}
use Rattle.link_rules.specs.Faults.{Links, field_faults_at, has_floating_type}
use Rattle.link_rules.specs.Selection.{key_in}
use Rattle.link_model.specs.declared.members.FieldInfo.{FieldInfo}
use Rattle.link_model.specs.Infos.{field_info, fields_in}
use Rattle.link_model.specs.Worlds.{world_of}
use Rattle.verify_types.proofs.ListLaws.{not_true, numbered}
use Rattle.frame_soundness.specs.NativeKinds.{has_element_kind, has_kind}
use Rattle.frame_soundness.specs.StateKinds.{HasFieldKinds}
use Rattle.frame_soundness.proofs.NativeKinds.{type_kind}
use Rattle.step_soundness.proofs.MethodNumbers.{Behind, mapped_at, none_more, shifted, split_at}
use Rattle.link_soundness.proofs.Supers.{parts_at}

-- ---- the member of a number, where the first class has the number k

pub record IsField (k : ℕ) (files : List ClassFile) (info : FieldInfo) : Type 0 where
  pub class : ℕ
  pub file : ClassFile
  pub file_is : slice_get files class ≡ Some file
  pub index : ℕ
  pub member : Member
  pub member_is : slice_get file.fields index ≡ Some member
  pub is : field_info (k + class) file.pool member ≡ info

abbrev fields_from : ℕ → List ClassFile → List FieldInfo
fields_from k files = flat_map fields_in (enumerate_from k files)

pub field_of : (k : ℕ) (files : List ClassFile) (n : ℕ) (info : FieldInfo) → slice_get (flat_map fields_in (enumerate_from k files)) n ≡ Some info
    → IsField k files info
field_of k [] n info e = absurd cc
field_of k (x ∷ xs) n info e =
    by (split_at (fields_in (k, x)) (fields_from (k + 1) xs) n info e) (λ rest is. field_of (k + 1) xs rest info is)
  where
    by : (slice_get (fields_in (k, x)) n ≡ Some info) ⊎ Behind (fields_in (k, x)) (fields_from (k + 1) xs) n info
        → ((rest : ℕ) → slice_get (fields_from (k + 1) xs) rest ≡ Some info → IsField (k + 1) xs info) → IsField k (x ∷ xs) info
    by (inl here) more =
        let h = mapped_at (field_info k x.pool) x.fields n info here in
        record {
          class = 0;
          file = x;
          file_is = refl;
          index = n;
          member = h.from;
          member_is = h.at;
          is = ap (λ j. field_info j x.pool h.from) (sym (none_more k)) ∙ h.is;
        }
    by (inr b) more =
        let h = more b.rest b.is in
        record {
          class = suc h.class;
          file = h.file;
          file_is = h.file_is;
          index = h.index;
          member = h.member;
          member_is = h.member_is;
          is = ap (λ j. field_info j h.file.pool h.member) (sym (shifted k h.class)) ∙ h.is;
        }

-- ---- a descriptor without float and double is of values that have a kind

by_letter : (a b c d e f g h : Bool) (name : List ℕ) → c ≡ false → d ≡ false → has_element_kind
    (if a then elements.Byte else if b then elements.Char else if c then elements.Double else if d then elements.Float else if e then elements.Int
    else if f then elements.Long else if g then elements.Short else if h then elements.Bool else elements.Class name) ≡ true
by_letter true b c d e f g h name no_double no_float = refl
by_letter false true c d e f g h name no_double no_float = refl
by_letter false false true d e f g h name no_double no_float = absurd cc
by_letter false false false true e f g h name no_double no_float = absurd cc
by_letter false false false false true f g h name no_double no_float = refl
by_letter false false false false false true g h name no_double no_float = refl
by_letter false false false false false false true h name no_double no_float = refl
by_letter false false false false false false false true name no_double no_float = refl
by_letter false false false false false false false false name no_double no_float = refl

element_has : (text : List ℕ) → is_floating text ≡ false → has_element_kind (element_of text) ≡ true
element_has [] plain = refl
element_has (u ∷ us) plain =
    let here : is_one_of (codes "DF") u ≡ false = (or_parts (is_one_of (codes "DF") u) (has_floating (is_in_name false u) us) plain).0 in
    let no_double = or_parts (u == 68) (u == 70 || false) here in
    let no_float = or_parts (u == 70) false no_double.1 in
    by_letter (u == 66) (u == 67) (u == 68) (u == 70) (u == 73) (u == 74) (u == 83) (u == 90) _ no_double.0 no_float.0

type_has : (text : List ℕ) → is_floating text ≡ false → has_kind (type_of text) ≡ true
type_has text plain = by (brackets_in text)
  where
    some : (k : ℕ) → (suc k == 0) ≡ false
    some k = grind (arith, nat_tests)

    by : (k : ℕ) → (if k == 0 then has_element_kind (element_of (drop k text)) else true) ≡ true
    by zero = element_has text plain
    by (suc k) = ap (λ (b : Bool). if b then has_element_kind (element_of (drop (suc k) text)) else true) (some k)

pub kind_has : (text : List ℕ) → is_floating text ≡ false → has_kind (kind_of text) ≡ true
kind_has text plain = by (is_field text)
  where
    by : (b : Bool) → has_kind (if b then type_of text else (let k : Kind = record { dimensions = 0; element = elements.Int } in k)) ≡ true
    by true = type_has text plain
    by false = refl

-- ---- all fields

field_has : (p : Program) (info : FieldInfo) → Links p → IsField 0 p.classes info → has_kind info.kind ≡ true
field_has p info links h =
    let rules = numbered (λ x. AllNone (field_faults_at p h.class h.file x.0 x.1)) 0 h.index h.file.fields h.member
    (parts_at p h.class h.file links h.file_is).fields h.member_is in
    let plain = not_true (has_floating_type h.file.pool h.member) (passed (not (has_floating_type h.file.pool h.member)) Unsupported rules.1.1.0) in
    ap (λ (i : FieldInfo). has_kind i.kind) (sym h.is) ∙ kind_has (key_in h.file.pool h.member).descriptor plain

pub linked_fields_have_kinds : (p : Program) → Links p → HasFieldKinds (world_of p)
linked_fields_have_kinds p links = λ n f at. type_kind (world_of p) f.kind (field_has p f links (field_of 0 p.classes n f at))
