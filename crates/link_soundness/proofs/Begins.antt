-- Main and the class initializers of a program have code (JVMS 2.9.2, 4.6, 4.7.3, JLS 12.1.4): they are static and so not abstract, no class of
-- a file has native methods, and no native method of a built-in class is one of these.
use Rattle.std.proofs.Common.{◌≡◌, ◌⊎◌, inl, inr, ℕ, zero, suc, ◌+◌, ◌≤◌, Bool, true, false, not, All, List, [], ◌∷◌, length, Option, Some, None, refl, ap, sym, subst, ◌∙◌, arith}
use Rattle.std.specs.Prelude.{codes, map, nat_le, option_and_then, slice_get, ◌&&◌, ◌||◌, if◌then◌else◌}
use Rattle.std.specs.List.{flat_map, list_all}
use Rattle.std.proofs.lemmas.Bool.{le-leb, leb-true, or_left, or_right}
use Rattle.std.proofs.lemmas.List.{length-map}
use Rattle.std.proofs.lemmas.Option.{slice_get_within, get_or_from_slice_get}
use Rattle.items.specs.First.{AllNone}
use Rattle.items.proofs.FirstLaws.{passed}
use Rattle.class_model.specs.declared.access_flags.TheConstants.{ACC_STATIC}
use Rattle.class_model.specs.declared.class_file.ClassFile.{ClassFile}
use Rattle.class_model.specs.declared.member.Member.{Member}
use Rattle.class_grammar.specs.Text.{same_text}
use Rattle.instruction_rows.specs.declared.value.Slot.{Slot}
use Rattle.instruction_rows.specs.declared.value.Slot.TheVariants.{One}
use Rattle.instruction_rows.specs.declared.value.Value.TheVariants as values
use Rattle.instruction_rows.specs.Contents.{slot_types}
use Rattle.instruction_rows.specs.Soundness.{AreOf}
use Rattle.lib_table.specs.Build as build
use Rattle.lib_table.specs.Library.{library}
use Rattle.lib_table.specs.Spelled.{IsSpelled}
use Rattle.lib_table.specs.Table.{groups}
use Rattle.lib_table.proofs.SpelledClasses.{library_spelled}
use Rattle.link_rules.specs.declared.why.LinkWhy.TheVariants.{Native, WrongKind}
use Rattle.link_rules.specs.Faults.{Links, method_faults_at}
use Rattle.link_rules.specs.Members.{is_abstract_method, is_native, is_static}
use Rattle.link_rules.specs.Program.{Program, has_flag, is_from_file}
use Rattle.link_rules.specs.Selection.{key_in}
use Rattle.link_model.specs.declared.members.MethodCode.{MethodCode}
use Rattle.link_model.specs.declared.members.MethodInfo.{MethodInfo}
use Rattle.link_model.specs.Codes.{code_of}
use Rattle.link_model.specs.Infos.{codes_in, codes_of, methods_of}
use Rattle.link_model.specs.Initializers.{is_of_initializer, is_static_method}
use Rattle.link_model.specs.MainMethod.{takes_strings}
use Rattle.link_model.specs.Worlds.{world_of}
use Rattle.stack_maps.specs.declared.types.VType.{VType}
use Rattle.verify_types.specs.Environment.{first_frame as first_types}
use Rattle.verify_types.specs.Typing.{AreTyped}
use Rattle.verify_types.proofs.ListLaws.{and_true, at_all, each_kept, not_true, numbered}
use Rattle.state_model.specs.Frames.{Frame}
use Rattle.ref_model.specs.Opening.{initializers}
use Rattle.frame_soundness.proofs.Beginnings.{begun}
use Rattle.frame_soundness.proofs.CallLaws.{static_locals}
use Rattle.step_soundness.specs.OpeningLaws.{IsClassInitializer, IsMain}
use Rattle.step_soundness.proofs.LinkedWorlds.{initializers_are_such}
use Rattle.step_soundness.proofs.Openings.{words_of}
use Rattle.step_soundness.proofs.MethodNumbers.{Behind, before, before_more, left_at, map_at, mapped_at, member_of, none_before, regrouped, right_at, split_at}
use Rattle.link_soundness.specs.Begins.{HasCode, HasLocals, MayBegin}
use Rattle.link_soundness.specs.Library.{HasLibrary}
use Rattle.link_soundness.proofs.Bodies.{code_there}
use Rattle.link_soundness.proofs.LinkedCode.{each_at}
use Rattle.link_soundness.proofs.NativeTests.{begins, begins_there, begins_with_code, class_passes, groups_pass, has_code_to_begin}
use Rattle.link_soundness.proofs.Supers.{parts_at}

-- ---- where a class of a program comes from

flat_from : {A B : Type 0} (f : A → List B) (xs : List A) (n : ℕ) (b : B) → slice_get (flat_map f xs) n ≡ Some b
    → (j : ℕ) × (i : ℕ) × (a : A) × (slice_get xs j ≡ Some a) × (slice_get (f a) i ≡ Some b)
flat_from f [] n b e = absurd cc
flat_from {A} {B} f (x ∷ xs) n b e = by (split_at (f x) (flat_map f xs) n b e) (λ rest is. flat_from f xs rest b is)
  where
    by : (slice_get (f x) n ≡ Some b) ⊎ Behind (f x) (flat_map f xs) n b
        → ((rest : ℕ) → slice_get (flat_map f xs) rest ≡ Some b → (j : ℕ) × (i : ℕ) × (a : A) × (slice_get xs j ≡ Some a) × (slice_get (f a) i ≡ Some b))
        → (j : ℕ) × (i : ℕ) × (a : A) × (slice_get (x ∷ xs) j ≡ Some a) × (slice_get (f a) i ≡ Some b)
    by (inl here) more = (0, n, x, refl, here)
    by (inr h) more = let k = more h.rest h.is in (suc k.0, k.1, k.2, k.3, k.4)

all_at : {A : Type 0} (P : A → Type 0) (xs : List A) (k : ℕ) (x : A) → All P xs → slice_get xs k ≡ Some x → P x
all_at P xs k x all e = subst P (get_or_from_slice_get xs k x x e) (all k x (slice_get_within xs k x e))

-- built in, or of a file
pub record IsKnown (p : Program) (c : ℕ) (f : ClassFile) : Type 0 where
  pub spelled : IsSpelled f
  pub origin : (begins_with_code f ≡ true) ⊎ (is_from_file p c ≡ true)

pub known : (p : Program) (c : ℕ) (f : ClassFile) → HasLibrary p → slice_get p.classes c ≡ Some f → IsKnown p c f
known p c f has file = by (split_at library has.files c f (sym (ap (λ (q : Program). slice_get q.classes c) has.is) ∙ file))
  where
    built_in : p.built_in ≡ length library
    built_in = ap (λ (q : Program). q.built_in) has.is

    later : (k l r : ℕ) → k ≡ l → c ≡ l + r → k ≤ c
    later k l r e g = omega arith

    by : (slice_get library c ≡ Some f) ⊎ Behind library has.files c f → IsKnown p c f
    by (inl here) =
        let k = flat_from (map build.class_file) groups c f here in
        let d = mapped_at build.class_file k.2 k.1 f k.4 in
        let passes = at_all class_passes k.2 k.1 d.from (each_at (λ g. list_all class_passes g ≡ true) groups k.0 k.2 groups_pass k.3) d.at in
        record { spelled = all_at IsSpelled library c f library_spelled here; origin = inl (subst (λ g. begins_with_code g ≡ true) d.is (begins_there d.from passes)) }
    by (inr b) = record {
      spelled = all_at IsSpelled has.files b.rest f has.spelled b.is;
      origin = inr (le-leb p.built_in c (later p.built_in (length library) b.rest built_in b.number));
    }

-- ---- the methods with which a program begins

not_both : (a b : Bool) → not (a && b) ≡ true → b ≡ true → a ≡ false
not_both true true e is = absurd cc
not_both true false e is = absurd cc
not_both false b e is = refl

not_after : (a b : Bool) → not (a && b) ≡ true → a ≡ true → b ≡ false
not_after true b e is = not_true b e
not_after false b e is = absurd cc

method_begins : (p : Program) (c i : ℕ) (f : ClassFile) (m : Member) → Links p → HasLibrary p → slice_get p.classes c ≡ Some f
    → slice_get f.methods i ≡ Some m → is_static m ≡ true → begins (key_in f.pool m) ≡ true → (code : MethodCode) × (code_of m ≡ Some code)
method_begins p c i f m links has file member static begin =
    let rules = numbered (λ x. AllNone (method_faults_at p c f x.0 x.1)) 0 i f.methods m (parts_at p c f links file).methods member in
    let abstract = not_both (is_abstract_method m) (is_static m) (passed (not (is_abstract_method m && is_static m)) WrongKind rules.1.0) static in
    let k = known p c f has file in
    code_there f i m k.spelled member (by k.origin (passed (not (is_from_file p c && is_native m)) Native rules.1.1.1.0)) abstract
  where
    by : (begins_with_code f ≡ true) ⊎ (is_from_file p c ≡ true) → not (is_from_file p c && is_native m) ≡ true → is_native m ≡ false
    by (inl passes) rule = not_both (is_native m) (begins (key_in f.pool m)) (at_all (has_code_to_begin f.pool) f.methods i m passes member) begin
    by (inr from_file) rule = not_after (is_from_file p c) (is_native m) rule from_file

-- the code of a number
code_numbered : (files : List ClassFile) (c i : ℕ) (f : ClassFile) (m : Member) → slice_get files c ≡ Some f → slice_get f.methods i ≡ Some m
    → slice_get (flat_map codes_in files) (before files c + i) ≡ Some (code_of m)
code_numbered [] c i f m file member = absurd cc
code_numbered (x ∷ xs) zero i f m file member =
    let same : x ≡ f = cc in
    ap (slice_get (flat_map codes_in (x ∷ xs))) (none_before i)
    ∙ left_at (codes_in x) (flat_map codes_in xs) i (code_of m) (map_at code_of x.methods i m (ap (λ (g : ClassFile). slice_get g.methods i) same ∙ member))
code_numbered (x ∷ xs) (suc c) i f m file member =
    let number : before (x ∷ xs) (suc c) + i ≡ length (codes_in x) + (before xs c + i) =
    ap (λ n. n + i) (before_more (λ (g : ClassFile). g.methods) x xs c) ∙ regrouped (length x.methods) (before xs c) i
    ∙ ap (λ n. n + (before xs c + i)) (sym (length-map x.methods code_of)) in
    ap (slice_get (flat_map codes_in (x ∷ xs))) number ∙ right_at (codes_in x) (flat_map codes_in xs) (before xs c + i) ∙ code_numbered xs c i f m file member

has_code : (p : Program) (n : ℕ) (info : MethodInfo) → Links p → HasLibrary p → slice_get (methods_of p) n ≡ Some info → has_flag ACC_STATIC info.flags ≡ true
    → (takes_strings info.signature.args || same_text info.name (codes "<clinit>")) ≡ true → HasCode (world_of p) n
has_code p n info links has at flag begin =
    let h = member_of 0 p.classes n info at in
    let static : is_static h.member ≡ true = ap (λ (i : MethodInfo). has_flag ACC_STATIC i.flags) h.is ∙ flag in
    let key = key_in h.file.pool h.member in
    let begins_so : begins key ≡ true = ap (λ (i : MethodInfo). takes_strings i.signature.args || same_text i.name (codes "<clinit>")) h.is ∙ begin in
    let code = method_begins p h.class h.index h.file h.member links has h.file_is h.member_is static begins_so in
    let numbered_so : slice_get (codes_of p) n ≡ Some (code_of h.member) =
    ap (slice_get (codes_of p)) h.number ∙ code_numbered p.classes h.class h.index h.file h.member h.file_is h.member_is in
    (code.0, ap (option_and_then (λ (c : Option MethodCode). c)) (numbered_so ∙ ap (λ (c : Option MethodCode). Some c) code.1))

initializer_has : (p : Program) (n : ℕ) → Links p → HasLibrary p → IsClassInitializer (world_of p) n → HasCode (world_of p) n
initializer_has p n links has is =
    let m = is.method in
    let named = (and_true (is_static_method m && same_text m.name (codes "<clinit>")) (is_of_initializer m.signature) is.is).0 in
    let name = (and_true (is_static_method m) (same_text m.name (codes "<clinit>")) named).1 in
    has_code p n m links has is.at is.flag (or_right (takes_strings m.signature.args) (same_text m.name (codes "<clinit>")) name)

-- ---- main has a local variable for its array

some_local : (b : Bool) (x : Option Frame) (f : Frame) → (if b then x else None) ≡ Some f → b ≡ true
some_local true x f e = refl
some_local false x f e = absurd cc

main_has : (p : Program) (n : ℕ) → Links p → HasLibrary p → AreTyped (world_of p) → IsMain (world_of p) n → HasLocals (world_of p) n
main_has p n links has typed main =
    let w = world_of p in
    let m = main.method in
    let code = has_code p n m links has main.at main.flag (or_left (takes_strings m.signature.args) (same_text m.name (codes "<clinit>")) main.takes) in
    let slots : List Slot = One (values.Ref 0) ∷ [] in
    let first : AreOf (slot_types (first_types w m).locals) slots =
    subst (λ (ts : List VType). AreOf (slot_types ts) slots) (sym (static_locals w m main.flag)) (words_of w m.signature.args 0 main.takes) in
    let b = begun w n m code.0 slots typed main.at code.1 first in
    let room : 1 ≤ code.0.max_locals = leb-true 1 code.0.max_locals (some_local (nat_le 1 code.0.max_locals) _ b.frame b.is) in
    (code.0, code.1, omega arith)

-- ---- all of it

pub linked_programs_begin : (p : Program) → Links p → HasLibrary p → AreTyped (world_of p) → MayBegin (world_of p)
linked_programs_begin p links has typed = record {
  main = λ n main. main_has p n links has typed main;
  initializers = each_kept (IsClassInitializer (world_of p)) (HasCode (world_of p)) (λ n is. initializer_has p n links has is) (initializers p)
      (initializers_are_such (world_of p) refl);
}
