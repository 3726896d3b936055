-- What a linked world has when a program begins.
use Rattle.std.proofs.Common.{◌≡◌, ℕ, zero, suc, ◌+◌, ◌≤◌, Bool, true, false, List, [], ◌∷◌, Option, Some, None, refl, ap, sym, ◌∙◌, arith}
use Rattle.std.specs.Prelude.{codes, is_none, option_and_then, position, slice_get, ◌==◌, ◌&&◌, if◌then◌else◌}
use Rattle.std.specs.List.{enumerate_from}
use Rattle.std.specs.Option.{option_map_or}
use Rattle.items.specs.First.{Each}
use Rattle.items.proofs.Binds.{some_is}
use Rattle.class_model.specs.declared.access_flags.TheConstants.{ACC_PUBLIC, ACC_STATIC}
use Rattle.class_model.specs.declared.class_file.ClassFile.{ClassFile}
use Rattle.class_model.specs.declared.member.Member.{Member}
use Rattle.class_grammar.specs.Text.{same_text}
use Rattle.descriptors.specs.Meaning.{signature_of}
use Rattle.link_rules.specs.declared.place.MemberPlace.{MemberPlace}
use Rattle.link_rules.specs.Program.{Program, class_named, has_flag}
use Rattle.link_rules.specs.Members.{is_static, declared_method, has_method, method_number}
use Rattle.stack_maps.specs.declared.types.Base.{Base}
use Rattle.link_model.specs.declared.members.MethodInfo.{MethodInfo}
use Rattle.link_model.specs.declared.sites.ArrayType.{ArrayType}
use Rattle.link_model.specs.Infos.{method_info, methods_of}
use Rattle.link_model.specs.Initializers.{is_initializer, is_of_initializer}
use Rattle.link_model.specs.MainMethod.{takes_strings, is_of_main, is_main, main_of}
use Rattle.link_model.specs.Numbering.{base_at, arrays_of_base, numbering_of}
use Rattle.link_model.specs.World.{World}
use Rattle.link_model.specs.Worlds.{world_of}
use Rattle.verify_types.proofs.ListLaws.{and_true, each_all, each_join, flat_each}
use Rattle.ref_model.specs.Opening.{class_order, initializer_key, static_at, initializer_of, initializers}
use Rattle.frame_soundness.specs.EventLaws.{HasDimensions}
use Rattle.step_soundness.specs.OpeningLaws.{IsMain, IsClassInitializer}
use Rattle.step_soundness.proofs.MethodNumbers.{number_at}
use Rattle.step_soundness.proofs.Selections.{position_found, each_found, declared_has}

-- ---- array types

one_at_least : (n : ℕ) → 1 ≤ suc n
one_at_least n = omega arith

base_dimensions : (base : Base) (n : ℕ) → Each (λ (a : ArrayType). 1 ≤ a.dimensions) (arrays_of_base base n)
base_dimensions base zero = tt
base_dimensions base (suc n) =
    each_join (λ (a : ArrayType). 1 ≤ a.dimensions) (arrays_of_base base n) (record { dimensions = suc n; base = base } ∷ [])
    (base_dimensions base n) (one_at_least n, tt)

pub dimensions_are_there : (p : Program) → HasDimensions (world_of p)
dimensions_are_there p =
    flat_each (λ (a : ArrayType). 1 ≤ a.dimensions) (λ (x : ℕ × ℕ). arrays_of_base (base_at x.0) x.1) (enumerate_from 0 (numbering_of p).depths)
    (each_all (λ (x : ℕ × ℕ). Each (λ (a : ArrayType). 1 ≤ a.dimensions) (arrays_of_base (base_at x.0) x.1))
    (λ x. base_dimensions (base_at x.0) x.1) (enumerate_from 0 (numbering_of p).depths))

-- ---- main

pub main_is_found : (w : World) (name : List ℕ) (n : ℕ) → main_of w name ≡ Some n → IsMain w n
main_is_found w name n e = by (class_named w.program name) e
  where
    by : (o : Option ℕ) → option_and_then (λ c. position (is_main c) w.methods) o ≡ Some n → IsMain w n
    by None e = absurd cc
    by (Some c) e =
        let h = position_found (is_main c) w.methods n e in
        let m = h.item in
        let last = and_true (m.class == c && has_flag ACC_PUBLIC m.flags && has_flag ACC_STATIC m.flags && same_text m.name (codes "main"))
        (is_of_main m.signature) h.passes in
        let named = and_true (m.class == c && has_flag ACC_PUBLIC m.flags && has_flag ACC_STATIC m.flags) (same_text m.name (codes "main")) last.0 in
        let flags = and_true (m.class == c && has_flag ACC_PUBLIC m.flags) (has_flag ACC_STATIC m.flags) named.0 in
        record {
          method = m;
          at = h.at;
          flag = flags.1;
          takes = (and_true (takes_strings m.signature.args) (is_none m.signature.result) last.1).0;
        }

-- ---- class initializers

same_number : (a b : ℕ) → ◌≡◌ {A = Option ℕ} (Some a) (Some b) → a ≡ b
same_number a b e = cc

if_some : (b : Bool) (n m : ℕ) → (if b then Some n else None) ≡ Some m → (b ≡ true) × (n ≡ m)
if_some true n m e = (refl, same_number n m e)
if_some false n m e = absurd cc

nothing_taken : (signature_of (codes "()V")).args ≡ []
nothing_taken = refl

-- what is asked of a member for its method to be static
static_is : (p : Program) (at : MemberPlace) (f : ClassFile) (m : Member) → slice_get p.classes at.class ≡ Some f
    → slice_get f.methods at.index ≡ Some m → has_method is_static p at ≡ true → is_static m ≡ true
static_is p at f m file member e =
    sym (ap (λ o. option_map_or is_static (option_map_or (λ (g : ClassFile). slice_get g.methods at.index) o None) false) file
    ∙ ap (λ o. option_map_or is_static o false) member) ∙ e

is_such : (m : MethodInfo) → has_flag ACC_STATIC m.flags ≡ true → same_text m.name (codes "<clinit>") ≡ true → is_of_initializer m.signature ≡ true
    → is_initializer m ≡ true
is_such m flag name takes =
    ap (λ b. b && same_text m.name (codes "<clinit>") && is_of_initializer m.signature) flag ∙ ap (λ b. b && is_of_initializer m.signature) name ∙ takes

initializer_is : (w : World) (class n : ℕ) → w.methods ≡ methods_of w.program → initializer_of w.program class ≡ Some n → IsClassInitializer w n
initializer_is w class n methods e =
    let p = w.program in
    let at = some_is (declared_method p initializer_key class) (static_at p) n e in
    let key = declared_has p initializer_key class at.0 at.1 in
    let test = if_some (has_method is_static p at.0) (method_number p at.0) n at.2 in
    let flag : is_static key.member ≡ true = static_is p at.0 key.file key.member key.file_is key.member_is test.0 in
    record {
      method = method_info (0 + at.0.class) key.file.pool key.member;
      at = ap (λ (ms : List MethodInfo). slice_get ms n) methods
          ∙ ap (slice_get (methods_of p)) (sym test.1)
          ∙ number_at 0 p.classes at.0.class at.0.index key.file key.member key.file_is key.member_is;
      is = is_such (method_info (0 + at.0.class) key.file.pool key.member) flag (ap (λ s. same_text s (codes "<clinit>")) key.name)
          (ap (λ s. is_of_initializer (signature_of s)) key.descriptor);
      flag = flag;
      takes = ap (λ s. (signature_of s).args) key.descriptor ∙ nothing_taken;
    }

pub initializers_are_such : (w : World) → w.methods ≡ methods_of w.program → Each (IsClassInitializer w) (initializers w.program)
initializers_are_such w methods =
    each_found (IsClassInitializer w) (initializer_of w.program) (λ class n e. initializer_is w class n methods e) (class_order w.program)
