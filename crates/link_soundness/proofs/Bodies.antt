-- A static method of a class file has code, unless it is native (JVMS 4.6, 4.7.3).
use Rattle.std.proofs.Common.{◌≡◌, ℕ, zero, suc, ◌+◌, ◌*◌, ◌/◌, ◌%◌, bit_and, Bool, true, false, not, List, [], ◌∷◌, ◌++◌, Some, None, refl, ap, sym, ◌∙◌, arith}
use Rattle.std.specs.Prelude.{slice_get, ◌==◌, ◌||◌, if◌then◌else◌}
use Rattle.std.specs.Option.{option_map, option_or}
use Rattle.std.specs.List.{AllByRecursion, flat_map, list_any}
use Rattle.std.proofs.lemmas.Bool.Decides.{nat_tests}
use lib.Bits.{and_step, and_zero_r, and_high}
use Rattle.items.specs.First.{Each, first_in}
use Rattle.items.proofs.FirstLaws.{passed}
use Rattle.class_model.specs.declared.attribute.Attribute.{Attribute}
use Rattle.class_model.specs.declared.attribute.Body.{Body}
use Rattle.class_model.specs.declared.attribute.Body.TheVariants as bodies
use Rattle.class_model.specs.declared.attribute.CodeBody.{CodeBody}
use Rattle.class_model.specs.declared.class_file.ClassFile.{ClassFile}
use Rattle.class_model.specs.declared.member.Member.{Member}
use Rattle.class_grammar.specs.declared.class_why.ClassWhy.TheVariants as whys
use Rattle.class_grammar.specs.Checks.{class_items, code_fault, field_items, has_no_code, is_code, items, member_items, method_items, pool_items, sound_bytes}
use Rattle.class_grammar.specs.Grammar.{IsSound}
use Rattle.lib_table.specs.Spelled.{IsSpelled}
use Rattle.link_rules.specs.Members.{is_abstract_method, is_native}
use Rattle.link_model.specs.declared.members.MethodCode.{MethodCode}
use Rattle.link_model.specs.Codes.{code_in, code_of, code_of_body}
use Rattle.verify_types.proofs.ListLaws.{each_flat, each_split}
use Rattle.link_soundness.proofs.LinkedCode.{each_at}

-- ---- nothing is wrong with a method of a class file

pub each_of_all : {A : Type 0} (P : A → Type 0) (xs : List A) → AllByRecursion P xs → Each P xs
each_of_all P [] h = tt
each_of_all P (x ∷ xs) h = (h.0, each_of_all P xs h.1)

checked_method : (f : ClassFile) (i : ℕ) (m : Member) → IsSpelled f → slice_get f.methods i ≡ Some m → code_fault m ≡ None
checked_method f i m spelled member =
    let all = each_of_all IsSound (items f) spelled.1.sound in
    let behind = (each_split IsSound (pool_items f) (class_items f ++ member_items f) all).1 in
    let members = (each_split IsSound (class_items f) (member_items f) behind).1 in
    let methods = (each_split IsSound (flat_map (field_items f.pool) f.fields) (sound_bytes 2 ∷ flat_map (method_items f.pool) f.methods) members.1).1 in
    (each_at (λ x. Each IsSound (method_items f.pool x)) f.methods i m (each_flat IsSound (method_items f.pool) f.methods methods.1) member).0

-- ---- flags

bits_1 : (n : ℕ) → bit_and n 5 ≡ bit_and n 1 + bit_and n 4
bits_1 n = omega (arith, and_step n 5, and_step n 1, and_step n 4, and_zero_r (n / 2))

bits_2 : (n : ℕ) → bit_and n 10 ≡ bit_and n 2 + bit_and n 8
bits_2 n = omega (arith, and_step n 10, and_step n 2, and_step n 8, bits_1 (n / 2))

bits_4 : (n : ℕ) → bit_and n 20 ≡ bit_and n 4 + bit_and n 16
bits_4 n = omega (arith, and_step n 20, and_step n 4, and_step n 16, bits_2 (n / 2))

bits_8 : (n : ℕ) → bit_and n 40 ≡ bit_and n 8 + bit_and n 32
bits_8 n = omega (arith, and_step n 40, and_step n 8, and_step n 32, bits_4 (n / 2))

bits_16 : (n : ℕ) → bit_and n 80 ≡ bit_and n 16 + bit_and n 64
bits_16 n = omega (arith, and_step n 80, and_step n 16, and_step n 64, bits_8 (n / 2))

bits_32 : (n : ℕ) → bit_and n 160 ≡ bit_and n 32 + bit_and n 128
bits_32 n = omega (arith, and_step n 160, and_step n 32, and_step n 128, bits_16 (n / 2))

bits_64 : (n : ℕ) → bit_and n 320 ≡ bit_and n 64 + bit_and n 256
bits_64 n = omega (arith, and_step n 320, and_step n 64, and_step n 256, bits_32 (n / 2))

bits_128 : (n : ℕ) → bit_and n 640 ≡ bit_and n 128 + bit_and n 512
bits_128 n = omega (arith, and_step n 640, and_step n 128, and_step n 512, bits_64 (n / 2))

bits_256 : (n : ℕ) → bit_and n 1280 ≡ bit_and n 256 + bit_and n 1024
bits_256 n = omega (arith, and_step n 1280, and_step n 256, and_step n 1024, bits_128 (n / 2))

-- a bit that isn't set is 0
unset : (x q b : ℕ) → x ≡ q % 2 * b → (x == b) ≡ false → x ≡ 0
unset x q b is other = by (q % 2) refl is
  where
    by : (r : ℕ) → q % 2 ≡ r → x ≡ r * b → x ≡ 0
    by zero e is = omega arith
    by (suc zero) e is = let one : x ≡ b = omega arith in let same : (x == b) ≡ true = grind (arith, nat_tests) in absurd cc
    by (suc (suc r)) e is = absurd (omega arith)

no_flags : (m : Member) → is_native m ≡ false → is_abstract_method m ≡ false → has_no_code m.flags ≡ false
no_flags m native abstract =
    let no_native : bit_and m.flags 256 ≡ 0 = unset (bit_and m.flags 256) (m.flags / 256) 256 (and_high m.flags 1 8) native in
    let no_abstract : bit_and m.flags 1024 ≡ 0 = unset (bit_and m.flags 1024) (m.flags / 1024) 1024 (and_high m.flags 1 10) abstract in
    let none : bit_and m.flags 1280 ≡ 0 = omega (arith, bits_256 m.flags, no_native, no_abstract) in
    ap (λ n. not (n == 0)) none

-- ---- the code is there

code_among : (attributes : List Attribute) → list_any is_code attributes ≡ true → (body : CodeBody) × (first_in code_in attributes ≡ Some body)
code_among [] e = absurd cc
code_among (a ∷ attributes) e = by a.body e (λ behind. code_among attributes behind)
  where
    with_body : Body → Attribute
    with_body b = record { name = a.name; body = b }

    by : (b : Body) → (is_code (with_body b) || list_any is_code attributes) ≡ true
        → (list_any is_code attributes ≡ true → (body : CodeBody) × (first_in code_in attributes ≡ Some body))
        → (body : CodeBody) × (option_or (code_in (with_body b)) (first_in code_in attributes) ≡ Some body)
    by (bodies.Code own) e rest = (own, refl)
    by (bodies.Constant value) e rest = rest e
    by (bodies.Other bytes) e rest = rest e

pub code_there : (f : ClassFile) (i : ℕ) (m : Member) → IsSpelled f → slice_get f.methods i ≡ Some m → is_native m ≡ false → is_abstract_method m ≡ false
    → (code : MethodCode) × (code_of m ≡ Some code)
code_there f i m spelled member native abstract =
    let none = checked_method f i m spelled member in
    let has = passed (if has_no_code m.flags then not (list_any is_code m.attributes) else list_any is_code m.attributes) whys.Code none in
    let any : list_any is_code m.attributes ≡ true =
    sym (ap (λ (b : Bool). if b then not (list_any is_code m.attributes) else list_any is_code m.attributes) (no_flags m native abstract)) ∙ has in
    let body = code_among m.attributes any in
    (code_of_body body.0, ap (option_map code_of_body) body.1)
