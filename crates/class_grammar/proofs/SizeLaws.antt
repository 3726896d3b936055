-- The items of a class file take just the bytes that the file has in front of its own attributes.
use Rattle.std.proofs.Common.{◌≡◌, ℕ, ◌+◌, List, [], ◌∷◌, ◌++◌, length, refl, arith}
use Rattle.std.specs.Prelude.{map}
use Rattle.std.specs.List.{flat_map}
use Rattle.std.proofs.lemmas.List.{length-append}
use Rattle.class_model.specs.declared.constant.Const.{Const}
use Rattle.class_model.specs.declared.constant.Const.TheVariants.{Utf8}
use Rattle.class_model.specs.declared.attribute.Attribute.{Attribute}
use Rattle.class_model.specs.declared.attribute.Body.{Body}
use Rattle.class_model.specs.declared.attribute.Body.TheVariants.{Code, Constant, Other}
use Rattle.class_model.specs.declared.attribute.CodeBody.{CodeBody}
use Rattle.class_model.specs.declared.attribute.CodeAttribute.{CodeAttribute}
use Rattle.class_model.specs.declared.member.Member.{Member}
use Rattle.class_model.specs.declared.class_file.ClassFile.{ClassFile}
use Rattle.jvm_utf8.specs.Text.{unit, text}
use Rattle.class_grammar.specs.Layout.{u2, u4, table, length_and_bytes, constant, row, code_attribute, code, body, attribute, member, class_file}
use Rattle.class_grammar.specs.Checks.{Item, sound_bytes, u2_item, class_fault, constant_items, class_items, row_items, extra_items, code_items, body_items, attribute_items, attributes_items, field_items, method_items, member_items, pool_items, items, size_of}

size_of-append : (a b : List Item) → size_of (a ++ b) ≡ size_of a + size_of b
size_of-append [] b = omega arith
size_of-append (i ∷ is) b = omega (arith, size_of-append is b)

flat_size : {X : Type 0} (f : X → List Item) (g : X → List ℕ) → ((x : X) → size_of (f x) ≡ length (g x)) → (xs : List X) → size_of (flat_map f xs) ≡ length (flat_map g xs)
flat_size f g each [] = refl
flat_size f g each (x ∷ xs) = omega (arith, size_of-append (f x) (flat_map f xs), length-append (g x) (flat_map g xs), each x, flat_size f g each xs)

units_size : (us : List ℕ) → size_of (map (λ u. sound_bytes (length (unit u))) us) ≡ length (text us)
units_size [] = refl
units_size (u ∷ us) = omega (arith, length-append (unit u) (text us), units_size us)

constant_size : (pool : List Const) (c : Const) → size_of (constant_items pool c) ≡ length (constant c)
constant_size pool (Utf8 us) = omega (arith, units_size us)
constant_size pool c = omega arith

entries_size : (pool : List Const) (entries : List ℕ) → size_of (map (λ index. u2_item (class_fault pool index)) entries) ≡ length (flat_map u2 entries)
entries_size pool [] = refl
entries_size pool (p ∷ ps) = omega (arith, entries_size pool ps)

extra_size : (a : CodeAttribute) → size_of (extra_items a) ≡ length (code_attribute a)
extra_size a = omega arith

code_size : (pool : List Const) (c : CodeBody) → size_of (code_items pool c) ≡ length (code c)
code_size pool c =
    let rows = flat_map row c.rows in
    let extras = flat_map code_attribute c.attributes in
    omega (
      arith,
      size_of-append (flat_map (row_items pool (length c.code)) c.rows) (sound_bytes 2 ∷ flat_map extra_items c.attributes),
      flat_size (row_items pool (length c.code)) row (λ r. omega arith) c.rows,
      flat_size extra_items code_attribute extra_size c.attributes,
      length-append ((u2 c.max_stack ++ u2 c.max_locals ++ length_and_bytes c.code) ++ table row c.rows) (table code_attribute c.attributes),
      length-append (u2 c.max_stack ++ u2 c.max_locals ++ length_and_bytes c.code) (table row c.rows),
    )

body_size : (pool : List Const) (m : Member) (b : Body) → size_of (body_items pool m b) ≡ length (body b)
body_size pool m (Code c) = code_size pool c
body_size pool m (Constant value) = omega arith
body_size pool m (Other bytes) = omega arith

attribute_size : (pool : List Const) (m : Member) (a : Attribute) → size_of (attribute_items pool m a) ≡ length (attribute a)
attribute_size pool m a = omega (arith, body_size pool m a.body)

attributes_size : (pool : List Const) (m : Member) → size_of (attributes_items pool m) ≡ length (table attribute m.attributes)
attributes_size pool m = omega (arith, flat_size (attribute_items pool m) attribute (attribute_size pool m) m.attributes)

field_size : (pool : List Const) (m : Member) → size_of (field_items pool m) ≡ length (member m)
field_size pool m = omega (arith, attributes_size pool m)

method_size : (pool : List Const) (m : Member) → size_of (method_items pool m) ≡ length (member m)
method_size pool m = omega (arith, attributes_size pool m)

member_size : (f : ClassFile) → size_of (member_items f) ≡ length (table member f.fields ++ table member f.methods)
member_size f =
    omega (
      arith,
      size_of-append (flat_map (field_items f.pool) f.fields) (sound_bytes 2 ∷ flat_map (method_items f.pool) f.methods),
      flat_size (field_items f.pool) member (field_size f.pool) f.fields,
      flat_size (method_items f.pool) member (method_size f.pool) f.methods,
      length-append (table member f.fields) (table member f.methods),
    )

class_size : (f : ClassFile) → size_of (class_items f) ≡ 6 + length (table u2 f.interfaces)
class_size f = omega (arith, entries_size f.pool f.interfaces)

pool_size : (f : ClassFile) → size_of (pool_items f) ≡ 8 + length (table constant f.pool)
pool_size f = omega (arith, flat_size (constant_items f.pool) constant (constant_size f.pool) f.pool)

parts_length : (m i j t f o p a b c d : List ℕ) → length (m ++ i ++ j ++ t ++ f ++ o ++ p ++ a ++ b ++ c ++ d)
    ≡ length m + length i + length j + length t + length f + length o + length p + length a + length (b ++ c) + length d
parts_length m i j t f o p a b c d = simp length-append (omega arith)

file_length : (f : ClassFile) → length (class_file f) ≡ 14 + length (table constant f.pool) + length (table u2 f.interfaces) + length (table member f.fields ++ table member f.methods) + length (table attribute f.attributes)
file_length f =
    omega (arith, parts_length (u4 0xcafebabe) (u2 f.minor) (u2 f.major) (table constant f.pool) (u2 f.flags) (u2 f.own) (u2 f.parent) (table u2 f.interfaces) (table member f.fields) (table member f.methods) (table attribute f.attributes))

pub whole : (f : ClassFile) → size_of (items f) + length (table attribute f.attributes) ≡ length (class_file f)
whole f = omega (arith, size_of-append (pool_items f) (class_items f ++ member_items f), size_of-append (class_items f) (member_items f), pool_size f, class_size f, member_size f, file_length f)
