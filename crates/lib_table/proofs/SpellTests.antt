-- A test that a class file passes only if it has a spelling. It covers what the built-in classes have, so that each of them passes by
-- computation.
use Rattle.std.proofs.Common.{◌≡◌, ◌<◌, ◌^◌, ℕ, zero, suc, Bool, true, false, List, [], ◌∷◌, length, Option, Some, None, is_none, All, ◌&&◌, nat_lt, refl, arith, lit<}
use Rattle.std.specs.Option.{option_map_or}
use Rattle.std.proofs.lemmas.Bool.{ltb-true}
use Rattle.std.specs.List.{list_all, AllByRecursion}
use Rattle.class_model.specs.declared.constant.Const.{Const}
use Rattle.class_model.specs.declared.constant.Const.TheVariants.{Unused, Utf8, Class, Text, Fieldref, Methodref, InterfaceMethodref, NameAndType}
use Rattle.class_model.specs.declared.attribute.Attribute.{Attribute}
use Rattle.class_model.specs.declared.attribute.Body.{Body}
use Rattle.class_model.specs.declared.attribute.Body.TheVariants.{Code, Constant, Other}
use Rattle.class_model.specs.declared.attribute.CodeBody.{CodeBody}
use Rattle.class_model.specs.declared.attribute.Row.{Row}
use Rattle.class_model.specs.declared.attribute.CodeAttribute.{CodeAttribute}
use Rattle.class_model.specs.declared.member.Member.{Member}
use Rattle.class_model.specs.declared.class_file.ClassFile.{ClassFile}
use Rattle.class_grammar.specs.declared.holder.Holder.{Holder}
use Rattle.class_grammar.specs.declared.holder.Holder.TheVariants as holders
use Rattle.jvm_utf8.specs.Text as utf8
use Rattle.class_grammar.specs.Pool.{text_at}
use Rattle.class_grammar.specs.Layout.{code_extra, body, class_file}
use Rattle.class_grammar.specs.Ranges.{IsU1, IsU2, IsU4, IsTable, IsSized, IsConstant, AreEntries, IsPool, IsRow, IsCodeAttribute, IsCode, IsBody, IsAttribute, IsMember, IsVersion, IsInRange}
use Rattle.class_grammar.specs.Attributes.{has_body_name, is_extra_of_name, at_most_one, is_map, is_recognized_body, AreExtras, HasOwnAttributes, IsAttributeAt, AreAttributesAt, AreMembers, HasAttributes}
use Rattle.class_grammar.specs.Checks.{Item, items}
use Rattle.class_grammar.specs.Grammar.{IsSound}
use Rattle.lib_table.specs.Spelled.{IsSpelled}

-- ---- tests in general

both : (a b : Bool) → (a && b) ≡ true → (a ≡ true) × (b ≡ true)
both true true e = (refl, refl)
both true false e = cc
both false b e = cc

by_test : {X : Type 0} {P : X → Type 0} (test : X → Bool) → ((x : X) → test x ≡ true → P x) → (xs : List X) → list_all test xs ≡ true → AllByRecursion P xs
by_test test sound [] e = tt
by_test test sound (x ∷ xs) e = let h = both (test x) (list_all test xs) e in (sound x h.0, by_test test sound xs h.1)

pub all_by_test : {X : Type 0} {P : X → Type 0} (test : X → Bool) → ((x : X) → test x ≡ true → P x) → (xs : List X) → list_all test xs ≡ true → All P xs
all_by_test test sound [] e k d below = absurd (omega arith)
all_by_test test sound (x ∷ xs) e zero d below = sound x (both (test x) (list_all test xs) e).0
all_by_test test sound (x ∷ xs) e (suc k) d below =
    let shorter : k < length xs = omega arith in
    all_by_test test sound xs (both (test x) (list_all test xs) e).1 k d shorter

-- ---- numbers

abbrev is_u1 : ℕ → Bool
is_u1 n = nat_lt n (2 ^ 8)

u1 : (n : ℕ) → is_u1 n ≡ true → IsU1 n
u1 n e = ltb-true n (2 ^ 8) e

abbrev is_u2 : ℕ → Bool
is_u2 n = nat_lt n (2 ^ 16)

u2 : (n : ℕ) → is_u2 n ≡ true → IsU2 n
u2 n e = ltb-true n (2 ^ 16) e

abbrev is_u4 : ℕ → Bool
is_u4 n = nat_lt n (2 ^ 32)

u4 : (n : ℕ) → is_u4 n ≡ true → IsU4 n
u4 n e = ltb-true n (2 ^ 32) e

two : (m n : ℕ) → (is_u2 m && is_u2 n) ≡ true → IsU2 m × IsU2 n
two m n e = let h = both (is_u2 m) (is_u2 n) e in (u2 m h.0, u2 n h.1)

abbrev is_table : {X : Type 0} → (X → Bool) → List X → Bool
is_table test xs = is_u2 (length xs) && list_all test xs

table : {X : Type 0} {P : X → Type 0} (test : X → Bool) → ((x : X) → test x ≡ true → P x) → (xs : List X) → is_table test xs ≡ true → IsTable P xs
table test sound xs e = let h = both (is_u2 (length xs)) (list_all test xs) e in (u2 (length xs) h.0, by_test test sound xs h.1)

-- ---- the pool

abbrev is_constant : Const → Bool
is_constant (Utf8 units) = list_all is_u2 units && is_u2 (length (utf8.text units))
is_constant (Class name) = is_u2 name
is_constant (Text text) = is_u2 text
is_constant (Fieldref class member) = is_u2 class && is_u2 member
is_constant (Methodref class member) = is_u2 class && is_u2 member
is_constant (InterfaceMethodref class member) = is_u2 class && is_u2 member
is_constant (NameAndType name descriptor) = is_u2 name && is_u2 descriptor
is_constant c = false

constant : (c : Const) → is_constant c ≡ true → IsConstant c
constant (Utf8 units) e = let h = both (list_all is_u2 units) (is_u2 (length (utf8.text units))) e in (by_test is_u2 u2 units h.0, u2 _ h.1)
constant (Class name) e = u2 name e
constant (Text text) e = u2 text e
constant (Fieldref class member) e = two class member e
constant (Methodref class member) e = two class member e
constant (InterfaceMethodref class member) e = two class member e
constant (NameAndType name descriptor) e = two name descriptor e
constant c e = cc

-- constants of one entry each
entry : (c : Const) (cs : List Const) → is_constant c ≡ true → AreEntries false cs → AreEntries false (c ∷ cs)
entry (Utf8 units) cs e h = h
entry (Class name) cs e h = h
entry (Text text) cs e h = h
entry (Fieldref class member) cs e h = h
entry (Methodref class member) cs e h = h
entry (InterfaceMethodref class member) cs e h = h
entry (NameAndType name descriptor) cs e h = h
entry c cs e h = cc

entries : (cs : List Const) → list_all is_constant cs ≡ true → AreEntries false cs
entries [] e = refl
entries (c ∷ cs) e = let h = both (is_constant c) (list_all is_constant cs) e in entry c cs h.0 (entries cs h.1)

abbrev is_pool : List Const → Bool
is_pool (Unused ∷ cs) = is_u2 (length (Unused ∷ cs)) && list_all is_constant cs
is_pool pool = false

pool_of : (cs : List Const) → is_pool cs ≡ true → IsPool cs
pool_of (Unused ∷ cs) e =
    let h = both (is_u2 (length (Unused ∷ cs))) (list_all is_constant cs) e in
    ((u2 (length (Unused ∷ cs)) h.0, (tt, by_test is_constant constant cs h.1)), entries cs h.1)
pool_of cs e = cc

-- ---- attributes

abbrev is_bytes : List ℕ → Bool
is_bytes bytes = is_u4 (length bytes) && list_all is_u1 bytes

sized : (bytes : List ℕ) → is_bytes bytes ≡ true → IsSized bytes
sized bytes e = let h = both (is_u4 (length bytes)) (list_all is_u1 bytes) e in (u4 (length bytes) h.0, by_test is_u1 u1 bytes h.1)

abbrev is_code_attribute : CodeAttribute → Bool
is_code_attribute a = is_u2 a.name && is_bytes (code_extra a.body)

code_attribute : (a : CodeAttribute) → is_code_attribute a ≡ true → IsCodeAttribute a
code_attribute a e = let h = both (is_u2 a.name) (is_bytes (code_extra a.body)) e in record { name = u2 a.name h.0; contents = sized (code_extra a.body) h.1 }

-- no built-in class has a row of an exception table
abbrev is_empty : {X : Type 0} → List X → Bool
is_empty [] = true
is_empty (x ∷ xs) = false

no_rows : (rows : List Row) → is_empty rows ≡ true → IsTable IsRow rows
no_rows [] e = (lit< tt, tt)
no_rows (r ∷ rs) e = cc

abbrev is_code_array : List ℕ → Bool
is_code_array code = nat_lt 0 (length code) && (is_u2 (length code) && list_all is_u1 code)

code_array : (code : List ℕ) → is_code_array code ≡ true → (0 < length code) × IsU2 (length code) × AllByRecursion IsU1 code
code_array code e =
    let h = both (nat_lt 0 (length code)) (is_u2 (length code) && list_all is_u1 code) e in
    let k = both (is_u2 (length code)) (list_all is_u1 code) h.1 in
    (ltb-true 0 (length code) h.0, u2 (length code) k.0, by_test is_u1 u1 code k.1)

abbrev is_code : CodeBody → Bool
is_code c = (is_u2 c.max_stack && is_u2 c.max_locals) && (is_code_array c.code && (is_empty c.rows && is_table is_code_attribute c.attributes))

code : (c : CodeBody) → is_code c ≡ true → IsCode c
code c e =
    let h = both (is_u2 c.max_stack && is_u2 c.max_locals) (is_code_array c.code && (is_empty c.rows && is_table is_code_attribute c.attributes)) e in
    let k = both (is_code_array c.code) (is_empty c.rows && is_table is_code_attribute c.attributes) h.1 in
    let m = both (is_empty c.rows) (is_table is_code_attribute c.attributes) k.1 in
    record {
      max_stack = u2 c.max_stack (both (is_u2 c.max_stack) (is_u2 c.max_locals) h.0).0;
      max_locals = u2 c.max_locals (both (is_u2 c.max_stack) (is_u2 c.max_locals) h.0).1;
      code = code_array c.code k.0;
      rows = no_rows c.rows m.0;
      attributes = table is_code_attribute code_attribute c.attributes m.1;
    }

abbrev is_body : Body → Bool
is_body (Code c) = is_code c
is_body (Constant value) = is_u2 value
is_body (Other bytes) = list_all is_u1 bytes

body_of : (b : Body) → is_body b ≡ true → IsBody b
body_of (Code c) e = code c e
body_of (Constant value) e = u2 value e
body_of (Other bytes) e = by_test is_u1 u1 bytes e

abbrev is_attribute : Attribute → Bool
is_attribute a = is_u2 a.name && (is_body a.body && is_u4 (length (body a.body)))

attribute : (a : Attribute) → is_attribute a ≡ true → IsAttribute a
attribute a e =
    let h = both (is_u2 a.name) (is_body a.body && is_u4 (length (body a.body))) e in
    let k = both (is_body a.body) (is_u4 (length (body a.body))) h.1 in
    record { name = u2 a.name h.0; contents = body_of a.body k.0; size = u4 (length (body a.body)) k.1 }

-- ---- members, and the file

abbrev is_member : Member → Bool
is_member m = is_u2 m.flags && ((is_u2 m.name && is_u2 m.descriptor) && is_table is_attribute m.attributes)

member : (m : Member) → is_member m ≡ true → IsMember m
member m e =
    let h = both (is_u2 m.flags) ((is_u2 m.name && is_u2 m.descriptor) && is_table is_attribute m.attributes) e in
    let k = both (is_u2 m.name && is_u2 m.descriptor) (is_table is_attribute m.attributes) h.1 in
    let n = two m.name m.descriptor k.0 in
    record { flags = u2 m.flags h.0; name = n.0; descriptor = n.1; attributes = table is_attribute attribute m.attributes k.1 }

-- a version between Java 12 and 25
abbrev is_version : ℕ → ℕ → Bool
is_version minor major = nat_lt minor 1 && (nat_lt 55 major && nat_lt major 70)

version : (minor major : ℕ) → is_version minor major ≡ true → IsVersion minor major
version minor major e =
    let h = both (nat_lt minor 1) (nat_lt 55 major && nat_lt major 70) e in
    let k = both (nat_lt 55 major) (nat_lt major 70) h.1 in
    let small : minor < 1 = ltb-true minor 1 h.0 in
    let zero_minor : minor ≡ 0 = omega arith in
    let above : 55 < major = ltb-true 55 major k.0 in
    let below : major < 70 = ltb-true major 70 k.1 in
    (omega arith, omega arith, omega arith, λ _. zero_minor)

abbrev is_in_range : ClassFile → Bool
is_in_range f =
    (is_version f.minor f.major && is_pool f.pool) && ((is_u2 f.flags && (is_u2 f.own && is_u2 f.parent))
    && ((is_table is_u2 f.interfaces && is_table is_member f.fields) && (is_table is_member f.methods && is_table is_attribute f.attributes)))

in_range : (f : ClassFile) → is_in_range f ≡ true → IsInRange f
in_range f e =
    let h = both (is_version f.minor f.major && is_pool f.pool) ((is_u2 f.flags && (is_u2 f.own && is_u2 f.parent)) && ((is_table is_u2 f.interfaces && is_table is_member f.fields) && (is_table is_member f.methods && is_table is_attribute f.attributes))) e in
    let head = both (is_version f.minor f.major) (is_pool f.pool) h.0 in
    let k = both (is_u2 f.flags && (is_u2 f.own && is_u2 f.parent)) ((is_table is_u2 f.interfaces && is_table is_member f.fields) && (is_table is_member f.methods && is_table is_attribute f.attributes)) h.1 in
    let itself = both (is_u2 f.flags) (is_u2 f.own && is_u2 f.parent) k.0 in
    let names = two f.own f.parent itself.1 in
    let m = both (is_table is_u2 f.interfaces && is_table is_member f.fields) (is_table is_member f.methods && is_table is_attribute f.attributes) k.1 in
    let front = both (is_table is_u2 f.interfaces) (is_table is_member f.fields) m.0 in
    let back = both (is_table is_member f.methods) (is_table is_attribute f.attributes) m.1 in
    record {
      version = version f.minor f.major head.0;
      pool = pool_of f.pool head.1;
      flags = u2 f.flags itself.0;
      own = names.0;
      parent = names.1;
      interfaces = table is_u2 u2 f.interfaces front.0;
      fields = table is_member member f.fields front.1;
      methods = table is_member member f.methods back.0;
      attributes = table is_attribute attribute f.attributes back.1;
    }

-- ---- attributes by their names

abbrev are_extras : List Const → List CodeAttribute → Bool
are_extras pool extras = list_all (is_extra_of_name pool) extras && at_most_one (λ (a : CodeAttribute). is_map a.body) false extras

extras_of : (pool : List Const) (extras : List CodeAttribute) → are_extras pool extras ≡ true → AreExtras pool false extras
extras_of pool extras e =
    let h = both (list_all (is_extra_of_name pool) extras) (at_most_one (λ (a : CodeAttribute). is_map a.body) false extras) e in
    record { named = by_test (is_extra_of_name pool) (λ a k. k) extras h.0; single = h.1 }

abbrev has_own : List Const → Body → Bool
has_own pool (Code c) = are_extras pool c.attributes
has_own pool (Constant value) = true
has_own pool (Other bytes) = true

own : (pool : List Const) (b : Body) → has_own pool b ≡ true → HasOwnAttributes pool b
own pool (Code c) e = extras_of pool c.attributes e
own pool (Constant value) e = tt
own pool (Other bytes) e = tt

abbrev is_attribute_at : List Const → Holder → Attribute → Bool
is_attribute_at pool holder a = option_map_or (has_body_name holder a.body) (text_at pool a.name) false && has_own pool a.body

attribute_at : (pool : List Const) (holder : Holder) (a : Attribute) → is_attribute_at pool holder a ≡ true → IsAttributeAt pool holder a
attribute_at pool holder a e =
    let h = both (option_map_or (has_body_name holder a.body) (text_at pool a.name) false) (has_own pool a.body) e in
    record { named = h.0; inside = own pool a.body h.1 }

abbrev are_attributes : List Const → Holder → List Attribute → Bool
are_attributes pool holder attributes =
    list_all (is_attribute_at pool holder) attributes && at_most_one (λ (a : Attribute). is_recognized_body a.body) false attributes

attributes_at : (pool : List Const) (holder : Holder) (attributes : List Attribute) → are_attributes pool holder attributes ≡ true → AreAttributesAt pool holder false attributes
attributes_at pool holder attributes e =
    let h = both (list_all (is_attribute_at pool holder) attributes) (at_most_one (λ (a : Attribute). is_recognized_body a.body) false attributes) e in
    record { each = by_test (is_attribute_at pool holder) (attribute_at pool holder) attributes h.0; single = h.1 }

abbrev are_members : List Const → Holder → List Member → Bool
are_members pool holder members = list_all (λ (m : Member). are_attributes pool holder m.attributes) members

members_of : (pool : List Const) (holder : Holder) (members : List Member) → are_members pool holder members ≡ true → AreMembers pool holder members
members_of pool holder members e = by_test (λ (m : Member). are_attributes pool holder m.attributes) (λ m k. attributes_at pool holder m.attributes k) members e

abbrev has_attributes : ClassFile → Bool
has_attributes f =
    are_members f.pool holders.Field f.fields && (are_members f.pool holders.Method f.methods && are_attributes f.pool holders.Class f.attributes)

named : (f : ClassFile) → has_attributes f ≡ true → HasAttributes f
named f e =
    let h = both (are_members f.pool holders.Field f.fields) (are_members f.pool holders.Method f.methods && are_attributes f.pool holders.Class f.attributes) e in
    let k = both (are_members f.pool holders.Method f.methods) (are_attributes f.pool holders.Class f.attributes) h.1 in
    record { fields = members_of f.pool holders.Field f.fields h.0; methods = members_of f.pool holders.Method f.methods k.0; attributes = attributes_at f.pool holders.Class f.attributes k.1 }

-- ---- items

abbrev is_sound : Item → Bool
is_sound i = is_none i.fault

no_fault : {X : Type 0} (o : Option X) → is_none o ≡ true → o ≡ None
no_fault None e = refl
no_fault (Some x) e = cc

sound : (i : Item) → is_sound i ≡ true → IsSound i
sound i e = no_fault i.fault e

-- ---- the test

abbrev pub is_spelled : ClassFile → Bool
is_spelled f = is_in_range f && (has_attributes f && list_all is_sound (items f))

pub spelled : (f : ClassFile) → is_spelled f ≡ true → IsSpelled f
spelled f e =
    let h = both (is_in_range f) (has_attributes f && list_all is_sound (items f)) e in
    let k = both (has_attributes f) (list_all is_sound (items f)) h.1 in
    (class_file f, record { layout = refl; range = in_range f h.0; by_name = named f k.0; sound = by_test is_sound sound (items f) k.1 })
