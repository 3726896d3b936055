-- The constant pool of a class file that is assembled (JVMS 4.4): a constant is in it once, at the place where it is
-- mentioned first, after the constants that it names.
use Rattle.std.specs.Prelude.{ℕ, suc, ℤ, ◌+◌, Bool, true, false, List, [], ◌∷◌, ◌++◌, length, Option, Some, None, ◌&&◌, ◌==◌, count_by, nat_lt, nat_le, nat_eq, if◌then◌else◌}
use Rattle.std.specs.Option.{option_map}
use Rattle.std.specs.Cmp.Lexicographic.{pointwise}
use Rattle.class_model.specs.declared.constant.Const.{Const}
use Rattle.class_model.specs.declared.constant.Const.TheVariants.{Unused, Utf8, Integer, Long, Class, Text, Fieldref, Methodref, InterfaceMethodref, NameAndType}
use Rattle.asm_pool.specs.Keys.{key_of}

-- an index and the pool afterwards, unless the pool is full
abbrev pub Mention : Type 0
Mention = Option (ℕ × List Const)

-- one mention, and then the next in the pool that it left
infixl 10 ◌then◌
abbrev pub ◌then◌ : Mention → (ℕ → List Const → Mention) → Mention
None then f = None
(Some x) then f = f x.0 x.1

abbrev pub is_long : Const → Bool
is_long (Long n) = true
is_long other = false

-- what comes after a constant: a long has two entries
abbrev pub second_entry : Bool → List Const
second_entry true = Unused ∷ []
second_entry false = []

abbrev pub slots_of : Const → List Const
slots_of constant = constant ∷ second_entry (is_long constant)

-- the index of the first constant with this key
abbrev pub place_of : List ℕ → List Const → Option ℕ
place_of key [] = None
place_of key (c ∷ cs) = if pointwise nat_eq (key_of c) key then Some 0 else option_map suc (place_of key cs)

abbrev pub mentioned_at : Option ℕ → Const → List Const → Mention
mentioned_at (Some index) constant pool = Some (index, pool)
mentioned_at None constant pool =
    if nat_lt 65535 (length pool + length (slots_of constant))
    then None
    else Some (length pool, pool ++ slots_of constant)

-- Where the pool has the constant it stays as it is; else the constant goes after the others.
unfoldable pub mentioned : Const → List Const → Mention
mentioned constant pool = mentioned_at (place_of (key_of constant) pool) constant pool

-- whether a text in ASCII has at most 65,535 bytes as modified UTF-8 (JVMS 4.4.7), where a zero takes two
abbrev pub is_short : List ℕ → Bool
is_short units =
    nat_le (length units) 65535 && nat_le (length units + count_by (λ u. u == 0) units) 65535

-- a text in ASCII
abbrev pub text : List ℕ → List Const → Mention
text units pool = if is_short units then mentioned (Utf8 units) pool else None

abbrev pub int : ℤ → List Const → Mention
int n pool = mentioned (Integer n) pool

abbrev pub long : ℤ → List Const → Mention
long n pool = mentioned (Long n) pool

abbrev pub class : List ℕ → List Const → Mention
class name pool = text name pool then λ name. mentioned (Class name)

abbrev pub string : List ℕ → List Const → Mention
string units pool = text units pool then λ text. mentioned (Text text)

abbrev pub name_and_type : List ℕ → List ℕ → List Const → Mention
name_and_type name descriptor pool =
    text name pool then λ name pool. text descriptor pool then λ descriptor. mentioned (NameAndType name descriptor)

-- a member by its class, its name and its descriptor
unfoldable pub field : List ℕ → List ℕ → List ℕ → List Const → Mention
field owner name descriptor pool =
    class owner pool then λ owner pool.
    name_and_type name descriptor pool then λ member. mentioned (Fieldref owner member)

unfoldable pub method : List ℕ → List ℕ → List ℕ → List Const → Mention
method owner name descriptor pool =
    class owner pool then λ owner pool.
    name_and_type name descriptor pool then λ member. mentioned (Methodref owner member)

unfoldable pub interface_method : List ℕ → List ℕ → List ℕ → List Const → Mention
interface_method owner name descriptor pool =
    class owner pool then λ owner pool.
    name_and_type name descriptor pool then λ member. mentioned (InterfaceMethodref owner member)
