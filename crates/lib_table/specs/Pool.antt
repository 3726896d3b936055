-- The constant pool of a class file that is made of a declaration (JVMS 4.4): a constant is in it once, at the place where it is
-- mentioned first, after the constants that it names.
use Rattle.std.specs.Prelude.{ℕ, Bool, false, List, [], ◌∷◌, ◌++◌, Option, Some, None, length, position, ◌==◌, ◌&&◌}
use Rattle.class_model.specs.declared.constant.Const.{Const}
use Rattle.class_model.specs.declared.constant.Const.TheVariants.{Utf8, Class, Text, Fieldref, Methodref, InterfaceMethodref, NameAndType}
use Rattle.class_grammar.specs.Text.{same_text}

-- one step of the making, and then the next with what the first gave and the pool that it left
infixl 10 ◌then◌
abbrev pub ◌then◌ : {A B : Type 0} → A × List Const → (A → List Const → B × List Const) → B × List Const
x then f = f x.0 x.1

-- ---- whether a constant is this one

abbrev pub is_utf8 : List ℕ → Const → Bool
is_utf8 text (Utf8 units) = same_text units text
is_utf8 text c = false

abbrev pub is_class : ℕ → Const → Bool
is_class name (Class n) = n == name
is_class name c = false

abbrev pub is_string : ℕ → Const → Bool
is_string text (Text n) = n == text
is_string text c = false

abbrev pub is_name_and_type : ℕ → ℕ → Const → Bool
is_name_and_type name descriptor (NameAndType n d) = n == name && d == descriptor
is_name_and_type name descriptor c = false

abbrev pub is_field : ℕ → ℕ → Const → Bool
is_field class member (Fieldref c m) = c == class && m == member
is_field class member c = false

abbrev pub is_method : ℕ → ℕ → Const → Bool
is_method class member (Methodref c m) = c == class && m == member
is_method class member c = false

abbrev pub is_interface_method : ℕ → ℕ → Const → Bool
is_interface_method class member (InterfaceMethodref c m) = c == class && m == member
is_interface_method class member c = false

-- whether the second is the first, which is of one of the kinds that are built here
abbrev pub is_entry : Const → Const → Bool
is_entry (Utf8 units) c = is_utf8 units c
is_entry (Class name) c = is_class name c
is_entry (Text text) c = is_string text c
is_entry (NameAndType name descriptor) c = is_name_and_type name descriptor c
is_entry (Fieldref class member) c = is_field class member c
is_entry (Methodref class member) c = is_method class member c
is_entry (InterfaceMethodref class member) c = is_interface_method class member c
is_entry constant c = false

-- ---- the index of a constant, and the pool with it

abbrev pub placed_at : Option ℕ → Const → List Const → ℕ × List Const
placed_at (Some index) constant pool = (index, pool)
placed_at None constant pool = (length pool, pool ++ constant ∷ [])

-- Where the pool has the constant it stays as it is; else the constant goes after the others.
unfoldable pub placed : Const → List Const → ℕ × List Const
placed constant pool = placed_at (position (is_entry constant) pool) constant pool

abbrev pub text : List ℕ → List Const → ℕ × List Const
text units pool = placed (Utf8 units) pool

unfoldable pub class : List ℕ → List Const → ℕ × List Const
class name pool = text name pool then λ name. placed (Class name)

unfoldable pub string : List ℕ → List Const → ℕ × List Const
string units pool = text units pool then λ text. placed (Text text)

unfoldable pub name_and_type : List ℕ → List ℕ → List Const → ℕ × List Const
name_and_type name descriptor pool =
    text name pool then λ name pool. text descriptor pool then λ descriptor. placed (NameAndType name descriptor)

-- a member by its class, its name and its descriptor
unfoldable pub field : List ℕ → List ℕ → List ℕ → List Const → ℕ × List Const
field owner name descriptor pool = class owner pool then λ owner pool. name_and_type name descriptor pool then λ member. placed (Fieldref owner member)

unfoldable pub method : List ℕ → List ℕ → List ℕ → List Const → ℕ × List Const
method owner name descriptor pool = class owner pool then λ owner pool. name_and_type name descriptor pool then λ member. placed (Methodref owner member)

unfoldable pub interface_method : List ℕ → List ℕ → List ℕ → List Const → ℕ × List Const
interface_method owner name descriptor pool =
    class owner pool then λ owner pool. name_and_type name descriptor pool then λ member. placed (InterfaceMethodref owner member)
