-- Constant pools that a class file may have (JVMS 4.4), as far as assembler text makes them.
use Rattle.std.specs.Prelude.{◌≡◌, ℕ, ℤ, ◌<◌, ◌≤◌, Bool, true, false, List, ◌∷◌, ◌++◌, length, Some, slice_get, FitsSigned}
use Rattle.std.specs.Int.{w32, w64}
use Rattle.std.specs.List.{AllByRecursion}
use Rattle.class_model.specs.declared.constant.Const.{Const}
use Rattle.class_model.specs.declared.constant.Const.TheVariants.{Unused, Utf8, Integer, Long, Class, Text, Fieldref, Methodref, InterfaceMethodref, NameAndType}
use Rattle.class_grammar.specs.Names.{is_class_text}
use Rattle.class_grammar.specs.Pool.{text_at, class_name_at}
use Rattle.class_grammar.specs.Ranges.{AreEntries}
use Rattle.asm_class.specs.Names.{is_field_of, is_method_of}
use Rattle.asm_pool.specs.Mentions.{is_short, text, class, string, int, long, field, method, interface_method}

-- whether a field, or a method, may have this name and this descriptor
abbrev pub is_member_by : Bool → List ℕ → List ℕ → Bool
is_member_by true n d = is_field_of n d
is_member_by false n d = is_method_of n d

-- a name and a descriptor at the index, of a field or of a method
pub record IsMemberAt (of_field : Bool) (pool : List Const) (index : ℕ) : Type 0 where
  pub name_index : ℕ
  pub descriptor_index : ℕ
  pub name : List ℕ
  pub descriptor : List ℕ
  pub here : slice_get pool index ≡ Some (NameAndType name_index descriptor_index)
  pub name_is : text_at pool name_index ≡ Some name
  pub descriptor_is : text_at pool descriptor_index ≡ Some descriptor
  pub passed : is_member_by of_field name descriptor ≡ true

-- the name of a class at the index
pub record IsClassAt (pool : List Const) (index : ℕ) : Type 0 where
  pub name : List ℕ
  pub here : class_name_at pool index ≡ Some name

-- a text in ASCII that is short enough
pub record IsText (units : List ℕ) : Type 0 where
  pub ascii : AllByRecursion (λ u. u < 128) units
  pub short : is_short units ≡ true

-- a name with a descriptor, of a field or of a method
pub record AreNames (pool : List Const) (name descriptor : ℕ) : Type 0 where
  pub name_units : List ℕ
  pub descriptor_units : List ℕ
  pub name_is : text_at pool name ≡ Some name_units
  pub descriptor_is : text_at pool descriptor ≡ Some descriptor_units
  pub of_field : Bool
  pub passed : is_member_by of_field name_units descriptor_units ≡ true

-- the name of a class
pub record IsClassName (pool : List Const) (name : ℕ) : Type 0 where
  pub units : List ℕ
  pub is : text_at pool name ≡ Some units
  pub passed : is_class_text units ≡ true

-- a text
pub record IsTextAt (pool : List Const) (index : ℕ) : Type 0 where
  pub units : List ℕ
  pub is : text_at pool index ≡ Some units

-- What the constant names is in the pool, and of the right kind.
abbrev pub IsKnown : List Const → Const → Type 0
IsKnown pool Unused = Unit {0}
IsKnown pool (Utf8 units) = IsText units
IsKnown pool (Integer n) = FitsSigned w32 n
IsKnown pool (Long n) = FitsSigned w64 n
IsKnown pool (Class name) = IsClassName pool name
IsKnown pool (Text text) = IsTextAt pool text
IsKnown pool (Fieldref class member) = IsClassAt pool class × IsMemberAt true pool member
IsKnown pool (Methodref class member) = IsClassAt pool class × IsMemberAt false pool member
IsKnown pool (InterfaceMethodref class member) = IsClassAt pool class × IsMemberAt false pool member
IsKnown pool (NameAndType name descriptor) = AreNames pool name descriptor
IsKnown pool other = ⊥

-- Entry 0 isn't used, the others are constants that are known, and there are at most 65,535.
pub record IsSoundPool (pool : List Const) : Type 0 where
  pub behind : List Const
  pub first : pool ≡ Unused ∷ behind
  pub entries : AreEntries false behind
  pub few : length pool ≤ 65535
  pub known : AllByRecursion (IsKnown pool) pool

-- the new pool is the old one with more behind it, and sound as well
pub record Grows (old new : List Const) : Type 0 where
  pub more : List Const
  pub is : new ≡ old ++ more
  pub sound : IsSoundPool new

abbrev pub IsAscii : List ℕ → Type 0
IsAscii units = AllByRecursion (λ u. u < 128) units

-- the mention of a text in ASCII
abbrev pub KeepsText : List ℕ → List Const → Type 0
KeepsText units pool = (index : ℕ) (new : List Const) → IsSoundPool pool → IsAscii units
    → text units pool ≡ Some (index, new) → Grows pool new × (text_at new index ≡ Some units)

-- of a class
abbrev pub KeepsClass : List ℕ → List Const → Type 0
KeepsClass name pool = (index : ℕ) (new : List Const) → IsSoundPool pool → IsAscii name → is_class_text name ≡ true
    → class name pool ≡ Some (index, new) → Grows pool new × (class_name_at new index ≡ Some name)

-- of a String, an int and a long
abbrev pub KeepsString : List ℕ → List Const → Type 0
KeepsString units pool = (index : ℕ) (new : List Const) → IsSoundPool pool → IsAscii units → string units pool ≡ Some (index, new) → Grows pool new

abbrev pub KeepsNumbers : ℤ → List Const → Type 0
KeepsNumbers n pool = (index : ℕ) (new : List Const) → IsSoundPool pool
    → (FitsSigned w32 n → int n pool ≡ Some (index, new) → Grows pool new) × (FitsSigned w64 n → long n pool ≡ Some (index, new) → Grows pool new)

-- of a field or a method
pub record AreMember (of_field : Bool) (owner name descriptor : List ℕ) : Type 0 where
  pub owner_ascii : IsAscii owner
  pub owner_sound : is_class_text owner ≡ true
  pub name_ascii : IsAscii name
  pub descriptor_ascii : IsAscii descriptor
  pub passed : is_member_by of_field name descriptor ≡ true

abbrev pub KeepsMembers : List ℕ → List ℕ → List ℕ → List Const → Type 0
KeepsMembers owner name descriptor pool = (index : ℕ) (new : List Const) → IsSoundPool pool
    → (AreMember true owner name descriptor → field owner name descriptor pool ≡ Some (index, new) → Grows pool new)
    × (AreMember false owner name descriptor → method owner name descriptor pool ≡ Some (index, new) → Grows pool new)
    × (AreMember false owner name descriptor → interface_method owner name descriptor pool ≡ Some (index, new) → Grows pool new)
