-- What lines of assembler text make, such as a class file may have it (JVMS 4).
use Rattle.std.specs.Prelude.{◌≡◌, ℕ, ◌<◌, ◌≤◌, ◌⊎◌, Bool, true, false, List, [], ◌∷◌, length, codes, Some, bit_and}
use Rattle.std.specs.List.{AllByRecursion}
use Rattle.class_model.specs.declared.access_flags.TheConstants.{ACC_MODULE}
use Rattle.class_model.specs.declared.constant.Const.{Const}
use Rattle.class_model.specs.declared.attribute.Attribute.{Attribute}
use Rattle.class_model.specs.declared.attribute.Body.TheVariants.{Code}
use Rattle.class_model.specs.declared.attribute.CodeBody.{CodeBody}
use Rattle.class_model.specs.declared.attribute.CodeAttribute.{CodeAttribute}
use Rattle.class_model.specs.declared.attribute.CodeExtra.TheVariants as extras
use Rattle.class_model.specs.declared.attribute.Row.{Row}
use Rattle.class_model.specs.declared.member.Member.{Member}
use Rattle.class_model.specs.declared.class_file.ClassFile.{ClassFile}
use Rattle.class_grammar.specs.Text.{same_text}
use Rattle.class_grammar.specs.Names.{object_class, is_field_name, is_method_name}
use Rattle.class_grammar.specs.Layout as layout
use Rattle.class_grammar.specs.Pool.{text_at, class_name_at}
use Rattle.class_grammar.specs.Ranges.{IsU1, IsU2, IsU4, IsSized}
use Rattle.class_grammar.specs.Checks.{has_no_code}
use Rattle.descriptors.specs.States.{is_field, is_method}
use Rattle.asm_soundness.specs.Pools.{IsClassAt, IsSoundPool}

-- a text at the index that passes the test
pub record IsPassed (test : List ℕ → Bool) (pool : List Const) (index : ℕ) : Type 0 where
  pub units : List ℕ
  pub is : text_at pool index ≡ Some units
  pub passed : test units ≡ true

-- the class with its superclass, which java/lang/Object alone lacks
pub record IsSoundClass (pool : List Const) (own parent : ℕ) : Type 0 where
  pub name : List ℕ
  pub own_is : class_name_at pool own ≡ Some name
  pub parent_is : ((same_text name object_class ≡ true) × (parent ≡ 0)) ⊎ ((same_text name object_class ≡ false) × IsClassAt pool parent)

pub record IsSoundField (pool : List Const) (m : Member) : Type 0 where
  pub flags : IsU2 m.flags
  pub name : IsPassed is_field_name pool m.name
  pub descriptor : IsPassed is_field pool m.descriptor
  pub attributes : m.attributes ≡ []

-- a class, or 0 for every throwable
abbrev pub IsCaughtAt : List Const → ℕ → Type 0
IsCaughtAt pool index = (index ≡ 0) ⊎ IsClassAt pool index

pub record IsSoundRow (pool : List Const) (size : ℕ) (r : Row) : Type 0 where
  pub start : r.start < r.end
  pub end : r.end ≤ size
  pub handler : r.handler < size
  pub caught : IsCaughtAt pool r.catch_type

-- one stack map at most
pub record IsSoundMap (pool : List Const) (a : CodeAttribute) : Type 0 where
  pub bytes : List ℕ
  pub body : a.body ≡ extras.StackMap bytes
  pub sized : IsSized bytes
  pub name : text_at pool a.name ≡ Some (codes "StackMapTable")

abbrev pub AreSoundMaps : List Const → List CodeAttribute → Type 0
AreSoundMaps pool [] = Unit {0}
AreSoundMaps pool (a ∷ []) = IsSoundMap pool a
AreSoundMaps pool (a ∷ b ∷ cs) = ⊥

pub record IsSoundCode (pool : List Const) (c : CodeBody) : Type 0 where
  pub max_stack : IsU2 c.max_stack
  pub max_locals : IsU2 c.max_locals
  pub some : 0 < length c.code
  pub few : IsU2 (length c.code)
  pub bytes : AllByRecursion IsU1 c.code
  pub few_rows : IsU2 (length c.rows)
  pub rows : AllByRecursion (IsSoundRow pool (length c.code)) c.rows
  pub maps : AreSoundMaps pool c.attributes
  pub size : IsU4 (length (layout.code c))

pub record IsSoundAttribute (pool : List Const) (a : Attribute) : Type 0 where
  pub code : CodeBody
  pub body : a.body ≡ Code code
  pub name : text_at pool a.name ≡ Some (codes "Code")
  pub sound : IsSoundCode pool code

-- one attribute, the code, or none, as the flags say
abbrev pub AreSoundAttributes : List Const → ℕ → List Attribute → Type 0
AreSoundAttributes pool flags [] = has_no_code flags ≡ true
AreSoundAttributes pool flags (a ∷ []) = (has_no_code flags ≡ false) × IsSoundAttribute pool a
AreSoundAttributes pool flags (a ∷ b ∷ cs) = ⊥

pub record IsSoundMethod (pool : List Const) (m : Member) : Type 0 where
  pub flags : IsU2 m.flags
  pub name : IsPassed is_method_name pool m.name
  pub descriptor : IsPassed is_method pool m.descriptor
  pub attributes : AreSoundAttributes pool m.flags m.attributes

-- at most 65,535, each with P
pub record AreFew {X : Type 0} (P : X → Type 0) (xs : List X) : Type 0 where
  pub few : length xs ≤ 65535
  pub each : AllByRecursion P xs

pub record IsSoundFile (f : ClassFile) : Type 0 where
  pub minor : f.minor ≡ 0
  pub major : f.major ≡ 61
  pub pool : IsSoundPool f.pool
  pub flags : IsU2 f.flags
  pub no_module : bit_and f.flags ACC_MODULE ≡ 0
  pub class : IsSoundClass f.pool f.own f.parent
  pub interfaces : AreFew (IsClassAt f.pool) f.interfaces
  pub fields : AreFew (IsSoundField f.pool) f.fields
  pub methods : AreFew (IsSoundMethod f.pool) f.methods
  pub attributes : f.attributes ≡ []
