-- The numbers that fit their fields: a count, a length or an index beyond its field has no spelling.
use Rattle.std.specs.Prelude.{◌≡◌, ℕ, Bool, true, false, ◌<◌, ◌≤◌, ◌^◌, List, [], ◌∷◌, length, FitsSigned}
use Rattle.std.specs.Int.{w32, w64}
use Rattle.std.specs.List.{AllByRecursion}
use Rattle.class_model.specs.declared.constant.Const.{Const}
use Rattle.class_model.specs.declared.constant.Const.TheVariants.{Unused, Utf8, Integer, Float, Long, Double, Class, Text, Fieldref, Methodref, InterfaceMethodref, NameAndType, MethodHandle, MethodType, Dynamic, InvokeDynamic, Module, Package}
use Rattle.class_model.specs.declared.attribute.Attribute.{Attribute}
use Rattle.class_model.specs.declared.attribute.Body.{Body}
use Rattle.class_model.specs.declared.attribute.Body.TheVariants.{Code, Constant, Other}
use Rattle.class_model.specs.declared.attribute.CodeBody.{CodeBody}
use Rattle.class_model.specs.declared.attribute.Row.{Row}
use Rattle.class_model.specs.declared.attribute.CodeAttribute.{CodeAttribute}
use Rattle.class_model.specs.declared.member.Member.{Member}
use Rattle.class_model.specs.declared.class_file.ClassFile.{ClassFile}
use Rattle.jvm_utf8.specs.Text.{text}
use Rattle.class_grammar.specs.Layout.{code_extra, body}

abbrev pub IsU1 : ℕ → Type 0
IsU1 n = n < 2 ^ 8

abbrev pub IsU2 : ℕ → Type 0
IsU2 n = n < 2 ^ 16

abbrev pub IsU4 : ℕ → Type 0
IsU4 n = n < 2 ^ 32

-- few enough for a count in two bytes, and each has P
abbrev pub IsTable : {X : Type 0} → (X → Type 0) → List X → Type 0
IsTable P xs = IsU2 (length xs) × AllByRecursion P xs

-- bytes, few enough for a length in four bytes
abbrev pub IsSized : List ℕ → Type 0
IsSized bytes = IsU4 (length bytes) × AllByRecursion IsU1 bytes

abbrev pub IsConstant : Const → Type 0
IsConstant Unused = Unit {0}
IsConstant (Utf8 units) = AllByRecursion IsU2 units × IsU2 (length (text units))
IsConstant (Integer n) = FitsSigned w32 n
IsConstant (Float bits) = IsU4 bits
IsConstant (Long n) = FitsSigned w64 n
IsConstant (Double bits) = bits < 2 ^ 64
IsConstant (Class name) = IsU2 name
IsConstant (Text units) = IsU2 units
IsConstant (Fieldref class member) = IsU2 class × IsU2 member
IsConstant (Methodref class member) = IsU2 class × IsU2 member
IsConstant (InterfaceMethodref class member) = IsU2 class × IsU2 member
IsConstant (NameAndType name descriptor) = IsU2 name × IsU2 descriptor
IsConstant (MethodHandle kind member) = IsU1 kind × IsU2 member
IsConstant (MethodType descriptor) = IsU2 descriptor
IsConstant (Dynamic bootstrap member) = IsU2 bootstrap × IsU2 member
IsConstant (InvokeDynamic bootstrap member) = IsU2 bootstrap × IsU2 member
IsConstant (Module name) = IsU2 name
IsConstant (Package name) = IsU2 name

-- a constant that takes two entries of the pool (JVMS 4.4.5)
abbrev pub is_wide : Const → Bool
is_wide (Long n) = true
is_wide (Double bits) = true
is_wide c = false

-- Each entry is a constant, but the one after a Long or a Double; `behind` says that the list follows such a constant.
abbrev pub AreEntries : Bool → List Const → Type 0
AreEntries behind [] = behind ≡ false
AreEntries true (Unused ∷ cs) = AreEntries false cs
AreEntries true (c ∷ cs) = ⊥
AreEntries false (Unused ∷ cs) = ⊥
AreEntries false (c ∷ cs) = AreEntries (is_wide c) cs

-- entry 0 isn't used, and the entries after it are constants
abbrev pub IsPool : List Const → Type 0
IsPool (Unused ∷ cs) = IsTable IsConstant (Unused ∷ cs) × AreEntries false cs
IsPool pool = ⊥

pub record IsRow (r : Row) : Type 0 where
  pub start : IsU2 r.start
  pub end : IsU2 r.end
  pub handler : IsU2 r.handler
  pub catch_type : IsU2 r.catch_type

pub record IsCodeAttribute (a : CodeAttribute) : Type 0 where
  pub name : IsU2 a.name
  pub contents : IsSized (code_extra a.body)

-- the code itself has from 1 to 65,535 bytes (JVMS 4.7.3)
pub record IsCode (c : CodeBody) : Type 0 where
  pub max_stack : IsU2 c.max_stack
  pub max_locals : IsU2 c.max_locals
  pub code : (0 < length c.code) × IsU2 (length c.code) × AllByRecursion IsU1 c.code
  pub rows : IsTable IsRow c.rows
  pub attributes : IsTable IsCodeAttribute c.attributes

abbrev pub IsBody : Body → Type 0
IsBody (Code c) = IsCode c
IsBody (Constant value) = IsU2 value
IsBody (Other bytes) = AllByRecursion IsU1 bytes

pub record IsAttribute (a : Attribute) : Type 0 where
  pub name : IsU2 a.name
  pub contents : IsBody a.body
  pub size : IsU4 (length (body a.body))

pub record IsMember (m : Member) : Type 0 where
  pub flags : IsU2 m.flags
  pub name : IsU2 m.name
  pub descriptor : IsU2 m.descriptor
  pub attributes : IsTable IsAttribute m.attributes

-- the supported versions: Java 7 to 25, and from version 56 on without a preview's mark (JVMS 4.1; own)
abbrev pub IsVersion : ℕ → ℕ → Type 0
IsVersion minor major = IsU2 minor × (51 ≤ major) × (major ≤ 69) × (56 ≤ major → minor ≡ 0)

pub record IsInRange (f : ClassFile) : Type 0 where
  pub version : IsVersion f.minor f.major
  pub pool : IsPool f.pool
  pub flags : IsU2 f.flags
  pub own : IsU2 f.own
  pub parent : IsU2 f.parent
  pub interfaces : IsTable IsU2 f.interfaces
  pub fields : IsTable IsMember f.fields
  pub methods : IsTable IsMember f.methods
  pub attributes : IsTable IsAttribute f.attributes
