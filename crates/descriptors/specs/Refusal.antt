-- What a refusal says of the units, and what is known of units that were not refused.
use Rattle.std.specs.Prelude.{◌≡◌, ℕ, ◌+◌, ◌<◌, ◌≤◌, List, ◌∷◌, ◌++◌, Option, length, take}
use Rattle.descriptors.specs.declared.kind.ElementType.{ElementType}
use Rattle.descriptors.specs.declared.kind.Kind.{Kind}
use Rattle.descriptors.specs.declared.kind.Signature.{Signature}
use Rattle.descriptors.specs.Descriptors.{semicolon, element_spelling, spelling, IsClassName, IsElement, IsKind, result_spelling, IsResult, method_spelling, IsSignature}

-- the units are the descriptor of some kind, or of some signature
abbrev pub IsField : List ℕ → Type 0
IsField units = (kind : Kind) × IsKind kind × (units ≡ spelling kind)

abbrev pub IsMethod : List ℕ → Type 0
IsMethod units = (s : Signature) × IsSignature s × (units ≡ method_spelling s)

-- Some text that is in P begins with these units.
abbrev pub Begins : (List ℕ → Type 0) → List ℕ → Type 0
Begins P units = (rest : List ℕ) × P (units ++ rest)

-- The units before this offset begin a text that is in P, and with the unit there they don't; or
-- the units end there, and aren't in P.
pub record IsFirstBad (P : List ℕ → Type 0) (units : List ℕ) (at : ℕ) : Type 0 where
  pub inside : at ≤ length units
  pub begins : Begins P (take at units)
  pub stops : at < length units → Begins P (take (at + 1) units) → ⊥
  pub no_end : at ≡ length units → P units → ⊥

-- ---- units that were not refused

-- they begin with the descriptor of a kind
pub record KindInFront (units : List ℕ) : Type 0 where
  pub kind : Kind
  pub fit : IsKind kind
  pub rest : List ℕ
  pub parts : units ≡ spelling kind ++ rest

-- they begin with that of a type that is no array
pub record ElementInFront (units : List ℕ) : Type 0 where
  pub element : ElementType
  pub fit : IsElement element
  pub rest : List ℕ
  pub parts : units ≡ element_spelling element ++ rest

-- they begin with a class name and the semicolon after it
pub record NameInFront (units : List ℕ) : Type 0 where
  pub name : List ℕ
  pub fit : IsClassName name
  pub rest : List ℕ
  pub parts : units ≡ name ++ semicolon ∷ rest

-- they are the descriptor of a method's result
pub record IsResultText (units : List ℕ) : Type 0 where
  pub result : Option Kind
  pub fit : IsResult result
  pub parts : units ≡ result_spelling result
