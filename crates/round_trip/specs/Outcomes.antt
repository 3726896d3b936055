-- What comes of a file.
use Rattle.std.specs.Prelude.{◌≡◌, ◌≤◌, ◌^◌, ℕ, List, length, Option, Some, None, Bool, true, false, Result, Err, IfSome, String, string_bytes}
use Rattle.std.specs.Global.{Global}
use Rattle.std.specs.List.{AllZip, list_all}
use Rattle.jvm_edges.specs.Causes.{Rose}
use Rattle.jvm_edges.specs.Files.{Files, file_named}
use Rattle.class_model.specs.declared.class_file.ClassFile.{ClassFile}
use Rattle.class_grammar.specs.Grammar.{Spells}
use Rattle.class_file.specs.File.{first_bad}
use Rattle.round_trip.specs.declared.file_lines.LineError.{LineError}
use Rattle.round_trip.specs.declared.file_lines.LineError.TheVariants.{SinkFault}
use Rattle.round_trip.specs.declared.outcome.Outcome.{Outcome}
use Rattle.round_trip.specs.declared.outcome.Outcome.TheVariants.{Same, Differs, Bad, TooLong, Missing, Unreadable, NoMemory}

-- What comes of these bytes: a class file is written as it was read, and nothing else is.
abbrev pub ComesTo : List ℕ → Outcome → Type 0
ComesTo bytes Same = (f : ClassFile) × Spells bytes f
ComesTo bytes (Bad at why) = (first_bad bytes ≡ Some (at, why)) × ((f : ClassFile) → Spells bytes f → ⊥)
ComesTo bytes TooLong = 2 ^ 32 ≤ length bytes
ComesTo bytes NoMemory = Unit {0}
ComesTo bytes Differs = ⊥
ComesTo bytes Missing = ⊥
ComesTo bytes Unreadable = ⊥

-- What comes of a file of these bytes, or of one that isn't there.
abbrev pub FileComesTo : Option (List ℕ) → Outcome → Type 0
FileComesTo (Some bytes) Unreadable = Unit {0}
FileComesTo (Some bytes) outcome = ComesTo bytes outcome
FileComesTo None Missing = Unit {0}
FileComesTo None Unreadable = Unit {0}
FileComesTo None NoMemory = Unit {0}
FileComesTo None outcome = ⊥

-- The store's count of faults rose exactly where the file could not be read.
abbrev pub StoreFaults : Outcome → ℕ → ℕ → Type 0
StoreFaults Unreadable before now = Rose before now
StoreFaults outcome before now = now ≡ before

-- The sink's count of faults rose exactly where the answer names its fault.
abbrev pub OutFaults : {X : Type 0} → Result X LineError → ℕ → ℕ → Type 0
OutFaults (Err SinkFault) before now = Rose before now
OutFaults result before now = now ≡ before

abbrev pub is_same : Outcome → Bool
is_same Same = true
is_same outcome = false

-- what comes of the file of this name, where the files are known
abbrev pub NameComesTo : Option Files → List ℕ → Outcome → Type 0
NameComesTo known name outcome = IfSome known (λ files. FileComesTo (file_named name files) outcome)

-- what comes of a file, and whether it was written as it was read
pub record HasOutcome (known : Option Files) (name : List ℕ) (same : Bool) : Type 0 where
  pub outcome : Outcome
  pub comes : NameComesTo known name outcome
  pub same_is : same ≡ is_same outcome

-- what comes of each file, and whether each was written as it was read
pub record HaveOutcomes (known : Option Files) (names : List (String Global)) (all_same : Bool) : Type 0 where
  pub outcomes : List Outcome
  pub each : AllZip (λ name outcome. NameComesTo known (string_bytes name) outcome) names outcomes
  pub all : all_same ≡ list_all is_same outcomes
