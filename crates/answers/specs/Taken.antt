-- What sinks took.
use Rattle.std.specs.Prelude.{◌≡◌, ℕ, ◌<◌, ◌≤◌, List, [], ◌++◌, Option, Some, None, length, take}
use Rattle.jvm_edges.specs.Bytes.{Appends}
use Rattle.jvm_edges.specs.Causes.{Rose}
use Rattle.command_line.specs.declared.answer.SinkName.TheVariants.{Out}
use Rattle.command_line.specs.declared.answer.Why.{Why}
use Rattle.command_line.specs.declared.answer.Why.TheVariants.{Usage, SinkFault}

-- ---- a sink that takes all, or fails

-- The sink took all the bytes; or it failed when it had taken so many.
abbrev pub Takes : {S : Type 0} → (S → Option (List ℕ)) → (S → ℕ) → S → S → List ℕ → Option ℕ → Type 0
Takes contents faults old new bytes None = Appends (contents old) bytes (contents new) × (faults new ≡ faults old)
Takes contents faults old new bytes (Some n) =
    Appends (contents old) (take n bytes) (contents new) × (n < length bytes) × Rose (faults old) (faults new)

-- how many bytes a sink took of so many
abbrev pub taken_of : Option ℕ → ℕ → ℕ
taken_of None size = size
taken_of (Some n) size = n

-- ---- the out sink

-- how much the out sink took of so many bytes: all, unless its fault is the answer
abbrev pub IsOutTaken : Why → ℕ → ℕ → Type 0
IsOutTaken (SinkFault Out written) taken size = (written ≡ taken) × (taken < size)
IsOutTaken why taken size = taken ≡ size

-- the count of faults of the out sink rose exactly where the answer names its fault
abbrev pub OutFaults : Why → ℕ → ℕ → Type 0
OutFaults (SinkFault Out written) before now = Rose before now
OutFaults why before now = now ≡ before

-- ---- the err sink

-- The err sink took the front of the program's error output, and after all of it the answer's line, or its front. Where it didn't take
-- all, its count of faults rose; otherwise that is as before.
pub record TakesLine {E : Type 0} (contents : E → Option (List ℕ)) (faults : E → ℕ) (old new : E) (line text : List ℕ) (written : ℕ)
    : Type 0 where
  pub taken : ℕ
  pub takes : Appends (contents old) (take written text ++ take taken line) (contents new)
  pub part : written < length text → (taken ≡ 0) × Rose (faults old) (faults new)
  pub whole : length text ≤ written → taken < length line → Rose (faults old) (faults new)
  pub kept : length text ≤ written → length line ≤ taken → faults new ≡ faults old

-- what follows the line of an answer without a run: after that of Usage, what is wrong with the words
abbrev pub IsMore : Why → List ℕ → Type 0
IsMore Usage more = Unit {0}
IsMore why more = more ≡ []

-- the err sink took the line and what follows it, or a front of the two
pub record TakesAnswer {E : Type 0} (contents : E → Option (List ℕ)) (faults : E → ℕ) (old new : E) (why : Why) (line : List ℕ) (written : ℕ)
    : Type 0 where
  pub more : List ℕ
  pub is_more : IsMore why more
  pub takes : TakesLine contents faults old new (line ++ more) [] written
