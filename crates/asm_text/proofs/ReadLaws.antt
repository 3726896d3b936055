-- What is read of a text, by the line that it begins with.
use Rattle.std.proofs.Common.{◌≡◌, ℕ, List, Result, Ok, Err, refl, sym, ap, ◌∙◌}
use Rattle.std.specs.Prelude.{IfOk}
use Rattle.std.specs.Borrow.{Bor}
use Rattle.items.specs.Memory.{OkUnless}
use Rattle.asm_text.specs.declared.error.LineError.{LineError}
use Rattle.asm_text.specs.declared.error.LineError.TheVariants as errors
use Rattle.asm_text.specs.declared.line.Line.{Line}
use Rattle.asm_text.specs.Parsing.{GivesBy, line_at}
use Rattle.asm_text.specs.Spelling.{BeginsWith}
use Rattle.asm_text.proofs.Tests.{some_same}
use Rattle.asm_text.proofs.SpellingLaws.{begins, begins_again}

-- the outcome is that of the definition
abbrev pub IsOutcome : List ℕ → Result (Line × Bor (List ℕ)) LineError → Type 0
IsOutcome text outcome = GivesBy (λ x. (x.0, x.1.now)) outcome (line_at text)

pub read_found : (text : List ℕ) (outcome : Result (Line × Bor (List ℕ)) LineError) → IsOutcome text outcome → IfOk outcome (λ r. BeginsWith text r.0 r.1.now)
read_found text (Ok x) e = begins text x.0 x.1.now e
read_found text (Err error) e = tt

pub read_only : (text : List ℕ) (outcome : Result (Line × Bor (List ℕ)) LineError) → IsOutcome text outcome → (l : Line) (rest : List ℕ) → BeginsWith text l rest
    → OkUnless outcome errors.NoMemory (λ r. (r.0 ≡ l) × (r.1.now ≡ rest))
read_only text (Ok x) e l rest h =
    let pair : (x.0, x.1.now) ≡ (l, rest) = some_same _ _ (sym e ∙ begins_again text l rest h) in
    (ap (λ (p : Line × List ℕ). p.0) pair, ap (λ (p : Line × List ℕ). p.1) pair)
read_only text (Err errors.Bad) e l rest h = let again = begins_again text l rest h in absurd cc
read_only text (Err errors.NoMemory) e l rest h = refl

pub read_bad : (text : List ℕ) (outcome : Result (Line × Bor (List ℕ)) LineError) → IsOutcome text outcome → outcome ≡ Err errors.Bad → (l : Line) (rest : List ℕ)
    → BeginsWith text l rest → ⊥
read_bad text (Ok x) e bad l rest h = absurd cc
read_bad text (Err errors.Bad) e bad l rest h = let again = begins_again text l rest h in cc
read_bad text (Err errors.NoMemory) e bad l rest h = absurd cc
