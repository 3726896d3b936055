-- What the steps of a command on one file give.
use Rattle.std.specs.Prelude.{◌≡◌, ℕ, List, Option, Result, Ok, Err}
use Rattle.std.specs.Global.{Vec}
use Rattle.command_line.specs.declared.answer.Why.{Why}
use Rattle.command_line.specs.declared.answer.Why.TheVariants.{BadClass, BadText, Unlisted, NoMemory}
use Rattle.jasm.specs.declared.error.TextError.{TextError}
use Rattle.jasm.specs.declared.error.TextError.TheVariants as errors
use Rattle.answers.specs.declared.report.Report.{Report}
use Rattle.answers.specs.Reports.{IsOfText, IsSameOrNoMemory, TakesText}
use Rattle.class_tools.specs.Due.{Due, answered, writes}

-- what a command makes of bytes, unless memory ran out
abbrev pub Makes : (List ℕ → Due → Type 0) → List ℕ → Result (Vec ℕ) Why → Type 0
Makes of bytes (Ok made) = of bytes (writes made.items)
Makes of bytes (Err NoMemory) = Unit {0}
Makes of bytes (Err why) = of bytes (answered why)

-- an answer that bytes have, or for want of memory
abbrev pub IsOfBytes : Why → Type 0
IsOfBytes (BadClass file at why) = Unit {0}
IsOfBytes (BadText line) = Unit {0}
IsOfBytes (Unlisted file) = Unit {0}
IsOfBytes NoMemory = Unit {0}
IsOfBytes why = ⊥

-- the answer to a text that is not assembled
abbrev pub text_answer : TextError → Why
text_answer (errors.Bad line) = BadText line
text_answer errors.NoMemory = NoMemory

-- what was made is written; or the answer is as before, and nothing is written
abbrev pub Answers : Option (List ℕ) → Option (List ℕ) → Result (Vec ℕ) Why → Report → Type 0
Answers before after (Ok made) r = IsOfText r.why × TakesText before after made.items r
Answers before after (Err why) r = IsSameOrNoMemory why r.why × (r.out_written ≡ 0) × (after ≡ before)
