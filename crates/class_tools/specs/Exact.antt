-- When each answer to a command on one file comes, and what is written. `of` says what the command makes of bytes.
use Rattle.std.specs.Prelude.{◌≡◌, ℕ, List, Option, Some}
use Rattle.jvm_edges.specs.Files.{Files, file_named}
use Rattle.command_line.specs.declared.answer.SinkName.TheVariants.{Out}
use Rattle.command_line.specs.declared.answer.Which.TheVariants.{FileSize}
use Rattle.command_line.specs.declared.answer.Why.{Why}
use Rattle.command_line.specs.declared.answer.Why.TheVariants.{Ended, Limit, Missing, SourceFault, BadClass, BadText, Unlisted, SinkFault, NoMemory}
use Rattle.answers.specs.declared.report.Report.{Report}
use Rattle.answers.specs.Reports.{IsOfText, TakesText}
use Rattle.input_files.specs.Contents.{Contents, HasContents}
use Rattle.class_tools.specs.Due.{Due, answered, writes, IsDue}

-- it is due by the contents of the file of this name
pub record HasCause (of : List ℕ → Due → Type 0) (known : Option Files) (name : List ℕ) (what : Due) : Type 0 where
  pub contents : Contents
  pub holds : HasContents known name contents
  pub due : IsDue of contents what

-- bytes are to be written
pub record HasText (of : List ℕ → Due → Type 0) (known : Option Files) (name : List ℕ) : Type 0 where
  pub text : List ℕ
  pub cause : HasCause of known name (writes text)

-- the cause of each answer, where `faulty` says that the store failed
abbrev pub IsCaused : (List ℕ → Due → Type 0) → Option Files → Type 0 → List ℕ → Why → Type 0
IsCaused of known faulty name NoMemory = Unit {0}
IsCaused of known faulty name (SourceFault file) = (file ≡ 0) × faulty
IsCaused of known faulty name Ended = HasText of known name
IsCaused of known faulty name (SinkFault Out written) = HasText of known name
IsCaused of known faulty name why = HasCause of known name (answered why)

-- what is due, or the fault that came before it
abbrev pub IsDueOrFault : Due → Why → Type 0
IsDueOrFault what NoMemory = Unit {0}
IsDueOrFault what (SourceFault file) = Unit {0}
IsDueOrFault (answered answer) why = answer ≡ why
IsDueOrFault (writes text) why = IsOfText why

-- Each answer comes only by its cause; and where the store's files are known, it is what is due, unless the store or a
-- sink failed or memory ran out.
pub record IsExact (of : List ℕ → Due → Type 0) (known : Option Files) (faulty : Type 0) (name : List ℕ) (why : Why) : Type 0 where
  pub cause : IsCaused of known faulty name why
  pub due : (files : Files) (what : Due) → known ≡ Some files → IsDue of (file_named name files) what → IsDueOrFault what why

-- what was written is what is due
pub record IsWritten (of : List ℕ → Due → Type 0) (known : Option Files) (name : List ℕ) (before after : Option (List ℕ)) (r : Report) : Type 0 where
  pub text : List ℕ
  pub cause : HasCause of known name (writes text)
  pub taken : TakesText before after text r

-- the fact holds where a text was written
abbrev pub OnText : Why → Type 0 → Type 0
OnText why fact = IsOfText why → fact

-- the fact holds where none was
abbrev pub OnNoText : Why → Type 0 → Type 0
OnNoText why fact = (IsOfText why → ⊥) → fact

-- An answer where nothing is written. No other answer is one, so that a new answer is refused until it has a row.
abbrev pub IsRefusal : Why → Type 0
IsRefusal (Missing file) = Unit {0}
IsRefusal (SourceFault file) = Unit {0}
IsRefusal (Limit FileSize number) = Unit {0}
IsRefusal (BadClass file at why) = Unit {0}
IsRefusal (BadText line) = Unit {0}
IsRefusal (Unlisted file) = Unit {0}
IsRefusal NoMemory = Unit {0}
IsRefusal why = ⊥
