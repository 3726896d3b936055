-- What a text of the assembler makes, line by line.
use Rattle.std.specs.Prelude.{◌≡◌, ℕ, ◌+◌, ◌<◌, List, length, min, Result, Ok, Err}
use Rattle.std.specs.Borrow.{Bor}
use Rattle.class_model.specs.declared.class_file.ClassFile.{ClassFile}
use Rattle.asm_text.specs.declared.line.Line.{Line}
use Rattle.asm_text.specs.Spelling.{BeginsWith}
use Rattle.asm_body.specs.Bodies.{or_line}
use Rattle.asm_body.specs.declared.error.BodyError.{BodyError}
use Rattle.asm_body.specs.declared.error.BodyError.TheVariants as body_errors
use Rattle.asm_pool.specs.Places.{IsPool}
use Rattle.asm_class.specs.declared.assembly.Assembly.{Assembly}
use Rattle.asm_class.specs.States.{State, state_of}
use Rattle.asm_class.specs.Ends.{start, finished}
use Rattle.asm_class.specs.Stages.{after_line}
use Rattle.jasm.specs.declared.error.TextError.{TextError}
use Rattle.jasm.specs.declared.error.TextError.TheVariants as errors

-- Lines are counted from 1; those past the greatest number of 32 bits have that number.
abbrev pub next_line : ℕ → ℕ
next_line line = min (line + 1) 0xffffffff

-- one line of the text leads to this state, and this is the rest
pub record Leads (s : State) (line : ℕ) (text : List ℕ) (t : State) (rest : List ℕ) : Type 0 where
  pub said : Line
  pub begins : BeginsWith text said rest
  pub made : after_line line said s ≡ Ok t

-- the text begins with a line, and it or one of the body whose end it is doesn't fit
pub record Misfits (s : State) (line : ℕ) (text : List ℕ) (bad : ℕ) : Type 0 where
  pub said : Line
  pub rest : List ℕ
  pub begins : BeginsWith text said rest
  pub made : after_line line said s ≡ Err bad

abbrev pub BeginsWithNone : List ℕ → Type 0
BeginsWithNone text = (l : Line) (rest : List ℕ) → BeginsWith text l rest → ⊥

-- The state, with the lines of the text from this one on, makes the class file, or names the first line that doesn't
-- fit.
pub data Makes : State → ℕ → List ℕ → Result ClassFile ℕ → Type 0 where
  -- no line is left; one that is missing is behind the last
  ended : (s : State) (line : ℕ) (text : List ℕ) (made : Result ClassFile ℕ) → length text ≡ 0 → made ≡ or_line line (finished s)
      → Makes s line text made
  -- what is left begins with no line
  unread : (s : State) (line : ℕ) (text : List ℕ) → 0 < length text → BeginsWithNone text → Makes s line text (Err line)
  refused : (s : State) (line : ℕ) (text : List ℕ) (bad : ℕ) → Misfits s line text bad → Makes s line text (Err bad)
  goes_on : (s : State) (line : ℕ) (text : List ℕ) (t : State) (rest : List ℕ) (made : Result ClassFile ℕ) → Leads s line text t rest
      → Makes t (next_line line) rest made → Makes s line text made

-- the text is assembled to the class file, or refused at the line
abbrev pub Assembles : List ℕ → Result ClassFile ℕ → Type 0
Assembles text made = Makes start 1 text made

-- ---- what calls give, unless memory ran out

-- what the text makes
abbrev pub Answers : Result ClassFile TextError → List ℕ → Type 0
Answers (Ok file) text = Assembles text (Ok file)
Answers (Err (errors.Bad line)) text = Assembles text (Err line)
Answers (Err errors.NoMemory) text = Unit {0}

-- the line at the front of a text, or its number
abbrev pub Numbers : Result (Line × Bor (List ℕ)) TextError → ℕ → List ℕ → Type 0
Numbers (Ok read) line text = BeginsWith text read.0 read.1.now
Numbers (Err (errors.Bad bad)) line text = (bad ≡ line) × BeginsWithNone text
Numbers (Err errors.NoMemory) line text = Unit {0}

-- the line is added, or the text is refused
abbrev pub Adds : Result (Bor (List ℕ)) TextError → State → ℕ → List ℕ → Assembly → Type 0
Adds (Ok rest) s line text new = Leads s line text (state_of new) rest.now × IsPool new.pool
Adds (Err (errors.Bad bad)) s line text new = Makes s line text (Err bad)
Adds (Err errors.NoMemory) s line text new = Unit {0}

-- the same error
abbrev pub error_of : BodyError → TextError
error_of (body_errors.Bad line) = errors.Bad line
error_of body_errors.NoMemory = errors.NoMemory
