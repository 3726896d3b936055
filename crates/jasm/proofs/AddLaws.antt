-- What the calls of the assembler give, one after the other.
use Rattle.std.proofs.Common.{◌≡◌, ℕ, ◌<◌, List, length, Result, Err, Option, sym, ap, subst}
use Rattle.class_model.specs.declared.class_file.ClassFile.{ClassFile}
use Rattle.asm_text.specs.declared.line.Line.{Line}
use Rattle.asm_text.specs.Spelling.{BeginsWith}
use Rattle.asm_body.specs.declared.error.BodyError.{BodyError}
use Rattle.asm_body.specs.declared.error.BodyError.TheVariants as body_errors
use Rattle.asm_body.specs.Bodies.{or_line}
use Rattle.asm_class.specs.declared.assembly.Assembly.{Assembly}
use Rattle.asm_class.specs.States.{State, StepsOrNames}
use Rattle.asm_class.specs.Ends.{finished}
use Rattle.asm_class.specs.Stages.{after_line}
use Rattle.jasm.specs.declared.error.TextError.{TextError}
use Rattle.jasm.specs.declared.error.TextError.TheVariants as errors
use Rattle.jasm.specs.Texts.{Leads, Makes, Numbers, Adds, error_of, next_line}
use Rattle.jasm.specs.Texts.Makes.{ended, unread, refused, goes_on}

-- a text that begins with no line is refused
pub unread_adds : (e : TextError) (s : State) (line : ℕ) (text : List ℕ) (new : Assembly) → 0 < length text → Numbers (Err e) line text → Adds (Err e) s line text new
unread_adds (errors.Bad bad) s line text new some h = subst (λ b. Makes s line text (Err b)) (sym h.0) (unread s line text some h.1)
unread_adds errors.NoMemory s line text new some h = tt

-- so is one whose first line doesn't fit
pub misfit_adds : (e : BodyError) (s : State) (line : ℕ) (text : List ℕ) (new : Assembly) (said : Line) (rest : List ℕ)
    → BeginsWith text said rest → StepsOrNames (Err e) new (after_line line said s) → Adds (Err (error_of e)) s line text new
misfit_adds (body_errors.Bad bad) s line text new said rest b h = refused s line text bad (record { said = said; rest = rest; begins = b; made = h })
misfit_adds body_errors.NoMemory s line text new said rest b h = tt

-- what the rest makes, the text makes
pub next_makes : (s t : State) (line next : ℕ) (text rest : List ℕ) (made : Result ClassFile ℕ) → Leads s line text t rest → next ≡ next_line line
    → Makes t next rest made → Makes s line text made
next_makes s t line next text rest made h e m =
    goes_on s line text t rest made h (subst (λ n. Makes t n rest made) e m)

-- the end of the text
pub end_makes : (s : State) (line : ℕ) (text : List ℕ) (found : Option ClassFile) → length text ≡ 0 → found ≡ finished s → Makes s line text (or_line line found)
end_makes s line text found n e = ended s line text (or_line line found) n (ap (or_line line) e)
