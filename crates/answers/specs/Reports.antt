-- What a report without a run says.
use Rattle.std.specs.Prelude.{◌≡◌, ◌⊎◌, ℕ, List, [], Option, length, take}
use Rattle.jvm_edges.specs.Bytes.{Appends}
use Rattle.arguments.specs.declared.command.CommandError.{CommandError}
use Rattle.arguments.specs.declared.command.CommandError.TheVariants as errors
use Rattle.command_line.specs.Answers.{NamesSomething, line_of}
use Rattle.command_line.specs.Commands.{no_names}
use Rattle.command_line.specs.declared.answer.SinkName.TheVariants.{Out}
use Rattle.command_line.specs.declared.answer.Why.{Why}
use Rattle.command_line.specs.declared.answer.Why.TheVariants.{Ended, Usage, SinkFault, NoMemory}
use Rattle.answers.specs.declared.report.Report.{Report}
use Rattle.answers.specs.Taken.{IsOutTaken, TakesLine}

-- Nothing was run: the history is empty, and neither sink took any output of a program.
pub record IsIdle (before after : Option (List ℕ)) (r : Report) : Type 0 where
  pub history : r.history.items ≡ []
  pub out_written : r.out_written ≡ 0
  pub err_written : r.err_written ≡ 0
  pub same : after ≡ before

-- the answer to arguments that give no command
abbrev pub refusal_of : CommandError → Why
refusal_of (errors.Usage text) = Usage
refusal_of errors.NoMemory = NoMemory

-- an answer is as before, or its line names something and there was no memory for it
abbrev pub IsSameOrNoMemory : Why → Why → Type 0
IsSameOrNoMemory before after = (after ≡ before) ⊎ (NamesSomething before × (after ≡ NoMemory))

-- ---- a text

-- the answers where a text is written
abbrev pub IsOfText : Why → Type 0
IsOfText Ended = Unit {0}
IsOfText (SinkFault Out written) = Unit {0}
IsOfText why = ⊥

-- This text was written to the out sink: all of it, unless the sink's fault is the answer, and then its front.
pub record TakesText (before after : Option (List ℕ)) (text : List ℕ) (r : Report) : Type 0 where
  pub out : Appends before (take r.out_written text) after
  pub out_taken : IsOutTaken r.why r.out_written (length text)

-- A text was written, and nothing was run: the out sink took the text, and the err sink the answer's line.
pub record Shown {O E : Type 0} (bytes : O → Option (List ℕ)) (old_out new_out : O) (contents : E → Option (List ℕ)) (faults : E → ℕ)
    (old new : E) (r : Report) : Type 0 where
  pub answer : IsOfText r.why
  pub history : r.history.items ≡ []
  pub text : List ℕ
  pub taken : TakesText (bytes old_out) (bytes new_out) text r
  pub err_written : r.err_written ≡ 0
  pub line : TakesLine contents faults old new (line_of no_names r.why) [] 0
