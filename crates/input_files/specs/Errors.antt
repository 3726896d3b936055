-- The answers to the errors of reading.
use Rattle.std.specs.Prelude.{Result, Ok, Err}
use Rattle.command_line.specs.declared.answer.Which.TheVariants.{FileSize}
use Rattle.command_line.specs.declared.answer.Why.{Why}
use Rattle.command_line.specs.declared.answer.Why.TheVariants.{Ended, Limit, Missing, SourceFault, BadClass, NoMemory}
use Rattle.input_files.specs.declared.error.LoadError.{LoadError}
use Rattle.input_files.specs.declared.error.LoadError.TheVariants as load
use Rattle.input_files.specs.Limits.{most_bytes}

abbrev pub load_answer : LoadError → Why
load_answer (load.Missing file) = Missing file
load_answer (load.SourceFault file) = SourceFault file
load_answer load.TooLarge = Limit FileSize most_bytes
load_answer (load.BadClass file at why) = BadClass file at why
load_answer load.NoMemory = NoMemory

-- the answer to files that were read, which is the end of the run that follows, or to one that was not
abbrev pub loaded_answer : {X : Type 0} → Result X LoadError → Why
loaded_answer (Ok x) = Ended
loaded_answer (Err error) = load_answer error

-- an error that has nothing to do with what the bytes of the file are
abbrev pub IsOfStore : LoadError → Type 0
IsOfStore (load.BadClass file at why) = ⊥
IsOfStore error = Unit {0}
