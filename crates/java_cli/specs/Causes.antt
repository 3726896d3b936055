-- The answer that a command asks for, by the files of the store that its arguments name: the first cause in the order of
-- this file.
use Rattle.std.specs.Prelude.{◌≡◌, ◌⊎◌, ℕ, ◌<◌, ◌≤◌, false, List, length, take, map, Option, Some, None, slice_index}
use Rattle.jvm_edges.specs.Files.{file_named}
use Rattle.jvm_edges.specs.Files as store
use Rattle.class_model.specs.declared.class_file.ClassFile.{ClassFile}
use Rattle.ref_model.specs.Setting.{Setting}
use Rattle.arguments.specs.Commands.{Run}
use Rattle.command_line.specs.declared.answer.Which.TheVariants.{Files, FileSize, Threads, Events}
use Rattle.command_line.specs.declared.answer.Why.{Why}
use Rattle.command_line.specs.declared.answer.Why.TheVariants.{Ended, MainThrew, Exited, Stalled, Starved, Usage, Limit, Missing, SourceFault, BadClass, NoMain, LinkFault, VerifyFault, SinkFault, NoMemory}
use Rattle.input_files.specs.declared.error.LoadError.{LoadError}
use Rattle.input_files.specs.Contents.{Contents}
use Rattle.program_files.specs.Contents.{HaveContents, AreClasses, FirstWrong}
use Rattle.input_files.specs.Errors.{load_answer}
use Rattle.program_files.specs.Limits.{most_files, run_limits}
use Rattle.ref_model.specs.declared.limits.Limits.{Limits}
use Rattle.program_files.specs.Linking.{IsLinkFault, IsVerifyFault, AreAccepted}
use Rattle.program_files.specs.MainClass.{class_named}
use Rattle.program_files.specs.Programs.{has_main, IsProgram}

-- ---- the classes

-- What is due to a command: an answer without a run, or the run of a program.
pub data Due : Type 0 where
  answered : Why → Due
  runs : Setting → Due

-- The answer to classes that aren't run, where main is to be in the one of this name: the first fault of linking; then the first fault of
-- typing; then, of classes that are accepted, no main. No other answer is one.
abbrev pub IsProgramRefusal : List ℕ → List ClassFile → Why → Type 0
IsProgramRefusal name classes NoMain = AreAccepted classes × (has_main name classes ≡ false)
IsProgramRefusal name classes (LinkFault class reason) = IsLinkFault classes class reason
IsProgramRefusal name classes (VerifyFault class method pc reason) = IsVerifyFault classes class method pc reason
IsProgramRefusal name classes why = ⊥

-- what is due to classes, under these limits
abbrev pub IsProgramDue : Limits → List ℕ → List ClassFile → Due → Type 0
IsProgramDue most name classes (answered why) = IsProgramRefusal name classes why
IsProgramDue most name classes (runs p) = IsProgram most name classes p

-- ---- the whole command

-- what the command asks for, where its files are these and neither the store nor memory fails
pub data IsDue (c : Run) (contents : List Contents) (due : Due) : Type 0 where
  too_many : most_files < length c.files → due ≡ answered (Limit Files most_files) → IsDue c contents due
  wrong : length c.files ≤ most_files → (error : LoadError) → FirstWrong 0 contents error → due ≡ answered (load_answer error) → IsDue c contents due
  by_linking : length c.files ≤ most_files → (classes : List ClassFile) → AreClasses contents classes → IsProgramDue (run_limits c.events) (class_named c.main) classes due → IsDue c contents due

-- it is due by the store's files
pub record HasCause (known : Option store.Files) (c : Run) (what : Due) : Type 0 where
  pub contents : List Contents
  pub holds : HaveContents known c.files contents
  pub due : IsDue c contents what

-- a run is due
pub record HasRun (known : Option store.Files) (c : Run) : Type 0 where
  pub program : Setting
  pub cause : HasCause known c (runs program)

-- the files before the one of index n were read, and that one is to be read next
pub record IsReached (known : Option store.Files) (c : Run) (n : ℕ) : Type 0 where
  pub contents : List Contents
  pub classes : List ClassFile
  pub few : length c.files ≤ most_files
  pub within : n < length c.files
  pub holds : HaveContents known (take n c.files) contents
  pub read : AreClasses contents classes

-- The cause of each answer, where `faulty` says that the store failed.
abbrev pub IsCaused : Option store.Files → Type 0 → Run → Why → Type 0
IsCaused known faulty c NoMemory = Unit {0}
IsCaused known faulty c (SourceFault file) = faulty × IsReached known c file
IsCaused known faulty c Ended = HasRun known c
IsCaused known faulty c MainThrew = HasRun known c
IsCaused known faulty c (Exited status) = HasRun known c
IsCaused known faulty c (Stalled threads) = HasRun known c
IsCaused known faulty c (Starved threads) = HasRun known c
IsCaused known faulty c (Limit Threads number) = HasRun known c
IsCaused known faulty c (Limit Events number) = HasRun known c
IsCaused known faulty c (SinkFault which written) = HasRun known c
IsCaused known faulty c Usage = ⊥
IsCaused known faulty c why = HasCause known c (answered why)

-- the answers that a run may have
abbrev pub IsOfRun : Why → Type 0
IsOfRun Ended = Unit {0}
IsOfRun MainThrew = Unit {0}
IsOfRun (Exited status) = Unit {0}
IsOfRun (Limit Files number) = ⊥
IsOfRun (Limit FileSize number) = ⊥
IsOfRun (Limit Threads number) = Unit {0}
IsOfRun (Limit Events number) = Unit {0}
IsOfRun (Stalled threads) = Unit {0}
IsOfRun (Starved threads) = Unit {0}
IsOfRun (SinkFault which written) = Unit {0}
IsOfRun why = ⊥

-- what is due, or the fault that came before it
abbrev pub IsDueOrFault : Due → Why → Type 0
IsDueOrFault due NoMemory = Unit {0}
IsDueOrFault due (SourceFault file) = Unit {0}
IsDueOrFault (answered answer) why = answer ≡ why
IsDueOrFault (runs p) why = IsOfRun why

-- the contents of the files of these names
abbrev pub contents_of : store.Files → List (List ℕ) → List Contents
contents_of files names = map (λ name. file_named name files) names

-- Each answer comes only by its cause; and where the store's files are known, it is what is due, unless the store or a sink failed or
-- memory ran out.
pub record IsExact (known : Option store.Files) (faulty : Type 0) (c : Run) (why : Why) : Type 0 where
  pub cause : IsCaused known faulty c why
  pub due : (files : store.Files) (due : Due) → known ≡ Some files → IsDue c (contents_of files c.files) due → IsDueOrFault due why

-- An answer to a command that was not run. No other answer is one, so that a new answer is refused until it has a row.
abbrev pub IsRefusal : Why → Type 0
IsRefusal (Limit Files number) = Unit {0}
IsRefusal (Limit FileSize number) = Unit {0}
IsRefusal (Limit Threads number) = ⊥
IsRefusal (Limit Events number) = ⊥
IsRefusal (Missing file) = Unit {0}
IsRefusal (SourceFault file) = Unit {0}
IsRefusal (BadClass file at reason) = Unit {0}
IsRefusal NoMain = Unit {0}
IsRefusal (LinkFault class reason) = Unit {0}
IsRefusal (VerifyFault class method pc reason) = Unit {0}
IsRefusal NoMemory = Unit {0}
IsRefusal why = ⊥

-- ---- exactly one answer is due

-- the file consists of bytes, if there is one
abbrev pub AreBytes : Contents → Type 0
AreBytes None = Unit {0}
AreBytes (Some bytes) = (i : ℕ) → slice_index bytes i < 256

-- something is due, and what else is due is this
pub record OneIsDue (c : Run) (contents : List Contents) : Type 0 where
  pub what : Due
  pub due : IsDue c contents what
  pub only : (other : Due) → IsDue c contents other → other ≡ what
