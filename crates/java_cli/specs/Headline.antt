-- What a call of the machine did, from the words to what the sinks took.
use Rattle.std.specs.Prelude.{◌≡◌, ◌⊎◌, ℕ, ◌+◌, ◌<◌, ◌≤◌, Bool, true, List, [], ◌++◌, Option, Some, None, length, take, if◌then◌else◌}
use Rattle.jvm_edges.specs.Bytes.{Appends}
use Rattle.jvm_edges.specs.Files.{Files}
use Rattle.history.specs.declared.entry.Entry.{Entry}
use Rattle.history.specs.Java.{java}
use Rattle.schedule_model.specs.Run.{Scheduled, schedule_of}
use Rattle.schedule_model.specs.Stalled.{is_starved}
use Rattle.ref_model.specs.declared.ending.Ending.{Ending}
use Rattle.ref_model.specs.declared.ending.Ending.TheVariants as endings
use Rattle.ref_model.specs.declared.ending.Which.TheVariants as limits
use Rattle.ref_model.specs.Setting.{Setting}
use Rattle.ref_model.specs.State.{State}
use Rattle.ref_model.specs.Opening.{opening}
use Rattle.ref_model.specs.Ending.{ending}
use Rattle.ref_model.specs.Run.{run}
use Rattle.ref_model.specs.Looks.{is_stalled, look_of, machine_from}
use Rattle.carrier.specs.Runs.{AreGivenTimes, HaveReasons, IsComplete, LacksThreads, entries_left, live_threads, mounted_threads}
use Rattle.answers.specs.declared.report.Report.{Report}
use Rattle.answers.specs.Taken.{IsOutTaken, Takes, TakesLine, taken_of}
use Rattle.command_line.specs.declared.answer.SinkName.TheVariants.{Out, Err}
use Rattle.command_line.specs.declared.answer.Which.TheVariants.{Threads, Events}
use Rattle.command_line.specs.declared.answer.Why.{Why}
use Rattle.command_line.specs.declared.answer.Why.TheVariants.{Ended, MainThrew, Exited, Stalled, Starved, Usage, Limit, SinkFault, NoMemory}
use Rattle.history.specs.TraceText.{trace_text}
use Rattle.arguments.specs.Commands as commands
use Rattle.arguments.specs.Commands.{Command, Gen, Run}
use Rattle.command_line.specs.Commands.{Names, names_of}
use Rattle.java_cli.specs.Runs.{IsGiven}
use Rattle.command_line.specs.Answers.{line_of, fault_line, memory_line}
use Rattle.java_cli.specs.Causes.{IsOfRun}

-- ---- the answer to a run

-- The answer says how the program has ended; or, that it hasn't, and that no thread can go on, where it names the live ones; that each carrier
-- has a pinned thread that can't go on, while others could, where it names those; that a thread would make one more than there may be; or that
-- the history had room for fewer entries than a turn may make.
abbrev pub IsEndingAnswer : Setting → ℕ → Scheduled State → Why → Type 0
IsEndingAnswer p entries last Ended = ending last.state ≡ Some endings.Ended
IsEndingAnswer p entries last MainThrew = ending last.state ≡ Some endings.MainThrew
IsEndingAnswer p entries last (Exited status) = ending last.state ≡ Some (endings.Exited status)
IsEndingAnswer p entries last (Stalled threads) = (is_stalled p.world last.state ≡ true) × (threads ≡ live_threads last.state)
IsEndingAnswer p entries last (Starved threads) =
    (is_starved (look_of p.world last.state) last.schedule ≡ true) × (threads ≡ mounted_threads last.schedule.mounted)
IsEndingAnswer p entries last (Limit Threads number) = (number ≡ p.limits.threads) × LacksThreads p last
IsEndingAnswer p entries last (Limit Events number) =
    (ending last.state ≡ None) × (number ≡ p.limits.events) × (p.limits.events < entries + entries_left)
IsEndingAnswer p entries last why = ⊥

-- It is such an answer; or it names a sink that failed in place of one, which the run had all the same.
abbrev pub IsRunAnswer : Setting → ℕ → Scheduled State → Why → Type 0
IsRunAnswer p entries last (SinkFault which written) = (why : Why) × IsEndingAnswer p entries last why
IsRunAnswer p entries last why = IsEndingAnswer p entries last why

-- ---- what the sinks took

-- how much the err sink took of so many bytes: all, unless a sink's fault is the answer
abbrev pub IsErrTaken : Why → ℕ → ℕ → Type 0
IsErrTaken (SinkFault Out written) taken size = taken ≤ size
IsErrTaken (SinkFault Err written) taken size = (written ≡ taken) × (taken < size)
IsErrTaken why taken size = taken ≡ size

-- the history's text, where it is asked for
abbrev pub trace_part : Bool → ℕ → List Entry → List ℕ
trace_part trace carriers entries = if trace then trace_text carriers entries else []

-- what follows the program's error output: the line of the answer, and the history's text where it is asked for
abbrev pub tail_of : Names → Bool → ℕ → Report → List ℕ
tail_of names trace carriers r = line_of names r.why ++ trace_part trace carriers r.history.items

-- the same for this command
abbrev pub run_tail : Run → Report → List ℕ
run_tail c r = tail_of (names_of c) c.trace c.carriers r

-- Each entry of the report's history may stand where it stands, under the schedule of so many carriers; without its mounts and unmounts the
-- history is one of the reference machine for the program; the answer says how it ends; and what the sinks took is its output and error
-- output, or their fronts after a fault of the sink. Of the err sink, `Errs` says what it took where the error output is this. The history
-- has no more entries than the limit allows; each of its entries of time has a number that the clock gives, and a reason; and a program whose
-- main thread alone ends in time has ended.
pub record RanProgram (p : Setting) (gives : ℕ → Bool) (carriers : ℕ) (before after : Option (List ℕ)) (Errs : List ℕ → Type 0) (r : Report) : Type 0 where
  pub first : State
  pub last : Scheduled State
  pub begins : opening p ≡ Some first
  pub legal : schedule_of (machine_from p first) carriers r.history.items ≡ Some last
  pub runs : run p (java r.history.items) ≡ Some last.state
  pub answer : IsRunAnswer p (length r.history.items) last r.why
  pub few : length r.history.items ≤ p.limits.events
  pub times : AreGivenTimes gives r.history.items
  pub reasons : HaveReasons p first carriers r.history.items
  pub complete : IsComplete p last.state
  pub out : Appends before (take r.out_written last.state.memory.out) after
  pub out_taken : IsOutTaken r.why r.out_written (length last.state.memory.out)
  pub err : Errs last.state.memory.err
  pub err_taken : IsErrTaken r.why r.err_written (length last.state.memory.err)

-- so it is for the program that the command's files are, with the command's limit of events and on its carriers
pub record Ran (c : Run) (known : Option Files) (gives : ℕ → Bool) (before after : Option (List ℕ)) (Errs : List ℕ → Type 0) (r : Report) : Type 0 where
  pub program : Setting
  pub given : IsGiven known c program
  pub ran : RanProgram program gives c.carriers before after Errs r

-- the fact holds where the answer is that of a run
abbrev pub OnRun : Why → Type 0 → Type 0
OnRun why fact = IsOfRun why → fact

-- the fact holds where nothing was run
abbrev pub OnNoRun : Why → Type 0 → Type 0
OnNoRun why fact = (IsOfRun why → ⊥) → fact

-- ---- which command it was

-- the fact holds of the command, where the words spell a run
abbrev pub IfRun : Option Command → (Run → Type 0) → Type 0
IfRun (Some (commands.run c)) fact = fact c
IfRun command fact = Unit {0}

-- the fact holds of the file, where the words ask for the class file that its text makes
abbrev pub IfAsm : Option Command → (List ℕ → Type 0) → Type 0
IfAsm (Some (commands.asm file)) fact = fact file
IfAsm command fact = Unit {0}

-- the fact holds of the file, where the words ask for the listing of a class file
abbrev pub IfList : Option Command → (List ℕ → Type 0) → Type 0
IfList (Some (commands.list file)) fact = fact file
IfList command fact = Unit {0}

-- the fact holds of the command, where the words ask for a run of the generated program
abbrev pub IfGen : Option Command → (Gen → Type 0) → Type 0
IfGen (Some (commands.gen c)) fact = fact c
IfGen command fact = Unit {0}

-- the fact holds, where the words ask for the help or the version
abbrev pub IfHelp : Option Command → Type 0 → Type 0
IfHelp (Some commands.help) fact = fact
IfHelp command fact = Unit {0}

-- Usage is answered where the words spell no command, and only there; but memory may run out before they are read
pub record IsUsageExact (command : Option Command) (why : Why) : Type 0 where
  pub only : why ≡ Usage → command ≡ None
  pub due : command ≡ None → (why ≡ Usage) ⊎ (why ≡ NoMemory)

-- the answer to a run, where the out sink and the err sink failed after so many bytes
abbrev pub answer_with : Why → Option ℕ → Option ℕ → Why
answer_with why (Some n) failed = SinkFault Out n
answer_with why None (Some n) = SinkFault Err n
answer_with why None None = why

-- the line of that answer, where this is the line of the program's ending
abbrev pub line_after : Option ℕ → List ℕ → List ℕ
line_after None line = line
line_after (Some n) line = fault_line

-- the answer to a program that ended so, with the threads that it lists
abbrev pub ending_answer : List ℕ → Ending → Why
ending_answer listed endings.Ended = Ended
ending_answer listed endings.MainThrew = MainThrew
ending_answer listed (endings.Exited status) = Exited status
ending_answer listed endings.Stalled = Stalled listed
ending_answer listed endings.Starved = Starved listed
ending_answer listed (endings.Limit limits.Threads number) = Limit Threads number
ending_answer listed (endings.Limit limits.Events number) = Limit Events number
ending_answer listed other = NoMemory

-- A run was written: its history, its answer, and what the sinks took of these two outputs.
pub record Wrote {O E : Type 0} (bytes : O → Option (List ℕ)) (counts : O → ℕ) (old_out new_out : O) (contents : E → Option (List ℕ))
    (faults : E → ℕ) (old new : E) (names : Names) (trace : Bool) (carriers : ℕ) (entries : List Entry) (text errors : List ℕ) (why : Why)
    (r : Report) : Type 0 where
  pub out_fault : Option ℕ
  pub err_fault : Option ℕ
  pub history : r.history.items ≡ entries
  pub why_is : r.why ≡ answer_with why out_fault err_fault
  pub out : Takes bytes counts old_out new_out text out_fault
  pub out_written : r.out_written ≡ taken_of out_fault (length text)
  pub err_written : r.err_written ≡ taken_of err_fault (length errors)
  pub err_size : (n : ℕ) → err_fault ≡ Some n → n < length errors
  pub err : TakesLine contents faults old new (tail_of names trace carriers r) errors r.err_written

-- Memory ran out before anything was written.
pub record Unwritten {O E : Type 0} (old_out new_out : O) (contents : E → Option (List ℕ)) (faults : E → ℕ) (old new : E) (r : Report)
    : Type 0 where
  pub why : r.why ≡ NoMemory
  pub history : r.history.items ≡ []
  pub out_written : r.out_written ≡ 0
  pub err_written : r.err_written ≡ 0
  pub same : new_out ≡ old_out
  pub line : TakesLine contents faults old new memory_line [] 0

-- it is the answer to a run, or memory ran out
abbrev pub IsRunOrNoMemory : Why → Type 0
IsRunOrNoMemory why = IsOfRun why ⊎ (why ≡ NoMemory)
