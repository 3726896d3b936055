-- The run of the generated program.
use Rattle.std.specs.Prelude.{◌≡◌, ℕ, Bool, List, Option, codes}
use Rattle.ref_model.specs.declared.limits.Limits.{Limits}
use Rattle.ref_model.specs.Setting.{Setting}
use Rattle.step_soundness.specs.OpeningLaws.{IsMain}
use Rattle.link_soundness.specs.Library.{HasLibrary}
use Rattle.arguments.specs.Commands.{Gen}
use Rattle.command_line.specs.declared.answer.Why.{Why}
use Rattle.command_line.specs.declared.answer.Why.TheVariants.{NoMemory}
use Rattle.gen_load.specs.Program.{program}
use Rattle.program_files.specs.Limits.{run_limits}
use Rattle.program_files.specs.MainClass.{class_named}
use Rattle.program_files.specs.Programs.{IsProgram}
use Rattle.answers.specs.declared.report.Report.{Report}
use Rattle.java_cli.specs.Causes.{Due, answered, runs, IsOfRun, IsProgramDue, IsProgramRefusal}
use Rattle.java_cli.specs.Headline.{RanProgram}
use Rattle.java_cli.specs.declared.runnable.Runnable.{Runnable}

-- what such a run may have
abbrev pub most : Limits
most = run_limits 4194304

-- the class with main
abbrev pub main_name : List ℕ
main_name = class_named (codes "Load")

-- what is due to a number of threads: the run of the program, or what is wrong with its classes
abbrev pub IsGenDue : ℕ → Due → Type 0
IsGenDue count what = IsProgramDue most main_name (program count) what

-- what is due, unless memory ran out
abbrev pub IsDueOrNoMemory : Due → Why → Type 0
IsDueOrNoMemory what NoMemory = Unit {0}
IsDueOrNoMemory (answered answer) why = answer ≡ why
IsDueOrNoMemory (runs p) why = IsOfRun why

-- The answer is the one that is due, unless memory ran out.
abbrev pub IsGenExact : ℕ → Why → Type 0
IsGenExact count why = (what : Due) → IsGenDue count what → IsDueOrNoMemory what why

-- the program that was made, with the limits of such a run
pub record HasMade (count : ℕ) (x : Runnable) : Type 0 where
  pub program : IsProgram most main_name (program count) (record { world = x.checked; main = x.main; limits = most })
  pub library : HasLibrary x.checked.program
  pub has_main : IsMain x.checked x.main

-- the answer is no run's
abbrev pub IsGenRefusal : ℕ → Why → Type 0
IsGenRefusal count NoMemory = Unit {0}
IsGenRefusal count why = IsProgramRefusal main_name (program count) why

-- the run of this program, on the command's carriers
pub record RanGenerated (c : Gen) (gives : ℕ → Bool) (before after : Option (List ℕ)) (Errs : List ℕ → Type 0) (r : Report) : Type 0 where
  pub setting : Setting
  pub given : IsProgram most main_name (program c.count) setting
  pub ran : RanProgram setting gives c.carriers before after Errs r
