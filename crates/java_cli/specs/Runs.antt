-- The program of a command, which is to be run.
use Rattle.std.specs.Prelude.{◌≡◌, ◌≤◌, List, Option, Some, length}
use Rattle.class_model.specs.declared.class_file.ClassFile.{ClassFile}
use Rattle.jvm_edges.specs.Files.{Files}
use Rattle.link_soundness.specs.Library.{HasLibrary}
use Rattle.step_soundness.specs.OpeningLaws.{IsMain}
use Rattle.ref_model.specs.Setting.{Setting}
use Rattle.program_files.specs.Limits.{most_files, run_limits}
use Rattle.arguments.specs.Commands.{Run}
use Rattle.program_files.specs.MainClass.{class_named}
use Rattle.program_files.specs.Programs.{IsProgram}
use Rattle.input_files.specs.Contents.{Contents}
use Rattle.program_files.specs.Contents.{HaveContents, AreClasses}
use Rattle.java_cli.specs.declared.runnable.Runnable.{Runnable}
use Rattle.java_cli.specs.Causes.{Due, runs, IsDue, contents_of}

-- the program that the files of a command are, by the store's files
pub record IsGiven (known : Option Files) (c : Run) (p : Setting) : Type 0 where
  pub contents : List Contents
  pub classes : List ClassFile
  pub few : length c.files ≤ most_files
  pub holds : HaveContents known c.files contents
  pub read : AreClasses contents classes
  pub accepted : IsProgram (run_limits c.events) (class_named c.main) classes p

-- the program that was read, with the limits of a run, is the one that the files are
pub record HasRead (known : Option Files) (c : Run) (x : Runnable) : Type 0 where
  pub given : IsGiven known c (record { world = x.checked; main = x.main; limits = run_limits c.events })
  pub library : HasLibrary x.checked.program
  pub has_main : IsMain x.checked x.main

-- where the store's files are known, what is due is a run
abbrev pub IsRunDue : Option Files → Run → Type 0
IsRunDue known c = (files : Files) (due : Due) → known ≡ Some files → IsDue c (contents_of files c.files) due → (p : Setting) × (due ≡ runs p)
