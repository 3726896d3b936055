-- Which program class files are.
use Rattle.std.specs.Prelude.{◌≡◌, ℕ, Bool, List, Some, is_some}
use Rattle.class_model.specs.declared.class_file.ClassFile.{ClassFile}
use Rattle.link_model.specs.World.{World}
use Rattle.link_model.specs.Worlds.{world_of}
use Rattle.link_model.specs.MainMethod.{main_of}
use Rattle.ref_model.specs.Setting.{Setting}
use Rattle.program_files.specs.Linking.{program_of, AreAccepted}
use Rattle.ref_model.specs.declared.limits.Limits.{Limits}

-- the linked world of class files, after the built-in classes
abbrev pub world_of_files : List ClassFile → World
world_of_files classes = world_of (program_of classes)

-- whether the class of this name declares a main method (JLS 12.1.4)
abbrev pub has_main : List ℕ → List ClassFile → Bool
has_main name classes = is_some (main_of (world_of_files classes) name)

-- the class of this name declares a main method, of this number
abbrev pub IsStarted : List ℕ → List ClassFile → ℕ → Type 0
IsStarted name classes main = main_of (world_of_files classes) name ≡ Some main

-- The classes are accepted and have main in the class of this name, which the program runs under these limits.
pub record IsProgram (most : Limits) (name : List ℕ) (classes : List ClassFile) (p : Setting) : Type 0 where
  pub accepted : AreAccepted classes
  pub main : IsStarted name classes p.main
  pub world : p.world ≡ world_of_files classes
  pub limits : p.limits ≡ most
