-- What a command names in the lines of its answers.
use Rattle.std.specs.Prelude.{ℕ, List, [], ◌∷◌, Option, Some}
use Rattle.arguments.specs.Commands.{Command, Run, run, asm, list}
use Rattle.command_line.specs.declared.names.Names as code
pub use Rattle.arguments.specs.Commands.{texts}

-- the arguments that name the main class and the files
pub record Names : Type 0 where
  pub main : List ℕ
  pub files : List (List ℕ)

abbrev pub names_of : Run → Names
names_of r = record { main = r.main; files = r.files }

-- those of a command that names these files and no main class
abbrev pub names_of_files : List (List ℕ) → Names
names_of_files files = record { main = []; files = files }

abbrev pub no_names : Names
no_names = record { main = []; files = [] }

-- the names in what arguments spell, which may be no command
abbrev pub names_in : Option Command → Names
names_in (Some (run r)) = names_of r
names_in (Some (asm file)) = names_of_files (file ∷ [])
names_in (Some (list file)) = names_of_files (file ∷ [])
names_in command = no_names

-- names of the code
abbrev pub names_meaning : code.Names → Names
names_meaning n = record { main = n.main.now; files = texts n.files.now }
