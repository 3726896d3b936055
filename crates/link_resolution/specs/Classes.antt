-- The invariant of the classes of a program.
use Rattle.std.specs.Prelude.{◌<◌, ◌^◌, length}
use Rattle.link_rules.specs.Program.{Program}
use Rattle.link_resolution.specs.declared.classes.Classes.TheInside.{Inside}
use Rattle.link_resolution.specs.ClassNames.{NamesAll}

abbrev pub program_of : Inside → Program
program_of a = record { classes = a.files.items; built_in = a.built_in }

pub record IsNamed (a : Inside) : Type 0 where
  pub few : length a.files.items < 2 ^ 32
  pub names : NamesAll a.files.items a.by_name
