-- The invariant of a linked world.
use Rattle.std.specs.Prelude.{◌≡◌}
use Rattle.link_rules.specs.Program.{Program}
use Rattle.link_rules.specs.Faults.{Links}
use Rattle.link_model.specs.Worlds.{world_of}
use Rattle.class_world.specs.Numbers.{HasNumbers}
use Rattle.class_world.specs.declared.world.World.TheInside.{Inside}

abbrev pub program_of : Inside → Program
program_of a = a.tables.program

pub record IsLinked (a : Inside) : Type 0 where
  pub links : Links a.tables.program
  pub tables : a.tables ≡ world_of a.tables.program
  pub numbers : HasNumbers a.tables
