-- The world that tables are.
use Rattle.std.specs.Prelude.{◌≡◌, ℕ, ◌<◌, ◌^◌, None, get_or, length, map}
use Rattle.link_resolution.specs.Tables.{tabulate}
use Rattle.link_model.specs.World.{World}
use Rattle.link_model.specs.InstanceFields.{instance_fields}
use Rattle.link_model.specs.Infos.{fields_of}
use Rattle.link_model.specs.Resolutions.{numbered}
use Rattle.link_model.specs.Numbering.{arrays_of, numbering_of}
use Rattle.link_model.specs.Strings.{strings_of}
use Rattle.link_tables.specs.PcTables.{AreByPc}
use Rattle.link_tables.specs.Places.{place_by}
use Rattle.link_numbers.specs.KnownClasses.{known_in}
use Rattle.link_tables.specs.declared.tables.Tables.TheInside.{Inside}

-- the known classes are those of the names, each method has a number, the tables of pcs are those of the codes, and the Strings those of
-- the program
pub record AreNumbered (a : Inside) : Type 0 where
  pub known : a.number_tables.known ≡ known_in a.number_tables.numbers.names
  pub arrays : a.number_tables.arrays.items ≡ arrays_of a.number_tables.numbers.depths
  pub numbering : a.number_tables.numbers ≡ numbering_of a.members
  pub instance_fields : a.member_tables.instance_fields.items ≡ tabulate (instance_fields a.members) (length a.members.classes)
  pub fields : a.member_tables.fields.items ≡ fields_of a.members
  pub places : (n : ℕ) → get_or a.member_tables.places.items n None ≡ place_by a.member_tables.fields.items a.member_tables.instance_fields.items n
  pub by_pc : AreByPc a.codes a.code_tables.by_pc.items
  pub few : length a.member_tables.methods.items < 2 ^ 32
  pub strings : a.code_tables.strings ≡ strings_of a.members

abbrev pub world_in : Inside → World
world_in a = record {
  program = a.members;
  names = a.number_tables.numbers.names;
  arrays = a.number_tables.arrays.items;
  fields = a.member_tables.fields.items;
  methods = a.member_tables.methods.items;
  codes = a.codes;
  resolutions = map (map (numbered a.code_tables.resolutions.table.items)) a.code_tables.resolutions.numbers.items;
  catches = a.code_tables.catches.items;
}
