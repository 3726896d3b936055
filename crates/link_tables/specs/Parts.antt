-- The tables of a world, part by part.
use Rattle.std.specs.Prelude.{◌≡◌, ℕ, ◌<◌, ◌^◌, None, get_or, length}
use Rattle.link_resolution.specs.Tables.{tabulate}
use Rattle.link_rules.specs.Program.{Program}
use Rattle.link_model.specs.InstanceFields.{instance_fields}
use Rattle.link_model.specs.Infos.{fields_of, methods_of, codes_of}
use Rattle.link_model.specs.Numbering.{arrays_of, numbering_of}
use Rattle.link_model.specs.Sites.{resolutions_of, catches_of}
use Rattle.link_model.specs.Strings.{strings_of}
use Rattle.link_model.specs.Worlds.{linking_of}
use Rattle.link_numbers.specs.KnownClasses.{known_in}
use Rattle.link_tables.specs.ResolutionTables.{AreListsOf}
use Rattle.link_tables.specs.PcTables.{AreByPc}
use Rattle.link_tables.specs.Places.{place_by}
use Rattle.link_tables.specs.declared.number_tables.NumberTables.{NumberTables}
use Rattle.link_tables.specs.declared.member_tables.MemberTables.{MemberTables}
use Rattle.link_tables.specs.declared.code_tables.CodeTables.{CodeTables}

-- the numbers are those of the program
pub record AreNumbers (p : Program) (t : NumberTables) : Type 0 where
  pub numbers : t.numbers ≡ numbering_of p
  pub arrays : t.arrays.items ≡ arrays_of (numbering_of p).depths
  pub known : t.known ≡ known_in (numbering_of p).names

-- the members and their places are those of the program
pub record AreMembers (p : Program) (t : MemberTables) : Type 0 where
  pub fields : t.fields.items ≡ fields_of p
  pub methods : t.methods.items ≡ methods_of p
  pub few : length t.methods.items < 2 ^ 32
  pub instance_fields : t.instance_fields.items ≡ tabulate (instance_fields p) (length p.classes)
  pub places : (n : ℕ) → get_or t.places.items n None ≡ place_by t.fields.items t.instance_fields.items n

-- the tables are those of the program's code
pub record AreOfCodes (p : Program) (t : CodeTables) : Type 0 where
  pub by_pc : AreByPc (codes_of p) t.by_pc.items
  pub resolutions : AreListsOf t.resolutions.table.items t.resolutions.numbers.items (resolutions_of (linking_of p))
  pub catches : t.catches.items ≡ catches_of (linking_of p)
  pub strings : t.strings ≡ strings_of p
