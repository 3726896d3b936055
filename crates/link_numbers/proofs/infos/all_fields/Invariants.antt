use Rattle.std.proofs.Common.{◌≡◌, ◌++◌, drop}
use Rattle.std.specs.List.{flat_map, enumerate_from}
use Rattle.link_model.specs.Infos.{fields_in, fields_of}
use Rattle.link_numbers.proofs.infos.all_fields.Given as goal

abbrev pub invariant-loop-class : goal.invariant-loop-class
invariant-loop-class l = fields_of l.world ≡ l.fields.items ++ flat_map fields_in (enumerate_from l.class (drop l.class l.world.classes))
