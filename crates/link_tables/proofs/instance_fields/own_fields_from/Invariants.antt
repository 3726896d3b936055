use Rattle.std.proofs.Common.{◌≡◌, ◌++◌, drop}
use Rattle.std.specs.Prelude.{filter_map}
use Rattle.std.specs.List.{enumerate_from}
use Rattle.link_model.specs.InstanceFields.{own_field, own_fields_from}
use Rattle.link_tables.proofs.instance_fields.own_fields_from.Given as goal

abbrev pub invariant-loop-index : goal.invariant-loop-index
invariant-loop-index l = own_fields_from l.first l.fields ≡ l.own.items ++ filter_map (own_field l.first) (enumerate_from l.index (drop l.index l.fields))
