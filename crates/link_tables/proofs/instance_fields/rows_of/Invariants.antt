use Rattle.std.proofs.Common.{◌≡◌, ◌++◌, drop}
use Rattle.std.specs.List.{flat_map}
use Rattle.link_resolution.specs.Tables.{row_at}
use Rattle.link_tables.proofs.instance_fields.rows_of.Given as goal

abbrev pub invariant-loop-class : goal.invariant-loop-class
invariant-loop-class l = flat_map (row_at l.rows) l.classes ≡ l.all.items ++ flat_map (row_at l.rows) (drop l.class-index l.classes)
