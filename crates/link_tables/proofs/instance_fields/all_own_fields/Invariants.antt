use Rattle.std.proofs.Common.{◌≡◌}
use Rattle.link_resolution.specs.Tables.{tabulate}
use Rattle.link_model.specs.InstanceFields.{own_fields}
use Rattle.link_tables.proofs.instance_fields.all_own_fields.Given as goal

abbrev pub invariant-loop-class : goal.invariant-loop-class
invariant-loop-class l = l.all.items ≡ tabulate (own_fields l.members) l.class
