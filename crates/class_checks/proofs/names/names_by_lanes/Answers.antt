use Rattle.std.proofs.Common.{arith}
use Rattle.class_checks.proofs.NamesByUnits.{text_names}
use Rattle.class_checks.proofs.names.names_by_lanes.Goals as goal

pub returns-clause-names : goal.returns-clause-names
returns-clause-names g c = text_names c.args.units.now _ _ (omega arith) c.names_from.ensures c.name_units_behind_first-behind.ensures.units
