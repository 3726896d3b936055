use Rattle.std.proofs.Common.{arith}
use Rattle.class_checks.proofs.NameUnitLaws.{units_on, units_whole}
use Rattle.class_checks.proofs.name_units.name_units_behind_first.Goals as goal

pub loop-at-preserved : goal.loop-at-preserved
loop-at-preserved g c = record {
  units = units_on c.loop-at.at c.args.units.now _ _ _ _ c.loop-at.invariant.units c.name_units_behind.ensures c.either-all.ensures;
  near = omega arith;
}

pub returns-clause-units : goal.returns-clause-units
returns-clause-units g c = units_whole _ c.loop-at.at c.args.units.now _ (omega arith) (omega arith) c.loop-at.invariant.units
