use Rattle.std.proofs.Common.{◌≡◌, false, drop}
use Rattle.class_checks.specs.Names.{names_by}
use Rattle.class_checks.proofs.names.names_by_unit.Given as goal

abbrev pub invariant-loop-unit : goal.invariant-loop-unit
invariant-loop-unit l = names_by l.slashed l.angled l.begun (drop l.unit-index l.units) ≡ names_by false false false l.units
