use Rattle.std.proofs.Common.{◌≡◌, ◌+◌, ◌-◌, ◌≤◌, take, drop}
use Rattle.class_checks.specs.NameUnits.{name_units_of, either}
use Rattle.class_checks.proofs.name_units.name_units_behind_first.Given as goal

abbrev pub invariant-loop-at : goal.invariant-loop-at
invariant-loop-at g l = record {
  units : l.all ≡ either (name_units_of (take 8 (drop l.last l.units)) (take 8 (drop (l.last + 1) l.units))) (name_units_of (take l.at l.units) (take l.at (drop 1 l.units)));
  near : l.at ≤ l.last + 7;
}

abbrev pub decreases-loop-at : goal.decreases-loop-at
decreases-loop-at g l = l.last + 8 - l.at
