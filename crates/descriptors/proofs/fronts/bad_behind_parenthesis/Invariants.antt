use Rattle.std.proofs.Common.{◌≡◌, ◌≤◌, drop}
use Rattle.descriptors.specs.declared.fronts.Front.TheVariants.{Brackets}
use Rattle.descriptors.specs.States.{Args, first_bad}
use Rattle.descriptors.proofs.fronts.bad_behind_parenthesis.Given as goal

abbrev pub invariant-loop-index : goal.invariant-loop-index
invariant-loop-index l = record {
  few : l.slots ≤ 255;
  same : first_bad (Args l.slots l.front) l.index (drop l.index l.units) ≡ first_bad (Args 0 (Brackets 0)) 1 (drop 1 l.units);
}
