use Rattle.std.proofs.Common.{◌≡◌, drop}
use Rattle.descriptors.specs.declared.fronts.Front.TheVariants.{Brackets}
use Rattle.descriptors.specs.States.{Field, first_bad}
use Rattle.descriptors.proofs.fronts.bad_in_field.Given as goal

abbrev pub invariant-loop-index : goal.invariant-loop-index
invariant-loop-index l =
    first_bad (Field l.front) l.index (drop l.index l.units) ≡ first_bad (Field (Brackets 0)) l.fn.start (drop l.fn.start l.units)
