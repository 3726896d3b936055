use Rattle.std.proofs.Common.{◌≡◌, drop}
use Rattle.std.specs.List.{fold}
use Rattle.link_resolution.specs.TextNumbers.{mixed}
use Rattle.link_resolution.proofs.text_numbers.with_last.Given as goal

abbrev pub invariant-loop-unit : goal.invariant-loop-unit
invariant-loop-unit l = fold mixed l.fn.hash l.units ≡ fold mixed l.hash (drop l.unit-index l.units)
