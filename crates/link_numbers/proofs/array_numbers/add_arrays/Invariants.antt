use Rattle.std.proofs.Common.{◌≡◌, ◌++◌}
use Rattle.link_model.specs.Numbering.{arrays_of_base}
use Rattle.link_numbers.proofs.array_numbers.add_arrays.Given as goal

abbrev pub invariant-loop-dimensions : goal.invariant-loop-dimensions
invariant-loop-dimensions l = l.arrays.items ≡ l.fn.arrays.items ++ arrays_of_base l.base l.dimensions
