use Rattle.std.proofs.Common.{◌≡◌, map, take}
use Rattle.runtime_program.specs.Arrays.{inner_class}
use Rattle.runtime_program.proofs.array_classes.all_inner_classes.Given as goal

abbrev pub invariant-loop-array : goal.invariant-loop-array
invariant-loop-array l = l.inner.items ≡ map (inner_class l.tables) (take l.array-index l.array-items)
