use Rattle.std.proofs.Common.{◌≡◌}
use Rattle.heap_instructions.specs.ArrayMaking.{references}
use Rattle.heap_instructions.proofs.array_making.references_to.Given as goal

abbrev pub invariant-loop-index : goal.invariant-loop-index
invariant-loop-index l = l.values ≡ references l.first l.step l.index
