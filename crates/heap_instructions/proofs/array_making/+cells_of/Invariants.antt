use Rattle.std.proofs.Common.{length}
use Rattle.heap_instructions.proofs.array_making.+cells_of.Given as goal

abbrev pub decreases-cells_of : goal.decreases-cells_of
decreases-cells_of l = length l.lengths.now
