use Rattle.std.proofs.Common.{length}
use Rattle.heap_instructions.proofs.ArrayMakingLaws.{AreSomeMade}
use Rattle.heap_instructions.proofs.array_making.+make_arrays.Given as goal

abbrev pub decreases-make_arrays : goal.decreases-make_arrays
decreases-make_arrays g l = length l.lengths.now

abbrev pub invariant-loop : goal.invariant-loop
invariant-loop g l = AreSomeMade (g.W.EventWorld.world l.world) l.below l.inner (length l.fn.heap.objects) l.counter l.initial.heap l.heap
