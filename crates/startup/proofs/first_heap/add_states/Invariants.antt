use Rattle.std.proofs.Common.{◌≡◌, map}
use Rattle.std.specs.List.{range_with_len}
use Rattle.ref_model.specs.Opening.{thread_state}
use Rattle.startup.specs.FirstObjects.{with_objects}
use Rattle.startup.proofs.first_heap.add_states.Given as goal

abbrev pub invariant-loop-index : goal.invariant-loop-index
invariant-loop-index l = l.heap ≡ with_objects (map (thread_state l.class) (range_with_len 0 l.index)) l.fn.heap
