use Rattle.std.proofs.Common.{◌≡◌, map, take}
use Rattle.state_model.specs.Objects.{text}
use Rattle.startup.specs.FirstObjects.{with_objects}
use Rattle.startup.proofs.first_heap.add_strings.Given as goal

abbrev pub invariant-loop-place : goal.invariant-loop-place
invariant-loop-place l = l.heap ≡ with_objects (map text (take l.place l.strings)) l.fn.heap
