use Rattle.std.proofs.Common.{◌≡◌, ◌+◌, ◌≤◌, length}
use Rattle.std.specs.BinaryHeap.{heap_items, heap_len, heap_capacity}
use Rattle.slab.specs.Slab.{slab_len}
use Rattle.sleep_wheel.proofs.RebuildLaws.{Rebuilds}
use Rattle.sleep_wheel.proofs.alarms.rebuild.Given as goal

abbrev pub invariant-loop-key : goal.invariant-loop-key
invariant-loop-key l = record {
  can_next : (goal.iterator-loop-key).can_next l.key-iterator;
  is_finite : (goal.iterator-loop-key).is_finite l.key-iterator;
  rebuilds : Rebuilds l.sleepers (heap_items l.alarms) l.key-iterator;
  count : heap_len l.alarms + length l.key-iterator ≡ slab_len l.sleepers;
  room : heap_capacity l.fn.alarms ≤ heap_capacity l.alarms;
}
