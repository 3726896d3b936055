use Rattle.std.proofs.Common.{◌≡◌, ◌≤◌}
use Rattle.std.specs.BinaryHeap.{heap_items, heap_len, heap_capacity}
use Rattle.sleep_wheel.specs.Alarms.{Covers}
use Rattle.sleep_wheel.proofs.alarms.drop_stale.Given as goal

abbrev pub invariant-loop-top : goal.invariant-loop-top
invariant-loop-top l = record {
  covers : Covers l.sleepers.slots (heap_items l.alarms);
  len : heap_len l.alarms ≤ heap_len l.initial.alarms;
  capacity : heap_capacity l.alarms ≡ heap_capacity l.initial.alarms;
}

abbrev pub decreases-loop-top : goal.decreases-loop-top
decreases-loop-top l = heap_len l.alarms
