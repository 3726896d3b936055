use Rattle.std.proofs.Common.{◌≡◌, ◌+◌, ◌≤◌, vec_len}
use Rattle.std.specs.Vec.{vec_capacity}
use Rattle.std.specs.BinaryHeap.{heap_items, heap_len, heap_capacity}
use Rattle.slab.specs.Slab.{slab_len}
use Rattle.sleep_wheel.specs.Alarms.{Covers, IsOnTop}
use Rattle.sleep_wheel.proofs.DueLaws.{DueSoFar}
use Rattle.sleep_wheel.proofs.wheel.Wheel.due.Given as goal

abbrev pub invariant-loop-sleeper : goal.invariant-loop-sleeper
invariant-loop-sleeper l = record {
  covers : Covers l.self-inside.sleepers.slots (heap_items l.self-inside.alarms);
  on_top : IsOnTop l.self-inside.sleepers.slots (heap_items l.self-inside.alarms);
  so_far : DueSoFar l.now l.initial.self-inside.sleepers.slots l.self-inside.sleepers.slots l.threads.items;
  room : vec_len l.threads + slab_len l.self-inside.sleepers ≤ vec_capacity l.threads;
  sleepers : slab_len l.self-inside.sleepers ≤ slab_len l.initial.self-inside.sleepers;
  sleepers_room : l.self-inside.sleepers.capacity ≡ l.initial.self-inside.sleepers.capacity;
  alarms : heap_len l.self-inside.alarms ≤ heap_len l.initial.self-inside.alarms;
  alarms_room : heap_capacity l.self-inside.alarms ≡ heap_capacity l.initial.self-inside.alarms;
}

abbrev pub decreases-loop-sleeper : goal.decreases-loop-sleeper
decreases-loop-sleeper l = slab_len l.self-inside.sleepers
