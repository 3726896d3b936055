-- What a wheel keeps.
use Rattle.std.specs.Prelude.{◌-◌, min}
use Rattle.std.specs.BinaryHeap.{heap_items, heap_len, heap_capacity}
use Rattle.slab.specs.Slab.{slab_len}
use Rattle.sleep_wheel.specs.declared.wheel.Wheel.TheInside.{Inside}
use Rattle.sleep_wheel.specs.Sleepers.{Sleepers}
use Rattle.sleep_wheel.specs.Alarms.{Covers, IsOnTop}

abbrev pub wheel_view : Inside → Sleepers
wheel_view a = record { slots = a.sleepers.slots; spare = min (a.sleepers.capacity - slab_len a.sleepers) (heap_capacity a.alarms - heap_len a.alarms) }

pub record IsWheel (a : Inside) : Type 0 where
  pub covers : Covers a.sleepers.slots (heap_items a.alarms)
  pub on_top : IsOnTop a.sleepers.slots (heap_items a.alarms)
