-- The heap of alarms, and the sleepers whose alarms they are.
use Rattle.std.specs.Prelude.{◌≡◌, ℕ, ◌<◌, List, length, Option, Some, slice_index_or, Contains}
use Rattle.std.specs.Ordering.{ordering_then, nat_cmp}
use Rattle.std.specs.declared.cmp.Ordering.{Ordering}
use Rattle.std.specs.declared.cmp.Reverse.{Reverse}
use Rattle.std.specs.BinaryHeap.{IsHeap}
use Rattle.sleep_wheel.specs.declared.sleeper.Sleeper.{Sleeper}
use Rattle.sleep_wheel.specs.declared.alarms.Alarm.{Alarm}
use Rattle.sleep_wheel.specs.Sleepers.{slot_at, sleeper_cmp}

-- the alarm of a key
abbrev pub alarm_of : Sleeper → ℕ → Reverse Alarm
alarm_of s key = record { 0 = record { sleeper = s; key = key } }

-- the order of the heap: what wakes first is greatest
abbrev pub alarm_cmp : Reverse Alarm → Reverse Alarm → Ordering
alarm_cmp x y = ordering_then (sleeper_cmp y.0.sleeper x.0.sleeper) (nat_cmp y.0.key x.0.key)

-- the key still has the alarm's sleeper
abbrev pub IsLive : List (Option Sleeper) → Alarm → Type 0
IsLive slots alarm = slot_at slots alarm.key ≡ Some alarm.sleeper

-- the alarms are a heap, and each sleeper has its alarm
pub record Covers (slots : List (Option Sleeper)) (alarms : List (Reverse Alarm)) : Type 0 where
  pub heap : IsHeap alarm_cmp alarms
  pub held : (key : ℕ) (s : Sleeper) → slot_at slots key ≡ Some s → Contains alarms (alarm_of s key)

-- the alarm on top isn't stale
pub record IsOnTop (slots : List (Option Sleeper)) (alarms : List (Reverse Alarm)) : Type 0 where
  pub live : (x : Reverse Alarm) → 0 < length alarms → x ≡ slice_index_or alarms 0 x → IsLive slots x.0
