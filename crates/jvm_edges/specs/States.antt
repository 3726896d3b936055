-- The states of the store and the sinks that this crate has.
use Rattle.std.specs.Prelude.{◌≡◌, ◌<◌, ◌-◌, ℕ, List, [], length, map, max, min, Option, String, string_bytes}
use Rattle.std.specs.Global.{Vec, Global}
use Rattle.jvm_edges.specs.Files.{Files}
use Rattle.jvm_edges.specs.Plan.{Plan, new_plan}

-- A store in memory: its files, and which of its calls fail.
pub record StoreState : Type 0 where
  pub files : Files
  pub plan : Plan

-- A sink in memory: its bytes, how many a put takes at most, how many it takes in all, and which of its calls fail.
pub record SinkState : Type 0 where
  pub bytes : List ℕ
  pub most : ℕ
  pub room : ℕ
  pub plan : Plan

-- A writer of std as a sink: the bytes that the writer holds, where they are known, and how often it failed.
pub record WriterState : Type 0 where
  pub contents : Option (List ℕ)
  pub faults : ℕ

-- files as lists of bytes
abbrev pub named_files : List (String Global × Vec ℕ) → Files
named_files files = map (λ file. (string_bytes file.0, file.1.items)) files

abbrev pub new_store : Files → List ℕ → StoreState
new_store files fail_at = record { files = files; plan = new_plan fail_at }

abbrev pub new_sink : ℕ → ℕ → List ℕ → SinkState
new_sink most room fail_at = record { bytes = []; most = most; room = room; plan = new_plan fail_at }

abbrev pub new_writer : Option (List ℕ) → WriterState
new_writer contents = record { contents = contents; faults = 0 }

-- how many more bytes the sink takes
abbrev pub room_left : SinkState → ℕ
room_left sink = sink.room - length sink.bytes

-- how many of so many bytes the next put takes: at least one, where there is one and room for it
abbrev pub next_taken : SinkState → ℕ → ℕ
next_taken sink offered = min (min offered (max sink.most 1)) (room_left sink)

-- the room of the sink is used up, where a put has so many bytes
abbrev pub FindsNoRoom : SinkState → ℕ → Type 0
FindsNoRoom sink offered = (0 < offered) × (room_left sink ≡ 0)
