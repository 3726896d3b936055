-- The readers of a map, from left to right with the first fault (JVMS 4.7.4).
use Rattle.std.specs.Prelude.{ℕ, ◌+◌, ◌-◌, List, length, Result, Ok, Err, nat_lt, ◌==◌, ◌&&◌, if◌then◌else◌}
use Rattle.std.specs.Int.{is_in_range}
use Rattle.byte_reader.specs.declared.fault.Fault.{Fault}
use Rattle.byte_reader.specs.Reader.{◌>>=◌, Reader, fault_at, number_at, both, map_value, count_then, list_by, many}
use Rattle.stack_maps.specs.declared.types.FrameTypes.{FrameTypes}
use Rattle.stack_maps.specs.declared.types.FrameChange.{FrameChange}
use Rattle.stack_maps.specs.declared.types.VType.{VType}
use Rattle.stack_maps.specs.declared.types.VType.TheVariants.{Top, Int, Float, Double, Long, Null, UninitThis, Object, Uninit}
use Rattle.stack_maps.specs.declared.frames.DeltaFrame.{DeltaFrame}
use Rattle.stack_maps.specs.declared.error.MapWhy.{MapWhy}
use Rattle.stack_maps.specs.declared.error.MapWhy.TheVariants as whys
use Rattle.stack_maps.specs.Encoding.{Frame, Same, SameLocals1StackItem, SameLocals1StackItemExtended, Chop, SameExtended, Append, Full, delta_of}
use Rattle.stack_maps.specs.Changes.{change_of, locals_after, made_whole}

-- a number in one byte, and one in two
abbrev pub u1_at : Reader MapWhy ℕ
u1_at bytes = number_at whys.Short 1 bytes

abbrev pub u2_at : Reader MapWhy ℕ
u2_at bytes = number_at whys.Short 2 bytes

-- a type: its tag, and after 7 and 8 a number
unfoldable pub type_at : Reader MapWhy VType
type_at bytes = do
  tag ← u1_at bytes
  if tag.0 == 0 then Ok (Top, tag.1)
      else if tag.0 == 1 then Ok (Int, tag.1)
      else if tag.0 == 2 then Ok (Float, tag.1)
      else if tag.0 == 3 then Ok (Double, tag.1)
      else if tag.0 == 4 then Ok (Long, tag.1)
      else if tag.0 == 5 then Ok (Null, tag.1)
      else if tag.0 == 6 then Ok (UninitThis, tag.1)
      else if tag.0 == 7 then map_value Object u2_at tag.1
      else if tag.0 == 8 then map_value Uninit u2_at tag.1
      else Err (fault_at bytes whys.Tag)

-- a count, and that many types
abbrev pub types_at : Reader MapWhy (List VType)
types_at bytes = count_then whys.Short 2 (many type_at) bytes

-- what comes after the delta of a frame with the same locals and one item, with more locals, and with locals and stack of its own
abbrev pub item_frame_at : ℕ → Reader MapWhy Frame
item_frame_at delta = map_value (SameLocals1StackItemExtended delta) type_at

abbrev pub append_frame_at : ℕ → ℕ → Reader MapWhy Frame
append_frame_at delta count = map_value (Append delta) (many type_at count)

abbrev pub full_frame_at : ℕ → Reader MapWhy Frame
full_frame_at delta = map_value (λ (x : List VType × List VType). Full delta x.0 x.1) (both types_at types_at)

-- a frame of a type from 247 on, after this type
unfoldable pub wide_frame_at : ℕ → Reader MapWhy Frame
wide_frame_at kind bytes = do
  delta ← u2_at bytes
  if kind == 247 then item_frame_at delta.0 delta.1
      else if nat_lt kind 251 then Ok (Chop delta.0 (251 - kind), delta.1)
      else if kind == 251 then Ok (SameExtended delta.0, delta.1)
      else if nat_lt kind 255 then append_frame_at delta.0 (kind - 251) delta.1
      else full_frame_at delta.0 delta.1

-- a frame after one with that many locals
unfoldable pub frame_at : ℕ → Reader MapWhy Frame
frame_at locals bytes = do
  kind ← u1_at bytes
  if nat_lt kind.0 64 then Ok (Same kind.0, kind.1)
      else if nat_lt kind.0 128 then map_value (SameLocals1StackItem (kind.0 - 64)) type_at kind.1
      else if nat_lt kind.0 247 then Err (fault_at bytes whys.Reserved)
      else if is_in_range 248 250 kind.0 && nat_lt locals (251 - kind.0) then Err (fault_at bytes whys.Chop)
      else wide_frame_at kind.0 kind.1

-- the delta of a frame, and what it changes
abbrev pub delta_frame : Frame → DeltaFrame
delta_frame f = record { delta = delta_of f; change = change_of f }

-- What a frame is read after: its pc is `next` if its delta is 0, and `locals` are those of the
-- frame before.
pub record Before : Type 0 where
  pub next : ℕ
  pub locals : List VType

-- the pc of the frame, and what it changes
abbrev pub change_at : Before → ℕ → Reader MapWhy (ℕ × FrameChange)
change_at before more bytes =
    map_value (λ (d : DeltaFrame). (before.next + d.delta, d.change))
    (map_value delta_frame (frame_at (length before.locals))) bytes

-- what the frame after that one is read after
abbrev pub behind : Before → ℕ × FrameChange → Before
behind before c = record { next = c.0 + 1; locals = locals_after before.locals c.1.locals }

-- that many frames, each with its pc
unfoldable pub changes_at : FrameTypes → ℕ → Reader MapWhy (List (ℕ × FrameChange))
changes_at first count bytes = list_by change_at behind (record { next = 0; locals = first.locals }) count bytes

-- that many frames, each with its pc and all of its types
abbrev pub whole_frames_at : FrameTypes → ℕ → Reader MapWhy (List (ℕ × FrameTypes))
whole_frames_at first count bytes = map_value (made_whole first.locals) (changes_at first count) bytes

-- a count, that many frames, and no byte more
unfoldable pub changes_of : FrameTypes → List ℕ → Result (List (ℕ × FrameChange)) (Fault MapWhy)
changes_of first bytes = do
  count ← u2_at bytes
  changes ← changes_at first count.0 count.1
  if length changes.1 == 0 then Ok changes.0 else Err (fault_at changes.1 whys.Trailing)

-- the frames of these, whole
unfoldable pub table_of : FrameTypes → List ℕ → Result (List (ℕ × FrameTypes)) (Fault MapWhy)
table_of first bytes = do
  changes ← changes_of first bytes
  Ok (made_whole first.locals changes)
