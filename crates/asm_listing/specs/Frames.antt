-- The frames of a stack map, each as its line at its pc (JVMS 4.7.4). A map with another frame than a full one isn't
-- listed.
use Rattle.std.specs.Prelude.{ℕ, ◌+◌, List, [], ◌∷◌, ◌++◌, Option, Some, None, nat_lt, ◌==◌, if◌then◌else◌}
use Rattle.items.specs.Options.{◌>>=◌}
use Rattle.class_model.specs.declared.constant.Const.{Const}
use Rattle.asm_text.specs.declared.line.Line.TheVariants as lines
use Rattle.asm_text.specs.declared.line.FrameType.{FrameType}
use Rattle.asm_text.specs.declared.line.FrameType.TheVariants as types
use Rattle.asm_listing.specs.declared.code.PlacedLine.{PlacedLine}
use Rattle.asm_listing.specs.declared.frames.ListedType.{ListedType}
use Rattle.asm_listing.specs.declared.frames.Types.{Types}
use Rattle.asm_listing.specs.declared.frames.ListedFrame.{ListedFrame}
use Rattle.asm_listing.specs.declared.frames.FramesSoFar.{FramesSoFar}
use Rattle.asm_listing.specs.Numbers.{Reader, StepOn, repeat, u1_at, u2_at}
use Rattle.asm_listing.specs.Words.{label_of, class_at}
use Rattle.asm_listing.specs.Code.{Seen, seen, nothing, ended}

-- a type, and the pcs that it names
abbrev pub plain_type : FrameType → ListedType
plain_type t = record { frame_type = t; targets = [] }

abbrev pub new_type : ℕ → ListedType
new_type pc = record { frame_type = types.New (label_of pc); targets = pc ∷ [] }

abbrev pub object_at : List Const → Reader ListedType
object_at pool bytes = do
  index ← u2_at bytes
  name ← class_at pool index.0
  Some (plain_type (types.Ref name), index.1)

abbrev pub new_at : Reader ListedType
new_at bytes = do
  pc ← u2_at bytes
  Some (new_type pc.0, pc.1)

abbrev pub type_by : List Const → ℕ → Reader ListedType
type_by pool tag bytes =
    if tag == 0 then Some (plain_type types.Top, bytes)
    else if tag == 1 then Some (plain_type types.Int, bytes)
    else if tag == 4 then Some (plain_type types.Long, bytes)
    else if tag == 5 then Some (plain_type types.Null, bytes)
    else if tag == 6 then Some (plain_type types.This, bytes)
    else if tag == 7 then object_at pool bytes
    else if tag == 8 then new_at bytes
    else None

abbrev pub type_at : List Const → Reader ListedType
type_at pool bytes = do
  tag ← u1_at bytes
  type_by pool tag.0 tag.1

-- types, and the pcs that they name
pub record SeenTypes : Type 0 where
  pub types : List FrameType
  pub named : List ℕ

abbrev pub seen_types : Types → SeenTypes
seen_types t = record { types = t.types; named = t.named.items }

pub record SeenFrame : Type 0 where
  pub frame : PlacedLine
  pub named : List ℕ

abbrev pub seen_frame : ListedFrame → SeenFrame
seen_frame f = record { frame = f.frame; named = f.named.items }

abbrev pub with_type : SeenTypes → ListedType → SeenTypes
with_type ts t = record { types = ts.types ++ t.frame_type ∷ []; named = ts.named ++ t.targets }

abbrev pub one_type : List Const → StepOn SeenTypes
one_type pool types bytes = do
  t ← type_at pool bytes
  Some (with_type types t.0, t.1)

abbrev pub no_types : SeenTypes
no_types = record { types = []; named = [] }

abbrev pub types_at : List Const → Reader SeenTypes
types_at pool bytes = do
  count ← u2_at bytes
  repeat (one_type pool) count.0 no_types count.1

-- a pc has two bytes
abbrev pub frame_pc : ℕ → ℕ → Option ℕ
frame_pc next delta = if nat_lt 65535 (next + delta) then None else Some (next + delta)

-- the delta of a full frame
abbrev pub full_frame : Reader ℕ
full_frame bytes = do
  tag ← u1_at bytes
  if tag.0 == 255 then u2_at tag.1 else None

abbrev pub frame_of : ℕ → SeenTypes → SeenTypes → SeenFrame
frame_of pc locals stack = record {
  frame = record { pc = pc; line = lines.Frame locals.types stack.types };
  named = locals.named ++ stack.named;
}

-- the frame, where a delta of 0 tells the next pc
abbrev pub frame_at : List Const → ℕ → Reader SeenFrame
frame_at pool next bytes = do
  delta ← full_frame bytes
  pc ← frame_pc next delta.0
  locals ← types_at pool delta.1
  stack ← types_at pool locals.1
  Some (frame_of pc locals.0 stack.0, stack.1)

-- the frames so far, and the pc that a delta of 0 tells
pub record Framed : Type 0 where
  pub found : Seen
  pub next : ℕ

abbrev pub framed : FramesSoFar → Framed
framed f = record { found = seen f.found; next = f.next }

abbrev pub unframed : Framed
unframed = record { found = nothing; next = 0 }

abbrev pub with_frame : Framed → SeenFrame → Framed
with_frame so_far f = record {
  found = record { lines = so_far.found.lines ++ f.frame ∷ []; named = so_far.found.named ++ f.named };
  next = f.frame.pc + 1;
}

abbrev pub one_frame : List Const → StepOn Framed
one_frame pool so_far bytes = do
  f ← frame_at pool so_far.next bytes
  Some (with_frame so_far f.0, f.1)

-- the frames of a map, which are all of its bytes
abbrev pub map_lines : List Const → List ℕ → Option Seen
map_lines pool bytes = do
  count ← u2_at bytes
  framed ← repeat (one_frame pool) count.0 unframed count.1
  ended framed.0.found framed.1
