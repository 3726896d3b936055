-- The body of a StackMapTable (JVMS 4.7.4).
use Rattle.std.specs.Prelude.{ℕ, ◌+◌, ◌-◌, ◌<◌, ◌≤◌, ◌^◌, List, [], ◌∷◌, ◌++◌, length, take}
use Rattle.std.specs.Int.{w16, to_be_bytes}
use Rattle.std.specs.List.{flat_map, AllByRecursion}
use Rattle.stack_maps.specs.declared.types.FrameTypes.{FrameTypes}
use Rattle.stack_maps.specs.declared.types.VType.{VType}
use Rattle.stack_maps.specs.declared.types.VType.TheVariants.{Top, Int, Float, Double, Long, Null, UninitThis, Object, Uninit, Named}

abbrev pub u1 : ℕ → List ℕ
u1 n = n ∷ []

abbrev pub u2 : ℕ → List ℕ
u2 n = to_be_bytes w16 n

-- a type: its tag, and after 7 and 8 a number
abbrev pub vtype : VType → List ℕ
vtype Top = u1 0
vtype Int = u1 1
vtype Float = u1 2
vtype Double = u1 3
vtype Long = u1 4
vtype Null = u1 5
vtype UninitThis = u1 6
vtype (Object class) = u1 7 ++ u2 class
vtype (Uninit new) = u1 8 ++ u2 new
vtype (Named dimensions base) = []

-- a type that a map can have
abbrev pub IsMapped : VType → Type 0
IsMapped (Object class) = class < 2 ^ 16
IsMapped (Uninit new) = new < 2 ^ 16
IsMapped (Named dimensions base) = ⊥
IsMapped plain = Unit {0}

abbrev pub vtypes : List VType → List ℕ
vtypes ts = flat_map vtype ts

abbrev pub AreMapped : List VType → Type 0
AreMapped ts = AllByRecursion IsMapped ts

-- A frame as it is encoded, by what it changes of the one before. The first number is its delta.
pub data Frame : Type 0 where
  Same : ℕ → Frame
  SameLocals1StackItem : ℕ → VType → Frame
  SameLocals1StackItemExtended : ℕ → VType → Frame
  Chop : ℕ → ℕ → Frame
  SameExtended : ℕ → Frame
  Append : ℕ → List VType → Frame
  Full : ℕ → List VType → List VType → Frame

-- the bytes of a frame, the first of which is its type
abbrev pub frame : Frame → List ℕ
frame (Same delta) = u1 delta
frame (SameLocals1StackItem delta item) = u1 (64 + delta) ++ vtype item
frame (SameLocals1StackItemExtended delta item) = u1 247 ++ u2 delta ++ vtype item
frame (Chop delta dropped) = u1 (251 - dropped) ++ u2 delta
frame (SameExtended delta) = u1 251 ++ u2 delta
frame (Append delta added) = u1 (251 + length added) ++ u2 delta ++ vtypes added
frame (Full delta locals stack) =
    u1 255 ++ u2 delta ++ u2 (length locals) ++ vtypes locals ++ u2 (length stack) ++ vtypes stack

-- a frame that is allowed after one with these locals
abbrev pub IsFrame : List VType → Frame → Type 0
IsFrame before (Same delta) = delta < 64
IsFrame before (SameLocals1StackItem delta item) = (delta < 64) × IsMapped item
IsFrame before (SameLocals1StackItemExtended delta item) = (delta < 2 ^ 16) × IsMapped item
IsFrame before (Chop delta dropped) =
    (delta < 2 ^ 16) × (1 ≤ dropped) × (dropped ≤ 3) × (dropped ≤ length before)
IsFrame before (SameExtended delta) = delta < 2 ^ 16
IsFrame before (Append delta added) =
    (delta < 2 ^ 16) × (1 ≤ length added) × (length added ≤ 3) × AreMapped added
IsFrame before (Full delta locals stack) =
    (delta < 2 ^ 16) × (length locals < 2 ^ 16) × AreMapped locals × (length stack < 2 ^ 16) × AreMapped stack

abbrev pub delta_of : Frame → ℕ
delta_of (Same delta) = delta
delta_of (SameLocals1StackItem delta item) = delta
delta_of (SameLocals1StackItemExtended delta item) = delta
delta_of (Chop delta dropped) = delta
delta_of (SameExtended delta) = delta
delta_of (Append delta added) = delta
delta_of (Full delta locals stack) = delta

-- the types at a frame after one with these locals
abbrev pub types_of : List VType → Frame → FrameTypes
types_of before (Same delta) = record { locals = before; stack = [] }
types_of before (SameLocals1StackItem delta item) = record { locals = before; stack = item ∷ [] }
types_of before (SameLocals1StackItemExtended delta item) = record { locals = before; stack = item ∷ [] }
types_of before (Chop delta dropped) = record { locals = take (length before - dropped) before; stack = [] }
types_of before (SameExtended delta) = record { locals = before; stack = [] }
types_of before (Append delta added) = record { locals = before ++ added; stack = [] }
types_of before (Full delta locals stack) = record { locals = locals; stack = stack }

-- each is allowed after the one before it, the first of them after one with these locals
abbrev pub AreFrames : List VType → List Frame → Type 0
AreFrames before [] = Unit {0}
AreFrames before (f ∷ fs) = IsFrame before f × AreFrames (types_of before f).locals fs

-- The frames whole, each with its pc. `next` is the pc of the first of them if its delta is 0: the
-- start of the code, or else the pc after that of the frame before.
abbrev pub whole_frames : ℕ → List VType → List Frame → List (ℕ × FrameTypes)
whole_frames next before [] = []
whole_frames next before (f ∷ fs) =
    (next + delta_of f, types_of before f)
    ∷ whole_frames (next + delta_of f + 1) (types_of before f).locals fs

-- a count, and the frames
abbrev pub table : List Frame → List ℕ
table fs = u2 (length fs) ++ flat_map frame fs
