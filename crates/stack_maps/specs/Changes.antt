-- What a frame changes of the one before it, and the frames made whole (JVMS 4.7.4).
use Rattle.std.specs.Prelude.{ℕ, ◌-◌, List, [], ◌∷◌, ◌++◌, length, take}
use Rattle.stack_maps.specs.declared.types.FrameTypes.{FrameTypes}
use Rattle.stack_maps.specs.declared.types.FrameChange.{FrameChange}
use Rattle.stack_maps.specs.declared.types.LocalsChange.{LocalsChange}
use Rattle.stack_maps.specs.declared.types.LocalsChange.TheVariants as changes
use Rattle.stack_maps.specs.declared.types.VType.{VType}
use Rattle.stack_maps.specs.Encoding.{Frame, Same, SameLocals1StackItem, SameLocals1StackItemExtended, Chop, SameExtended, Append, Full}

abbrev pub locals_change : Frame → LocalsChange
locals_change (Same delta) = changes.Same
locals_change (SameLocals1StackItem delta item) = changes.Same
locals_change (SameLocals1StackItemExtended delta item) = changes.Same
locals_change (Chop delta dropped) = changes.Chop dropped
locals_change (SameExtended delta) = changes.Same
locals_change (Append delta added) = changes.Append added
locals_change (Full delta locals stack) = changes.Full locals

abbrev pub stack_of : Frame → List VType
stack_of (Same delta) = []
stack_of (SameLocals1StackItem delta item) = item ∷ []
stack_of (SameLocals1StackItemExtended delta item) = item ∷ []
stack_of (Chop delta dropped) = []
stack_of (SameExtended delta) = []
stack_of (Append delta added) = []
stack_of (Full delta locals stack) = stack

abbrev pub change_of : Frame → FrameChange
change_of f = record { locals = locals_change f; stack = stack_of f }

-- the locals after a change of these
abbrev pub locals_after : List VType → LocalsChange → List VType
locals_after before changes.Same = before
locals_after before (changes.Chop dropped) = take (length before - dropped) before
locals_after before (changes.Append added) = before ++ added
locals_after before (changes.Full locals) = locals

-- the types at a frame after one with these locals
abbrev pub types_after : List VType → FrameChange → FrameTypes
types_after before c = record { locals = locals_after before c.locals; stack = c.stack }

-- The frames whole, each with its pc, the first of them after these locals.
abbrev pub made_whole : List VType → List (ℕ × FrameChange) → List (ℕ × FrameTypes)
made_whole before [] = []
made_whole before (c ∷ cs) = (c.0, types_after before c.1) ∷ made_whole (locals_after before c.1.locals) cs

-- the locals after all of these changes
abbrev pub locals_behind : List VType → List (ℕ × FrameChange) → List VType
locals_behind before [] = before
locals_behind before (c ∷ cs) = locals_behind (locals_after before c.1.locals) cs

-- the locals at the last of these frames, or those after which the first lies
abbrev pub locals_before : List VType → List (ℕ × FrameTypes) → List VType
locals_before first [] = first
locals_before first (frame ∷ frames) = locals_before frame.1.locals frames
