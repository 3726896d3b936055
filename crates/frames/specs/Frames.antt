-- What the calls of a stack change, as functions on its frames (JVMS 2.6). The top frame is first, and so is the top of an
-- operand stack.
use Rattle.std.specs.Prelude.{ℕ, ◌+◌, ◌-◌, ◌<◌, ◌≤◌, List, [], ◌∷◌, ◌++◌, length, take, drop, reverse, replicate, slice_set}
use Rattle.instruction_rows.specs.declared.value.Slot.{Slot}
use Rattle.instruction_rows.specs.declared.value.Slot.TheVariants.{Second}
use Rattle.state_model.specs.Frames.{Frame}
use Rattle.frames.specs.Slots.{ascending, descending}

-- The frames of a stack; the slots after its top frame, as they were left; and how many frames it can take before it wants
-- memory to save where they lie.
pub record Frames : Type 0 where
  pub frames : List Frame
  pub spare : List Slot
  pub calls : ℕ

-- the top frame's local variables and its operands
abbrev pub top_locals : List Frame → List Slot
top_locals [] = []
top_locals (f ∷ below) = f.locals

abbrev pub top_stack : List Frame → List Slot
top_stack [] = []
top_stack (f ∷ below) = f.stack

-- its method's number and its pc, 0 where there is no frame
abbrev pub top_method : List Frame → ℕ
top_method [] = 0
top_method (f ∷ below) = f.method

abbrev pub top_pc : List Frame → ℕ
top_pc [] = 0
top_pc (f ∷ below) = f.pc

-- how many operands the top frame may have, and how many more
abbrev pub top_room : List Frame → ℕ
top_room [] = 0
top_room (f ∷ below) = f.room

abbrev pub room_left : List Frame → ℕ
room_left [] = 0
room_left (f ∷ below) = f.room - length f.stack

-- the top frame with another pc, another operand stack, a local variable set
abbrev pub at_pc : ℕ → List Frame → List Frame
at_pc pc [] = []
at_pc pc (f ∷ below) = record f { pc = pc } ∷ below

abbrev pub with_stack : List Slot → List Frame → List Frame
with_stack stack [] = []
with_stack stack (f ∷ below) = record f { stack = stack } ∷ below

abbrev pub with_local : ℕ → Slot → List Frame → List Frame
with_local i slot [] = []
with_local i slot (f ∷ below) = record f { locals = slice_set f.locals i slot } ∷ below

-- the frames with one more, of a method at pc 0: the operands that its call takes are its first local variables, in their
-- order, and the others are unset (JVMS 2.6.1)
abbrev pub entered : ℕ → ℕ → ℕ → ℕ → List Frame → List Frame
entered method locals room args frames =
    record { method = method; pc = 0; locals = reverse (take args (top_stack frames)) ++ replicate (locals - args) Second; stack = []; room = room }
    ∷ with_stack (drop args (top_stack frames)) frames

-- a stack after a call that takes no new memory
abbrev pub called : ℕ → ℕ → ℕ → ℕ → Frames → Frames
called method locals room args s = record { frames = entered method locals room args s.frames; spare = drop (locals - args) s.spare; calls = s.calls - 1 }

-- the frames without the top one, whose top operands go to the frame below
abbrev pub returned : ℕ → List Frame → List Frame
returned slots frames = with_stack (take slots (top_stack frames) ++ top_stack (drop 1 frames)) (drop 1 frames)

-- what a stack has after a call: where a slot is pushed or popped, the slots after the top frame change too
abbrev pub with_frames : List Frame → Frames → Frames
with_frames frames s = record s { frames = frames }

abbrev pub pushed : Slot → Frames → Frames
pushed slot s = record s { frames = with_stack (slot ∷ top_stack s.frames) s.frames; spare = drop 1 s.spare }

abbrev pub dropped : ℕ → Frames → Frames
dropped slots s = record s { frames = with_stack (drop slots (top_stack s.frames)) s.frames; spare = reverse (take slots (top_stack s.frames)) ++ s.spare }

abbrev pub popped : Frames → Frames
popped s = record s { frames = with_stack (drop 1 (top_stack s.frames)) s.frames; spare = take 1 (top_stack s.frames) ++ s.spare }

abbrev pub cleared : Frames → Frames
cleared s = record s { frames = with_stack [] s.frames; spare = reverse (top_stack s.frames) ++ s.spare }

abbrev pub left : Frames → Frames
left s = record { frames = drop 1 s.frames; spare = top_locals s.frames ++ (reverse (top_stack s.frames) ++ s.spare); calls = s.calls + 1 }

-- the top frame with another pc, and with this number of operands, which lie after its local variables
abbrev pub with_pc_and_operands : ℕ → ℕ → Frames → Frames
with_pc_and_operands pc used s =
    let slots = reverse (top_stack s.frames) ++ s.spare in
    record s { frames = at_pc pc (with_stack (descending slots 0 used) s.frames); spare = drop used slots }

-- the slots of all frames, those of the lowest first, and how many they are
abbrev pub slots_of : List Frame → List Slot
slots_of [] = []
slots_of (f ∷ below) = slots_of below ++ (f.locals ++ reverse f.stack)

abbrev pub size_of : List Frame → ℕ
size_of [] = 0
size_of (f ∷ below) = size_of below + length f.locals + length f.stack

-- all slots: those of the frames, then the spare ones
abbrev pub all_slots : Frames → List Slot
all_slots s = slots_of s.frames ++ s.spare

-- frames of the same sizes, with their slots read off a list
abbrev pub read_from : List Slot → List Frame → List Frame
read_from slots [] = []
read_from slots (f ∷ below) = record f {
  locals = ascending slots (size_of below) (length f.locals);
  stack = descending slots (size_of below + length f.locals) (length f.stack);
} ∷ read_from slots below

-- as many slots, with new ones in place of the first
abbrev pub over : List Slot → List Slot → List Slot
over slots new = take (length slots) (new ++ drop (length new) slots)

-- a stack with other slots
abbrev pub with_all_slots : Frames → List Slot → Frames
with_all_slots s new =
    let slots = over (all_slots s) new in
    record s { frames = read_from slots s.frames; spare = drop (size_of s.frames) slots }

-- all slots from the top frame's first one on
abbrev pub window : Frames → List Slot
window s = drop (size_of (drop 1 s.frames)) (all_slots s)

-- the top frame and what is spare, read off other slots; the frames below are as they were
abbrev pub top_read_from : List Slot → List Frame → List Frame
top_read_from slots [] = []
top_read_from slots (f ∷ below) = record f { locals = ascending slots 0 (length f.locals); stack = descending slots (length f.locals) (length f.stack) } ∷ below

abbrev pub with_window : List Slot → Frames → Frames
with_window slots s = record s {
  frames = top_read_from slots s.frames;
  spare = drop (length (top_locals s.frames) + length (top_stack s.frames)) slots;
}

-- whether a frame of this size can be pushed without new memory
abbrev pub HasRoom : Frames → ℕ → ℕ → Type 0
HasRoom s locals operands = (locals + operands ≤ length s.spare) × (0 < s.calls)
