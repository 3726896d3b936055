-- How frames lie in a stack: their slots one after the other, each frame's local variables first, and what else is
-- known of a frame in a record. What lies after the top frame is spare.
use Rattle.std.specs.Prelude.{ℕ, ◌≡◌, ◌+◌, ◌-◌, ◌≤◌, List, [], ◌∷◌, drop, reverse, vec_len}
use Rattle.std.specs.Vec.{vec_capacity}
use Rattle.instruction_rows.specs.declared.value.Slot.{Slot}
use Rattle.state_model.specs.Frames.{Frame}
use Rattle.frames.specs.Slots.{ascending, descending}
use Rattle.frames.specs.Frames.{Frames}
use Rattle.frames.specs.declared.record.Record.{Record}
use Rattle.frames.specs.declared.stack.Stack.TheInside.{Inside}

-- the index after a frame's operands
abbrev pub end_of : Record → ℕ
end_of r = r.base + r.locals + r.used

abbrev pub frame_of : List Slot → Record → Frame
frame_of slots r = record {
  method = r.method;
  pc = r.pc;
  locals = ascending slots r.base r.locals;
  stack = descending slots (r.base + r.locals) r.used;
  room = r.room;
}

-- the frames of records, the top one first; the lowest record is that of no frame
abbrev pub frames_of : List Slot → Record → List Record → List Frame
frames_of slots r [] = []
frames_of slots r (q ∷ qs) = frame_of slots r ∷ frames_of slots q qs

-- a frame lies right after the one below, with slots for all operands that it may have
pub record IsPlaced (len : ℕ) (r q : Record) : Type 0 where
  pub placed : r.base ≡ end_of q
  pub held : r.used ≤ r.room
  pub fits : r.base + r.locals + r.room ≤ len

-- no frame, at the first slot
pub record IsNoFrame (r : Record) : Type 0 where
  pub end : end_of r ≡ 0
  pub room : r.room ≡ 0

abbrev pub ArePlaced : ℕ → Record → List Record → Type 0
ArePlaced len r [] = IsNoFrame r
ArePlaced len r (q ∷ qs) = IsPlaced len r q × ArePlaced len q qs

abbrev pub saved_of : Inside → List Record
saved_of a = reverse a.saved.items

abbrev pub seen : Inside → Frames
seen a = record {
  frames = frames_of a.slots.items a.top (saved_of a);
  spare = drop (end_of a.top) a.slots.items;
  calls = vec_capacity a.saved - vec_len a.saved;
}

pub record IsStack (a : Inside) : Type 0 where
  pub placed : ArePlaced (vec_len a.slots) a.top (saved_of a)
  pub few : vec_len a.saved ≤ 2048
