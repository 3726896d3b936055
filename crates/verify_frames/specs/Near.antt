-- Local variables of one frame, and those of another.
use Rattle.std.specs.Prelude.{◌≡◌, ℕ, ◌+◌, ◌<◌, ◌≤◌, Bool, true, false, List, [], ◌∷◌, ◌++◌, Some, if◌then◌else◌}
use Rattle.stack_maps.specs.declared.types.VType.{VType}
use Rattle.stack_maps.specs.declared.types.VType.TheVariants as types
use Rattle.instruction_rows.specs.Contents.{is_wide, slot_types}
use Rattle.type_paths.specs.Paths.{Path, count_on, types_on}
use Rattle.verify_types.specs.Environment.{MapFrame}
use Rattle.verify_types.specs.TypeStates.{TypeState, padded}
use Rattle.verify_frames.specs.declared.overwritten.Like.{Like}
use Rattle.verify_frames.specs.declared.overwritten.Overwritten.{Overwritten}
use Rattle.verify_frames.specs.Frames.{frame_at}
use Rattle.verify_frames.specs.Overwrites.{AllWere, AreBut, is_noted, type_at}

abbrev pub slot_at : ℕ → VType → Overwritten
slot_at slot t = record { slot = slot; was = t }

-- the slots of a type, the first of this number
abbrev pub slots_at : ℕ → VType → List Overwritten
slots_at slot t = if is_wide t then slot_at slot t ∷ slot_at (slot + 1) types.Top ∷ [] else slot_at slot t ∷ []

-- these are types of the path p, among them all that it has after the path q, whatever comes after them
pub record Covers (p q : Path) (os : List Overwritten) : Type 0 where
  pub were : (ts tail : List VType) → types_on p ≡ Some ts → AllWere (slot_types ts ++ tail) os
  pub all : (c d i : ℕ) → count_on q ≡ Some c → count_on p ≡ Some d → c ≤ i → i < d → is_noted os i ≡ true

-- after these come all slots from one on and before another, which are unset
pub record Unsets (old new : List Overwritten) (from until : ℕ) : Type 0 where
  pub were : (ls : List VType) → ((i : ℕ) → from ≤ i → type_at ls i ≡ types.Top) → AllWere ls old → AllWere ls new
  pub before : (i : ℕ) → is_noted new i ≡ false → is_noted old i ≡ false
  pub all : (i : ℕ) → from ≤ i → i < until → is_noted new i ≡ true

-- these, and another where its slot isn't among them
abbrev pub adding : List Overwritten → Overwritten → List Overwritten
adding os o = if is_noted os o.slot then os else os ++ o ∷ []

abbrev pub merged : List Overwritten → List Overwritten → List Overwritten
merged os [] = os
merged os (p ∷ ps) = merged (adding os p) ps

-- local variables that are those of a path but for some are those of the other but for these
pub record Moves (max_locals : ℕ) (p q : Path) (os now : List Overwritten) : Type 0 where
  pub but : (ts us locals : List VType) → types_on p ≡ Some ts → types_on q ≡ Some us → AreBut os (padded max_locals (slot_types ts)) locals → AreBut now (padded max_locals (slot_types us)) locals

-- a frame that has the same flag, and these local variables but for what is noted
pub record IsMoved (fs : List MapFrame) (pc : ℕ) (os : List Overwritten) (locals : List VType) (uninit : Bool) : Type 0 where
  pub frame : MapFrame
  pub state : TypeState
  pub at : frame_at pc fs ≡ Some frame
  pub is : frame.state ≡ Some state
  pub but : AreBut os state.types.locals locals
  pub flag : state.this_uninit ≡ uninit

-- what is like one frame is like the frame at this pc
pub record IsNear (fs : List MapFrame) (like : Like) (pc : ℕ) (l : Like) : Type 0 where
  pub at : l.pc ≡ pc
  pub moves : (f : MapFrame) (t : TypeState) (locals : List VType) → frame_at like.pc fs ≡ Some f → f.state ≡ Some t → AreBut like.overwritten.items t.types.locals locals
      → IsMoved fs pc l.overwritten.items locals t.this_uninit
