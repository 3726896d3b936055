-- What it means that the frames of a thread keep to the typing of its program: the kinds of their slots are those of the states that the
-- typing has at their pcs (JVMS 4.10.1.6).
use Rattle.std.specs.Prelude.{◌≡◌, ℕ, Bool, true, false, List, [], ◌∷◌, Option, Some, None, Ok, slice_get, if◌then◌else◌}
use Rattle.std.specs.Option.{option_map, option_map_or}
use Rattle.items.specs.Options.{◌>>=◌}
use Rattle.stack_maps.specs.declared.types.VType.{VType}
use Rattle.instruction_rows.specs.declared.value.Slot.{Slot}
use Rattle.instruction_rows.specs.Contents.{Contents}
use Rattle.instruction_rows.specs.Rows.{row_goes_on}
use Rattle.instruction_rows.specs.TypeEffect.{type_pushed}
use Rattle.instruction_rows.specs.Soundness.{AreOf, HasKinds}
use Rattle.link_model.specs.declared.members.MethodInfo.{MethodInfo}
use Rattle.link_model.specs.World.{World}
use Rattle.verify_types.specs.ClassTypes.{type_of_kind}
use Rattle.verify_types.specs.TypeStates.{TypeState}
use Rattle.verify_types.specs.Environment.{Environment, environment}
use Rattle.verify_types.specs.Effects.{row_of, state_after}
use Rattle.verify_types.specs.Walk.{Placed, placed_at}
use Rattle.state_model.specs.Frames.{Frame}
use Rattle.ref_model.specs.Members.{is_initializer}
use Rattle.ref_model.specs.Monitors.{is_synchronized_at}

-- ---- one frame

-- The frame is at an instruction that the typing has a state before, and its operand stack has the method's room.
pub record IsAt (w : World) (f : Frame) : Type 0 where
  pub env : Environment
  pub method : environment w f.method ≡ Some env
  pub place : Placed
  pub there : placed_at env f.pc ≡ Some place
  pub state : TypeState
  pub has : place.state ≡ Some state
  pub room : f.room ≡ env.max_stack

-- all items but the last
abbrev pub but_last : {A : Type 0} → List A → List A
but_last [] = []
but_last (x ∷ []) = []
but_last (x ∷ y ∷ rest) = x ∷ but_last (y ∷ rest)

-- The local variables that the code of a method of this number names. The frame of a synchronized method has one more, the last, for its
-- monitor.
abbrev pub own_locals : World → ℕ → List Slot → List Slot
own_locals w method locals = if is_synchronized_at w method then but_last locals else locals

abbrev pub own_contents : World → Frame → Contents Slot
own_contents w f = record { locals = own_locals w f.method f.locals; stack = f.stack }

-- A frame whose next step is its instruction: its slots have the kinds of the state before it.
pub record Stands (w : World) (f : Frame) : Type 0 where
  pub at : IsAt w f
  pub kinds : HasKinds at.state.types (own_contents w f)

-- the operand stack with what comes back, if anything does
abbrev pub given_back : Option VType → List VType → List VType
given_back None rest = rest
given_back (Some t) rest = type_pushed t rest

-- A frame below another waits at its call: what the call leaves is what comes back on top of what the frame has. Its local variables have
-- the kinds of the state before the call too, for a handler of what the callee throws.
pub record Waits (w : World) (back : Option VType) (f : Frame) : Type 0 where
  pub at : IsAt w f
  pub after : TypeState
  pub is : state_after at.env at.place.instruction at.state ≡ Ok after
  pub rest : List VType
  pub given : after.types.stack ≡ given_back back rest
  pub goes_on : row_goes_on (row_of at.place.instruction) ≡ true
  pub kinds : HasKinds (record { locals = after.types.locals; stack = rest }) (own_contents w f)
  pub before : AreOf at.state.types.locals (own_locals w f.method f.locals)

-- ---- the frames of a thread, the top first

-- what a method gives back
abbrev pub result_type : World → MethodInfo → Option VType
result_type w m = option_map (type_of_kind w) m.signature.result

abbrev pub back_of : World → ℕ → Option VType
back_of w method = slice_get w.methods method >>= result_type w

abbrev pub initializes : World → ℕ → Bool
initializes w method = option_map_or is_initializer (slice_get w.methods method) false

-- The frame below one of this method: below a class initializer it hasn't begun its instruction, and elsewhere it waits.
abbrev pub IsUnder : World → ℕ → Frame → Bool → Type 0
IsUnder w method f true = Stands w f
IsUnder w method f false = Waits w (back_of w method) f

abbrev pub AreUnder : World → ℕ → List Frame → Type 0
AreUnder w method [] = Unit {0}
AreUnder w method (f ∷ below) = IsUnder w method f (initializes w method) × AreUnder w f.method below

-- the frames of a thread whose next step is an instruction
abbrev pub Typed : World → List Frame → Type 0
Typed w [] = ⊥
Typed w (f ∷ below) = Stands w f × AreUnder w f.method below

-- ---- of a thread that throws: only the local variables of the top frame are looked at

pub record Throws (w : World) (f : Frame) : Type 0 where
  pub at : IsAt w f
  pub locals : AreOf at.state.types.locals (own_locals w f.method f.locals)

abbrev pub Thrown : World → List Frame → Type 0
Thrown w [] = ⊥
Thrown w (f ∷ below) = Throws w f × AreUnder w f.method below
