-- What local instructions do to frames that keep to the typing.
use Rattle.std.specs.Prelude.{◌≡◌, ℕ, true, false, List, ◌∷◌, length, nat_lt, Option, Some}
use Rattle.class_model.specs.declared.access_flags.TheConstants.{ACC_STATIC}
use Rattle.opcodes.specs.declared.op.ValueKind.{ValueKind}
use Rattle.link_rules.specs.Program.{has_flag}
use Rattle.instruction_rows.specs.Rows.{LocalRow, local, constant, wide_constant, returns, invoke, static}
use Rattle.instruction_rows.specs.SlotEffect.{divides_by_zero}
use Rattle.link_model.specs.declared.members.MethodCode.{MethodCode}
use Rattle.link_model.specs.World.{World}
use Rattle.link_model.specs.Decoded.{code_at}
use Rattle.verify_types.specs.Environment.{Instruction}
use Rattle.verify_types.specs.Effects.{row_of}
use Rattle.verify_types.specs.Typing.{AreTyped}
use Rattle.state_model.specs.Frames.{Frame}
use Rattle.ref_model.specs.Frames.{contents, is_left_openly}
use Rattle.ref_model.specs.Fetch.{fetched, Named, named_method}
use Rattle.ref_model.specs.LocalRows.{most_frames, has_local_call, row, rows}
use Rattle.frame_soundness.specs.Typed.{Typed}

-- there is a row, and it leaves such frames
pub record Goes (w : World) (after : Option (List Frame)) : Type 0 where
  pub frames : List Frame
  pub is : after ≡ Some frames
  pub typed : Typed w frames

-- A local row that doesn't divide by 0 is defined and keeps to the typing.
abbrev pub RowsGoOn : Type 0
RowsGoOn = (w : World) (f : Frame) (below : List Frame) (r : LocalRow) → AreTyped w → (t : Typed w (f ∷ below)) →
    row_of t.0.at.place.instruction ≡ local r → divides_by_zero r (contents f) ≡ false → Goes w (row w (f ∷ below))

-- So does a constant that is pushed.
abbrev pub ConstantsGoOn : Type 0
ConstantsGoOn = (w : World) (f : Frame) (below : List Frame) (index : ℕ) → AreTyped w → (t : Typed w (f ∷ below)) →
    row_of t.0.at.place.instruction ≡ constant index → Goes w (row w (f ∷ below))

abbrev pub WideConstantsGoOn : Type 0
WideConstantsGoOn = (w : World) (f : Frame) (below : List Frame) (index : ℕ) → AreTyped w → (t : Typed w (f ∷ below)) →
    row_of t.0.at.place.instruction ≡ wide_constant index → Goes w (row w (f ∷ below))

-- So does a return, but from a root frame, from one of a synchronized method, and from that of jvt.Native.hold.
abbrev pub ReturnsGoOn : Type 0
ReturnsGoOn = (w : World) (f : Frame) (below : List Frame) (kind : Option ValueKind) → AreTyped w → (t : Typed w (f ∷ below)) →
    row_of t.0.at.place.instruction ≡ returns kind → is_left_openly w f below ≡ false → Goes w (row w (f ∷ below))

-- So does a static call that is local. A linked program names a static method there, which has code where it isn't native.
abbrev pub StaticCallsGoOn : Type 0
StaticCallsGoOn = (w : World) (f : Frame) (below : List Frame) (index : ℕ) (m : Named) (code : MethodCode) → AreTyped w →
    (t : Typed w (f ∷ below)) → row_of t.0.at.place.instruction ≡ invoke static index →
    named_method w t.0.at.place.instruction.resolution ≡ Some m → has_flag ACC_STATIC m.method.flags ≡ true →
    code_at w m.number ≡ Some code → has_local_call w m ≡ true → nat_lt (length (f ∷ below)) most_frames ≡ true →
    Goes w (row w (f ∷ below))

-- What linking gives (JVMS 6.5): an invokestatic names a static method.
abbrev pub NamesStatic : World → Frame → Type 0
NamesStatic w f = (i : Instruction) (index : ℕ) (m : Named) → fetched w f ≡ Some i → row_of i ≡ invoke static index →
    named_method w i.resolution ≡ Some m → has_flag ACC_STATIC m.method.flags ≡ true

-- A local instruction, where it is defined, keeps to the typing.
abbrev pub RowKeeps : Type 0
RowKeeps = (w : World) (f : Frame) (below after : List Frame) → AreTyped w → NamesStatic w f → Typed w (f ∷ below) →
    row w (f ∷ below) ≡ Some after → Typed w after

-- So do so many.
abbrev pub RowsKeep : Type 0
RowsKeep = (w : World) (n : ℕ) (frames after : List Frame) → AreTyped w → ((f : Frame) → NamesStatic w f) → Typed w frames →
    rows w n frames ≡ Some after → Typed w after
