-- What a method that was selected does when it is entered, by a frame that keeps to the typing.
use Rattle.std.specs.Prelude.{◌≡◌, ℕ, suc, true, false, List, [], ◌∷◌, Some, slice_get}
use Rattle.class_model.specs.declared.access_flags.TheConstants.{ACC_STATIC}
use Rattle.lib_table.specs.declared.native.Native.{Native}
use Rattle.link_rules.specs.Program.{has_flag}
use Rattle.opcodes.specs.declared.op.ValueKind.TheVariants as kinds
use Rattle.instruction_rows.specs.Rows.{Invocation, invoke, static}
use Rattle.link_model.specs.World.{World}
use Rattle.verify_types.specs.Effects.{row_of}
use Rattle.verify_types.specs.Typing.{AreTyped}
use Rattle.state_model.specs.Frames.{Frame}
use Rattle.ref_model.specs.Kinds.{argument_slots}
use Rattle.ref_model.specs.Members.{native_at}
use Rattle.ref_model.specs.Memory.{Memory}
use Rattle.ref_model.specs.Fetch.{Named, named_method}
use Rattle.ref_model.specs.Effects.{Effect, done, invokes, throws, throws_object, asks}
use Rattle.ref_model.specs.Calls.{entered}
use Rattle.frame_soundness.specs.Typed.{Typed}
use Rattle.frame_soundness.specs.StateKinds.{MemoryFits}
use Rattle.frame_soundness.specs.CallLaws.{takes_receiver}
use Rattle.frame_soundness.specs.NativeKinds.{FitsNative}
use Rattle.frame_soundness.specs.StepKinds.{GoesOnBehind, IsAsked}

-- ---- what linking gives of a method (JVMS 4.6, 6.5)

-- a method of objects; a native one fits its descriptor
pub record IsOfObjects (w : World) (m : Named) : Type 0 where
  pub flag : has_flag ACC_STATIC m.method.flags ≡ false
  pub natives : (n : Native) → native_at w m.number ≡ Some n → FitsNative m.method.signature (kinds.Reference ∷ []) n

-- a method of a class
pub record IsOfClass (w : World) (m : Named) : Type 0 where
  pub flag : has_flag ACC_STATIC m.method.flags ≡ true
  pub natives : (n : Native) → native_at w m.number ≡ Some n → FitsNative m.method.signature [] n

-- What selection gives: the method that runs is one of objects, with the descriptor of the one that is named (JVMS 5.4.5, 5.4.6).
pub record IsChosen (w : World) (m chosen : Named) : Type 0 where
  pub signature : chosen.method.signature ≡ m.method.signature
  pub method : IsOfObjects w chosen

-- ---- the method is entered

-- A native method is done or asks, and the frame goes on; one with code begins, or does when it has its monitor, and the frame waits below
-- it.
abbrev pub IsCallResult : World → Frame → List Frame → ℕ → Effect → Type 0
IsCallResult w f below next (done q stack) = GoesOnBehind w f below next q stack
IsCallResult w f below next (invokes g stack) = Typed w (g ∷ record f { stack = stack } ∷ below)
IsCallResult w f below next (throws e) = Unit {0}
IsCallResult w f below next (throws_object o) = Unit {0}
IsCallResult w f below next (asks q stack) = IsAsked w f below next q stack

abbrev pub MethodsAreEntered : Type 0
MethodsAreEntered = (w : World) (f : Frame) (below : List Frame) (invocation : Invocation) (index depth : ℕ) (m chosen : Named) (r : Memory)
    (effect : Effect) → AreTyped w → MemoryFits w r → (t : Typed w (f ∷ below)) →
    row_of t.0.at.place.instruction ≡ invoke invocation index → takes_receiver invocation ≡ true →
    named_method w t.0.at.place.instruction.resolution ≡ Some m → slice_get w.methods chosen.number ≡ Some chosen.method →
    IsChosen w m chosen →
    entered w r depth chosen (suc (argument_slots m.method.signature)) f.stack ≡ Some effect →
    IsCallResult w f below t.0.at.place.instruction.instr.next effect

-- A static method is entered by its invokestatic.
abbrev pub StaticsAreEntered : Type 0
StaticsAreEntered = (w : World) (f : Frame) (below : List Frame) (index depth : ℕ) (m : Named) (r : Memory) (effect : Effect) →
    AreTyped w → MemoryFits w r → (t : Typed w (f ∷ below)) → row_of t.0.at.place.instruction ≡ invoke static index →
    named_method w t.0.at.place.instruction.resolution ≡ Some m → IsOfClass w m →
    entered w r depth m (argument_slots m.method.signature) f.stack ≡ Some effect →
    IsCallResult w f below t.0.at.place.instruction.instr.next effect
