-- What lies on the operand stack of a frame that keeps to the typing: what its instruction takes, and what a native method takes.
use Rattle.std.specs.Prelude.{◌≡◌, ℕ, true, List, ◌∷◌, Some}
use Rattle.lib_table.specs.declared.native.Native.{Native}
use Rattle.instruction_rows.specs.Rows.{Invocation, invoke, static}
use Rattle.link_model.specs.World.{World}
use Rattle.verify_types.specs.Effects.{row_of}
use Rattle.verify_types.specs.Typing.{AreTyped}
use Rattle.state_model.specs.Frames.{Frame}
use Rattle.ref_model.specs.Members.{native_at}
use Rattle.ref_model.specs.Fetch.{Named, named_method}
use Rattle.ref_model.specs.Operands.{FindsOperands, FindsArguments}
use Rattle.frame_soundness.specs.Typed.{Typed}
use Rattle.frame_soundness.specs.CallLaws.{takes_receiver}
use Rattle.frame_soundness.specs.StepKinds.{IsLinkedWorld}
use Rattle.frame_soundness.specs.EnterLaws.{IsOfClass, IsChosen}

-- The operands of the instruction at hand are there, each of its kind.
abbrev pub OperandsAreThere : Type 0
OperandsAreThere = (w : World) (f : Frame) (below : List Frame) → IsLinkedWorld w → (t : Typed w (f ∷ below)) →
    FindsOperands w t.0.at.place.instruction.resolution (row_of t.0.at.place.instruction) f.stack

-- ---- native methods

-- So are the arguments of a native method of objects that was selected, and the receiver below them.
abbrev pub ArgumentsAreThere : Type 0
ArgumentsAreThere = (w : World) (f : Frame) (below : List Frame) (invocation : Invocation) (index : ℕ) (m chosen : Named) (n : Native) →
    AreTyped w → (t : Typed w (f ∷ below)) → row_of t.0.at.place.instruction ≡ invoke invocation index → takes_receiver invocation ≡ true →
    named_method w t.0.at.place.instruction.resolution ≡ Some m → IsChosen w m chosen → native_at w chosen.number ≡ Some n →
    FindsArguments w n f.stack

-- So are those of a static one.
abbrev pub StaticArgumentsAreThere : Type 0
StaticArgumentsAreThere = (w : World) (f : Frame) (below : List Frame) (index : ℕ) (m : Named) (n : Native) → AreTyped w →
    (t : Typed w (f ∷ below)) → row_of t.0.at.place.instruction ≡ invoke static index →
    named_method w t.0.at.place.instruction.resolution ≡ Some m → IsOfClass w m → native_at w m.number ≡ Some n → FindsArguments w n f.stack
