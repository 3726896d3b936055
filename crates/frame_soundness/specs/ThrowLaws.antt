-- What an exception on its way does to frames that keep to the typing.
use Rattle.std.specs.Prelude.{◌≡◌, ℕ, false, List, ◌∷◌, Some, slice_get}
use Rattle.link_model.specs.World.{World}
use Rattle.verify_types.specs.Environment.{Handler}
use Rattle.verify_types.specs.Typing.{AreTyped}
use Rattle.state_model.specs.Frames.{Frame}
use Rattle.ref_model.specs.declared.exception.Exception.{Exception}
use Rattle.ref_model.specs.State.{JavaThread, State}
use Rattle.ref_model.specs.Frames.{is_root}
use Rattle.ref_model.specs.Throwing.{throwing, raised, handler_of, at_handler}
use Rattle.frame_soundness.specs.Typed.{Typed, Thrown}
use Rattle.frame_soundness.specs.TypedStates.{IsTypedState}

-- a thread that throws keeps its frames
abbrev pub ThrowsKeep : Type 0
ThrowsKeep = (w : World) (frames : List Frame) → Typed w frames → Thrown w frames

-- a frame that isn't a root frame is left
abbrev pub FramesAreLeft : Type 0
FramesAreLeft = (w : World) (f : Frame) (below : List Frame) → Thrown w (f ∷ below) → is_root w f below ≡ false → Thrown w below

-- the frame at a handler is there, and keeps to the typing
pub record IsHandled (w : World) (f : Frame) (below : List Frame) (h : Handler) (o : ℕ) : Type 0 where
  pub frame : Frame
  pub is : at_handler f h.row.handler o ≡ Some frame
  pub typed : Typed w (frame ∷ below)

abbrev pub HandlersGoOn : Type 0
HandlersGoOn = (w : World) (f : Frame) (below : List Frame) (class o : ℕ) (h : Handler) → AreTyped w → Thrown w (f ∷ below) →
    handler_of w class f ≡ Some h → IsHandled w f below h o

-- the frames of a thread in a state are such
abbrev pub OfFrames : State → ℕ → (List Frame → Type 0) → Type 0
OfFrames r t Holds = (x : JavaThread) → slice_get r.threads t ≡ Some x → Holds x.frames

-- A thread that throws an object, one of the program or one that the machine makes, leaves a state that keeps to the typing.
abbrev pub ThrowingKeeps : Type 0
ThrowingKeeps = (w : World) (r : State) (t o : ℕ) → IsTypedState w r → OfFrames r t (Thrown w) → IsTypedState w (throwing r t o)

abbrev pub RaisesKeep : Type 0
RaisesKeep = (w : World) (r q : State) (t : ℕ) (e : Exception) → IsTypedState w r → OfFrames r t (Thrown w) →
    raised w r t e ≡ Some q → IsTypedState w q
