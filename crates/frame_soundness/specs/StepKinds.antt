-- What an instruction that is an event does to frames that keep to the typing, and to a memory whose values have their kinds.
use Rattle.std.specs.Prelude.{◌≡◌, ℕ, List, ◌∷◌, Some}
use Rattle.instruction_rows.specs.declared.value.Slot.{Slot}
use Rattle.instruction_rows.specs.Rows.{Event, event, get_static, put_static, get_field, put_field, new}
use Rattle.link_model.specs.declared.sites.Resolution.{Resolution}
use Rattle.link_model.specs.World.{World}
use Rattle.verify_types.specs.Effects.{row_of}
use Rattle.verify_types.specs.Typing.{AreTyped}
use Rattle.state_model.specs.Frames.{Frame}
use Rattle.ref_model.specs.Memory.{Memory}
use Rattle.ref_model.specs.Requests.{Request, request_result, calls}
use Rattle.ref_model.specs.Effects.{Effect, done, invokes, throws, throws_object, asks}
use Rattle.ref_model.specs.Frames.{behind}
use Rattle.ref_model.specs.Step.{event_effect}
use Rattle.frame_soundness.specs.Typed.{Typed}
use Rattle.frame_soundness.specs.StateKinds.{HasFieldKinds, MemoryFits}
use Rattle.frame_soundness.specs.EventLaws.{IsStaticResolution, IsInstanceResolution, OfReceiver, got_object, put_object, IsObjectResolution, HasDimensions, WithBack}

-- ---- what linking gives

pub record IsLinkedWorld (w : World) : Type 0 where
  pub typed : AreTyped w
  pub fields : HasFieldKinds w
  pub arrays : HasDimensions w

-- of the constant of an event, with this operand stack in this memory
abbrev pub IsEventResolution : World → Resolution → Event → Memory → List Slot → Type 0
IsEventResolution w resolution (get_static index) r stack = IsStaticResolution w resolution
IsEventResolution w resolution (put_static index) r stack = IsStaticResolution w resolution
IsEventResolution w resolution (get_field index) r stack = OfReceiver w r (got_object stack) (IsInstanceResolution w resolution)
IsEventResolution w resolution (put_field index) r stack = OfReceiver w r (put_object w resolution stack) (IsInstanceResolution w resolution)
IsEventResolution w resolution (new index) r stack = IsObjectResolution w resolution
IsEventResolution w resolution e r stack = Unit {0}

-- ---- what an event leaves

-- it is done: the frame goes on after it
pub record GoesOnBehind (w : World) (f : Frame) (below : List Frame) (next : ℕ) (q : Memory) (stack : List Slot) : Type 0 where
  pub frame : Frame
  pub is : behind f next stack ≡ Some frame
  pub typed : Typed w (frame ∷ below)
  pub values : MemoryFits w q

-- the frame goes on after it, with this operand stack
pub record FrameGoesOn (w : World) (f : Frame) (below : List Frame) (next : ℕ) (stack : List Slot) : Type 0 where
  pub frame : Frame
  pub is : behind f next stack ≡ Some frame
  pub typed : Typed w (frame ∷ below)

-- A request: a call goes into its frame, and the frame of any other goes on with what comes back.
abbrev pub IsAsked : World → Frame → List Frame → ℕ → Request → List Slot → Type 0
IsAsked w f below next (calls o g) stack = Typed w (g ∷ record f { stack = stack } ∷ below)
IsAsked w f below next q stack = WithBack (request_result q) stack (λ xs. FrameGoesOn w f below next xs)

-- an exception changes nothing, and no event invokes
abbrev pub IsResult : World → Frame → List Frame → ℕ → Effect → Type 0
IsResult w f below next (done q stack) = GoesOnBehind w f below next q stack
IsResult w f below next (invokes g stack) = ⊥
IsResult w f below next (throws e) = Unit {0}
IsResult w f below next (throws_object o) = Unit {0}
IsResult w f below next (asks q stack) = IsAsked w f below next q stack

-- An event of a frame that keeps to the typing leaves one that does, and a memory whose values have their kinds.
abbrev pub EventsGoOn : Type 0
EventsGoOn = (w : World) (f : Frame) (below : List Frame) (e : Event) (r : Memory) (effect : Effect) → IsLinkedWorld w → MemoryFits w r →
    (t : Typed w (f ∷ below)) → row_of t.0.at.place.instruction ≡ event e →
    IsEventResolution w t.0.at.place.instruction.resolution e r f.stack → event_effect w t.0.at.place.instruction.resolution e r f.stack ≡ Some effect →
    IsResult w f below t.0.at.place.instruction.instr.next effect
