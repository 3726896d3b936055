-- What the outcome of an instruction makes of the thread that had it. Whatever is said of steps holds on each stage.
use Rattle.std.specs.Prelude.{◌≡◌, ℕ, suc, Bool, true, false, List, ◌∷◌, Option, None, Some, length}
use Rattle.frames.specs.Frames.{at_pc}
use Rattle.link_model.specs.World.{World}
use Rattle.state_model.specs.Frames.{Frame}
use Rattle.verify_types.specs.Environment.{Instruction}
use Rattle.instruction_rows.specs.declared.value.Slot.{Slot}
use Rattle.ref_model.specs.Memory.{Memory}
use Rattle.ref_model.specs.declared.exception.Exception.{Exception}
use Rattle.ref_model.specs.Fetch.{fetched}
use Rattle.ref_model.specs.Effects.{Effect, asks}
use Rattle.ref_model.specs.Resuming.{asking_in}
use Rattle.ref_model.specs.State.{State}
use Rattle.ref_model.specs.Step.{after_effect}
use Rattle.ref_model.specs.Throwing.{exception_made, raised, throwing}
use Rattle.heap_objs.specs.Heap.{Heap}
use Rattle.heap_instructions.specs.declared.outcome.Outcome.{Outcome}
use Rattle.heap_instructions.specs.declared.outcome.Outcome.TheVariants.{Done, Throws, ThrowsObject, Asks, Undefined}
use Rattle.thread_steps.specs.declared.parts.Parts.{Parts}
use Rattle.thread_steps.specs.States.{Stage, memory_of, state_of, IsRunStep}

-- A new object of an exception was made in the heap, or there was no room for it: the OutOfMemoryError of the opening takes its place then.
abbrev pub IsExceptionMade : World → Exception → Heap → Heap → ℕ → Type 0
IsExceptionMade w e old new o = (a : Parts) → a.natives.heap ≡ old →
    exception_made w (memory_of a) e ≡ Some (memory_of (record a { natives = record a.natives { heap = new } }), o)

-- The machine throws an exception in the thread, whatever its frames are.
abbrev pub Raises : World → Exception → Parts → Parts → Type 0
Raises w e a b = (stage : Stage) (frames : List Frame) →
    raised w (state_of stage a frames) stage.number e ≡ Some (state_of stage b frames)

-- the same of an object that there is already
abbrev pub ThrowsAgain : ℕ → Parts → Parts → Type 0
ThrowsAgain o a b = (stage : Stage) (frames : List Frame) →
    throwing (state_of stage a frames) stage.number o ≡ state_of stage b frames

-- what an outcome that isn't done makes of the thread, and asks nothing; it changes no frame
abbrev pub EndsOtherwise : World → Outcome → Parts → Parts → Type 0
EndsOtherwise w Done a b = ⊥
EndsOtherwise w (Throws e) a b = Raises w e a b
EndsOtherwise w (ThrowsObject o) a b = ThrowsAgain o a b
EndsOtherwise w (Asks asked count) a b = ⊥
EndsOtherwise w Undefined a b = ⊥

-- Where it is done, the frame goes on at the next instruction; an exception changes no frame.
abbrev pub Concludes : World → ℕ → Outcome → Parts → List Frame → Parts → List Frame → Type 0
Concludes w next Done a frames b after = (b ≡ a) × (after ≡ at_pc next frames)
Concludes w next outcome a frames b after = EndsOtherwise w outcome a b × (after ≡ frames)

-- an effect that asks nothing
abbrev pub is_quiet : Effect → Bool
is_quiet (asks q stack) = false
is_quiet effect = true

-- an effect that asks nothing, and what it leads to
pub record Leads (w : World) (stage : Stage) (a b : Parts) (f : Frame) (below after : List Frame) (next : ℕ) (effect : Option Effect) : Type 0 where
  pub effect_is : Effect
  pub is : effect ≡ Some effect_is
  pub quiet : is_quiet effect_is ≡ true
  pub leads : after_effect w (state_of stage a (f ∷ below)) stage.number next f below effect_is ≡ Some (state_of stage b after)

-- What is done by the top frame, as a function of the memory, of the number of frames and of its operand stack, has an effect, which leads
-- from these parts and frames to those.
abbrev pub EffectSteps : World → ℕ → (Memory → ℕ → List Slot → Option Effect) → Parts → List Frame → Parts → List Frame → Type 0
EffectSteps w next act a frames b after = (stage : Stage) (f : Frame) (below : List Frame) → frames ≡ f ∷ below →
    Leads w stage a b f below after next (act (memory_of a) (suc (length below)) f.stack)

-- The instruction at the top frame's pc of a thread asks nothing, and leads from one state to the other.
pub record IsQuietStep (w : World) (t : ℕ) (r : State) (frames : List Frame) (q : State) : Type 0 where
  pub step : IsRunStep w t r frames q
  pub quiet : asking_in w r.memory frames ≡ None

-- The instruction at the top frame's pc, where it is this one, asks nothing, and leads from these parts and frames to those.
abbrev pub Steps : World → Instruction → Parts → List Frame → Parts → List Frame → Type 0
Steps w i a frames b after = (stage : Stage) (f : Frame) (below : List Frame) → frames ≡ f ∷ below → fetched w f ≡ Some i →
    IsQuietStep w stage.number (state_of stage a frames) frames (state_of stage b after)
