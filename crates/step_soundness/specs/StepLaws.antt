-- Steps keep to the typing.
use Rattle.std.specs.Prelude.{◌≡◌, ℕ, List, ◌∷◌, Option, Some}
use Rattle.instruction_rows.specs.Rows.{Invocation, invoke}
use Rattle.link_model.specs.declared.sites.Resolution.{Resolution}
use Rattle.link_model.specs.Infos.{methods_of}
use Rattle.link_model.specs.World.{World}
use Rattle.verify_types.specs.Effects.{row_of}
use Rattle.verify_types.specs.Typing.{AreTyped}
use Rattle.state_model.specs.Frames.{Frame}
use Rattle.ref_model.specs.Setting.{Setting}
use Rattle.ref_model.specs.Memory.{Memory}
use Rattle.ref_model.specs.State.{State, with_frames}
use Rattle.ref_model.specs.Fetch.{Named, named_method}
use Rattle.ref_model.specs.Effects.{Effect}
use Rattle.ref_model.specs.Calls.{method_numbered, invoked}
use Rattle.ref_model.specs.Entries.{frames_at}
use Rattle.ref_model.specs.Step.{step}
use Rattle.ref_model.specs.Waiting.{at_time}
use Rattle.frame_soundness.specs.Typed.{Typed}
use Rattle.frame_soundness.specs.StateKinds.{MemoryFits}
use Rattle.frame_soundness.specs.TypedStates.{IsTypedState}
use Rattle.frame_soundness.specs.StepKinds.{IsLinkedWorld}
use Rattle.frame_soundness.specs.EnterLaws.{IsOfObjects, IsCallResult}
use Rattle.step_soundness.specs.Resolutions.{method_run, IsSelected, IsRowResolution, RunsFit, IsStepResolution}

-- ---- the threads of a state

-- a thread whose next step is an instruction has frames that keep to the typing
abbrev pub RunningIsTyped : Type 0
RunningIsTyped = (w : World) (r : State) (t : ℕ) (frames : List Frame) → IsTypedState w r → frames_at r t ≡ Some frames → Typed w frames

-- such frames may take their place
abbrev pub FramesKeep : Type 0
FramesKeep = (w : World) (r : State) (t : ℕ) (frames : List Frame) → IsTypedState w r → Typed w frames →
    IsTypedState w (with_frames r t frames)

-- ---- steps

-- An invocation that isn't local: a native method is done, one with code begins, or something is thrown.
abbrev pub InvocationsGoOn : Type 0
InvocationsGoOn = (w : World) (f : Frame) (below : List Frame) (invocation : Invocation) (index depth : ℕ) (r : Memory) (effect : Effect) →
    AreTyped w → MemoryFits w r → (t : Typed w (f ∷ below)) → row_of t.0.at.place.instruction ≡ invoke invocation index →
    IsRowResolution w t.0.at.place.instruction.resolution (invoke invocation index) r f.stack →
    invoked w t.0.at.place.instruction.resolution invocation r depth f.stack ≡ Some effect →
    IsCallResult w f below t.0.at.place.instruction.instr.next effect

-- Each step of a thread leaves a state that keeps to the typing.
abbrev pub StepKeeps : Type 0
StepKeeps = (p : Setting) (r q : State) (t : ℕ) (pick : Option ℕ) → IsLinkedWorld p.world → IsTypedState p.world r →
    IsStepResolution p.world r t → step p r t pick ≡ Some q → IsTypedState p.world q

-- Time leaves one too.
abbrev pub TimeKeeps : Type 0
TimeKeeps = (w : World) (r q : State) (now : ℕ) → IsTypedState w r → at_time r now ≡ Some q → IsTypedState w q

-- ---- what follows from linking

-- The run of a Thread object is as threads ask for it, in each linked world.
abbrev pub RunsAreSuch : Type 0
RunsAreSuch = (w : World) → w.methods ≡ methods_of w.program → RunsFit w

-- Of the method that is selected for objects of a class only what it is itself is asked: it has the signature of the one that is named
-- (JVMS 5.4.5, 5.4.6).
abbrev pub SelectionFits : Type 0
SelectionFits = (w : World) (resolution : Resolution) (invocation : Invocation) (m : Named) (class : ℕ) → w.methods ≡ methods_of w.program →
    named_method w resolution ≡ Some m →
    ((n : ℕ) (chosen : Named) → method_run w invocation m class ≡ Some n → method_numbered w n ≡ Some chosen → IsOfObjects w chosen) →
    IsSelected w resolution invocation m class
