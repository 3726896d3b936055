-- What a step asks of the constant of its instruction: facts that linking gives, about this instruction and the object at hand alone, so that
-- each can be tested by look-ups (JVMS 5.4.3, 5.4.6, 6.5).
use Rattle.std.specs.Prelude.{◌≡◌, ℕ, true, false, List, [], ◌∷◌, Option, Some, None, drop, slice_get}
use Rattle.class_model.specs.declared.access_flags.TheConstants.{ACC_STATIC}
use Rattle.link_rules.specs.declared.place.MemberPlace.{MemberPlace}
use Rattle.link_rules.specs.Program.{has_flag}
use Rattle.vthread_state.specs.declared.phase.Phase.TheVariants.{Throwing}
use Rattle.vthread_state.specs.declared.thread.Status.{Status}
use Rattle.vthread_state.specs.declared.thread.Status.TheVariants.{New, Live, Done}
use Rattle.link_model.specs.declared.members.MethodInfo.{MethodInfo}
use Rattle.items.specs.Options.{◌>>=◌}
use Rattle.descriptors.specs.declared.kind.Signature.{Signature}
use Rattle.opcodes.specs.declared.op.ValueKind.TheVariants as kinds
use Rattle.link_rules.specs.declared.choice.Choice.{Choice}
use Rattle.link_rules.specs.declared.choice.Choice.TheVariants.{Method, Abstract, Several}
use Rattle.link_rules.specs.Members.{method_number}
use Rattle.instruction_rows.specs.declared.value.Slot.{Slot}
use Rattle.instruction_rows.specs.Rows.{Row, Invocation, virtual, special, static, interface, dynamic, invoke, event}
use Rattle.instruction_rows.specs.SlotEffect.{popped}
use Rattle.link_model.specs.declared.sites.Resolution.{Resolution}
use Rattle.link_model.specs.World.{World}
use Rattle.link_model.specs.Methods.{choice_of}
use Rattle.verify_types.specs.Environment.{Instruction}
use Rattle.verify_types.specs.Effects.{row_of}
use Rattle.state_model.specs.Frames.{Frame}
use Rattle.ref_model.specs.Classes.{is_sub}
use Rattle.ref_model.specs.Kinds.{argument_slots}
use Rattle.ref_model.specs.Memory.{Memory}
use Rattle.ref_model.specs.State.{State}
use Rattle.ref_model.specs.Fetch.{fetched, Named, named_method}
use Rattle.ref_model.specs.Calls.{method_numbered}
use Rattle.ref_model.specs.Starting.{run_method}
use Rattle.frame_soundness.specs.EventLaws.{OfReceiver}
use Rattle.frame_soundness.specs.StepKinds.{IsEventResolution}
use Rattle.frame_soundness.specs.EnterLaws.{IsOfClass, IsChosen}

-- ---- the method that runs on an object of a class

abbrev pub chosen_method : World → Choice → Option ℕ
chosen_method w (Method at) = Some (method_number w.program at)
chosen_method w Abstract = None
chosen_method w Several = None

-- its number, where one is selected
abbrev pub method_run : World → Invocation → Named → ℕ → Option ℕ
method_run w virtual m class = choice_of w class m.number >>= chosen_method w
method_run w (interface count) m class = choice_of w class m.number >>= chosen_method w
method_run w special m class = Some m.number
method_run w static m class = None
method_run w dynamic m class = None

-- the receiver of a method of this descriptor, below the arguments
abbrev pub receiver : Signature → List Slot → Option ℕ
receiver s stack = popped kinds.Reference (drop (argument_slots s) stack) >>= λ x. x.0

-- The method that is selected for objects of this class, where it is below the one that is named, fits the one that is named.
abbrev pub IsSelected : World → Resolution → Invocation → Named → ℕ → Type 0
IsSelected w resolution invocation m class = (named n : ℕ) (chosen : Named) → resolution.class ≡ Some named → is_sub w class named ≡ true →
    method_run w invocation m class ≡ Some n → method_numbered w n ≡ Some chosen → IsChosen w m chosen

-- ---- one instruction

-- the method that an invocation names: a static one, or one for whose receiver at hand a method is selected
abbrev pub IsInvocation : World → Resolution → Invocation → Named → Memory → List Slot → Type 0
IsInvocation w resolution static m r stack = IsOfClass w m
IsInvocation w resolution dynamic m r stack = Unit {0}
IsInvocation w resolution invocation m r stack = OfReceiver w r (receiver m.method.signature stack) (IsSelected w resolution invocation m)

-- Only events and invocations ask for something.
abbrev pub IsRowResolution : World → Resolution → Row → Memory → List Slot → Type 0
IsRowResolution w resolution (invoke invocation index) r stack =
    (m : Named) → named_method w resolution ≡ Some m → IsInvocation w resolution invocation m r stack
IsRowResolution w resolution (event e) r stack = IsEventResolution w resolution e r stack
IsRowResolution w resolution row r stack = Unit {0}

-- of the instruction at a frame's pc
abbrev pub IsFrameResolution : World → Memory → Frame → Type 0
IsFrameResolution w r f = (i : Instruction) → fetched w f ≡ Some i → IsRowResolution w i.resolution (row_of i) r f.stack

-- ---- the run of a thread that is started

-- a method of objects that takes nothing
pub record IsRun (m : MethodInfo) : Type 0 where
  pub flag : has_flag ACC_STATIC m.flags ≡ false
  pub takes : m.signature.args ≡ []

-- Whichever method is selected for a Thread object as its run is such (JVMS 5.4.6).
abbrev pub RunsFit : World → Type 0
RunsFit w = (class n : ℕ) (at : MemberPlace) (m : MethodInfo) → run_method w ≡ Some n → choice_of w class n ≡ Some (Method at) →
    slice_get w.methods (method_number w.program at) ≡ Some m → IsRun m

-- ---- one step of thread t

-- the frames of a live thread that is at an instruction: it runs, or waits there
abbrev pub instruction_frames : List Frame → Status → Option (List Frame)
instruction_frames frames New = None
instruction_frames frames (Live (Throwing o)) = None
instruction_frames frames (Live phase) = Some frames
instruction_frames frames Done = None

abbrev pub instruction_frames_at : State → ℕ → Option (List Frame)
instruction_frames_at r t = slice_get r.threads t >>= λ thread. instruction_frames thread.frames thread.thread.status

pub record IsStepResolution (w : World) (r : State) (t : ℕ) : Type 0 where
  pub top : (f : Frame) (below : List Frame) → instruction_frames_at r t ≡ Some (f ∷ below) → IsFrameResolution w r.memory f
  pub runs : RunsFit w
