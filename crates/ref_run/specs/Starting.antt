-- A thread that is started.
use Rattle.std.specs.Prelude.{◌≡◌, [], ◌∷◌, ℕ, Option, None, Some, if◌then◌else◌}
use Rattle.instruction_rows.specs.declared.value.Value.TheVariants as values
use Rattle.instruction_rows.specs.declared.value.Slot.TheVariants.{One}
use Rattle.vthread_state.specs.declared.phase.Phase.{Phase}
use Rattle.vthread_state.specs.declared.phase.Phase.TheVariants.{Run, Entering}
use Rattle.link_model.specs.World.{World}
use Rattle.link_model.specs.Decoded.{code_at}
use Rattle.link_model.specs.declared.members.MethodCode.{MethodCode}
use Rattle.link_model.specs.declared.members.MethodInfo.{MethodInfo}
use Rattle.link_model.specs.Initializers.{is_synchronized}
use Rattle.state_model.specs.Frames.{Frame}
use Rattle.frames.specs.Frames.{entered, with_local}
use Rattle.continuation.specs.Continuation.{Continuation}
use Rattle.ref_model.specs.Asking.{Asking, goes}
use Rattle.ref_model.specs.Frames.{first_frame}
use Rattle.ref_model.specs.Opening.{guarded_by}
use Rattle.ref_model.specs.Starting.{begun_with, started, with_begun}
use Rattle.ref_model.specs.State.{State}
use Rattle.ref_model.specs.Throwing.{raised}
use Rattle.ref_run.specs.declared.starting.First.{First}
use Rattle.ref_run.specs.declared.starting.Start.{Start}
use Rattle.ref_run.specs.declared.starting.Start.TheVariants.{Begins, Throws}

-- the monitor that a thread enters first, whose run on an object is this method
abbrev pub run_monitor : MethodInfo → ℕ → Option ℕ
run_monitor m object = if is_synchronized m then Some object else None

-- the frame of a method with so many local variables, of which the first has an object
abbrev pub IsPushed : ℕ → MethodCode → ℕ → ℕ → Continuation → Type 0
IsPushed method code object locals k = k.stack.frames ≡ with_local 0 (One (values.Ref object)) (entered method locals code.max_stack 0 [])

-- the frames of a thread that begins with a method on an object, and holds a monitor or none
pub record IsFirst (method : ℕ) (code : MethodCode) (object : ℕ) (monitor : Option ℕ) (k : Continuation) : Type 0 where
  pub frame : Frame
  pub is : first_frame method code (One (values.Ref object) ∷ []) ≡ Some frame
  pub frames : k.stack.frames ≡ guarded_by monitor frame ∷ []

-- the phase in which a thread begins, which enters a monitor first or doesn't
abbrev pub begin_phase : Option ℕ → Phase
begin_phase None = Run
begin_phase (Some o) = Entering o

-- What a start of thread u makes of a state, where the thread begins so.
pub record IsBeginning (u : ℕ) (first : First) (r : State) (act : ℕ → Asking → Option State) : Type 0 where
  pub frame : Frame
  pub frames : first.mounted.stack.frames ≡ frame ∷ []
  pub begins : (t : ℕ) (a : Asking) → act t a ≡ goes (with_begun r u (begin_phase first.monitor) frame) t a

abbrev pub StartGives : World → ℕ → State → Start → (ℕ → Asking → Option State) → Type 0
StartGives w u r (Begins first) act = IsBeginning u first r act
StartGives w u r (Throws e) act = (t : ℕ) (a : Asking) → act t a ≡ raised w r t e

-- the method of a number begins, as the run of a thread on its object
abbrev pub IsRun : World → ℕ → ℕ → ℕ → Start → Type 0
IsRun w u object method start = (r : State) →
    StartGives w u r start (λ t a. begun_with w r t a u object method (code_at w method))

-- What a start of the thread comes to.
abbrev pub IsStart : World → ℕ → State → Start → Type 0
IsStart w u r start = StartGives w u r start (λ t a. started w r t a u)
