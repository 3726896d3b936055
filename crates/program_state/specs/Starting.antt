-- A thread that is started.
use Rattle.std.specs.Prelude.{◌≡◌, [], ◌∷◌, ℕ, Bool, Option, Some, None, if◌then◌else◌, slice_set}
use Rattle.instruction_rows.specs.declared.value.Value.TheVariants as values
use Rattle.instruction_rows.specs.declared.value.Slot.TheVariants.{One}
use Rattle.vthread_state.specs.declared.phase.Phase.{Phase}
use Rattle.vthread_state.specs.declared.phase.Phase.TheVariants.{Run, Entering}
use Rattle.vthread_state.specs.declared.thread.Status.TheVariants.{Live}
use Rattle.vthread_state.specs.Threads.{with_status}
use Rattle.link_model.specs.World.{World}
use Rattle.link_model.specs.Decoded.{code_at}
use Rattle.link_model.specs.declared.members.MethodCode.{MethodCode}
use Rattle.state_model.specs.Frames.{Frame}
use Rattle.frames.specs.Frames.{entered, with_local}
use Rattle.continuation.specs.Continuation.{Continuation}
use Rattle.ref_model.specs.Asking.{Asking, goes}
use Rattle.ref_model.specs.Frames.{first_frame}
use Rattle.ref_model.specs.Monitors.{with_monitor}
use Rattle.ref_model.specs.Starting.{begun_with, started, with_begun}
use Rattle.ref_model.specs.State.{State}
use Rattle.ref_model.specs.Throwing.{raised}
use Rattle.schedule_soundness.specs.PutLaws.{IsNew}
use Rattle.program_state.specs.declared.starting.First.{First}
use Rattle.program_state.specs.declared.starting.Start.{Start}
use Rattle.program_state.specs.declared.starting.Start.TheVariants.{Begins, Throws}
use Rattle.program_state.specs.declared.state.ProgramState.{ProgramState}
use Rattle.program_state.specs.Monitors.{LinesUpFor}
use Rattle.program_state.specs.States.{IsState}

-- the frame of a method with so many local variables, of which the first has an object
pub record IsPushed (thread method : ℕ) (code : MethodCode) (object locals : ℕ) (k : Continuation) : Type 0 where
  pub thread_is : k.thread ≡ thread
  pub frames : k.stack.frames ≡ with_local 0 (One (values.Ref object)) (entered method locals code.max_stack 0 [])

-- the frames of a thread that begins with a method on an object, which is synchronized or not
pub record IsFirst (thread method : ℕ) (code : MethodCode) (object : ℕ) (synchronized : Bool) (k : Continuation) : Type 0 where
  pub thread_is : k.thread ≡ thread
  pub frame : Frame
  pub is : first_frame method code (One (values.Ref object) ∷ []) ≡ Some frame
  pub frames : k.stack.frames ≡ (if synchronized then with_monitor frame object else frame) ∷ []

-- the phase in which a thread begins, which enters a monitor first or doesn't
abbrev pub begin_phase : Option ℕ → Phase
begin_phase None = Run
begin_phase (Some o) = Entering o

-- What a start of a thread makes of a state, where the thread begins so.
pub record IsBeginning (thread : ℕ) (first : First) (r : State) (act : ℕ → Asking → Option State) : Type 0 where
  pub thread_is : first.frozen.thread ≡ thread
  pub frame : Frame
  pub frames : first.frozen.stack.frames ≡ frame ∷ []
  pub begins : (t : ℕ) (a : Asking) → act t a ≡ goes (with_begun r thread (begin_phase first.monitor) frame) t a

abbrev pub StartGives : World → ℕ → State → Start → (ℕ → Asking → Option State) → Type 0
StartGives w thread r (Begins k) act = IsBeginning thread k r act
StartGives w thread r (Throws e) act = (t : ℕ) (a : Asking) → act t a ≡ raised w r t e

-- the method of a number begins, as the run of a thread on its object
abbrev pub IsRun : World → ℕ → ℕ → ℕ → Start → Type 0
IsRun w thread object method start = (r : State) →
    StartGives w thread r start (λ t a. begun_with w r t a thread object method (code_at w method))

-- a thread that begins wasn't started before
abbrev pub BeginsNew : State → ℕ → Start → Type 0
BeginsNew r u (Begins k) = IsNew r u
BeginsNew r u (Throws e) = Unit {0}

-- What a start of the thread comes to in a state.
pub record StartsSo (w : World) (u : ℕ) (r : State) (start : Start) : Type 0 where
  pub new : BeginsNew r u start
  pub gives : StartGives w u r start (λ t a. started w r t a u)

abbrev pub IsStart : World → ℕ → ProgramState → Start → Type 0
IsStart w u state start = (r : State) (out : ℕ → Bool) → IsState state r out → StartsSo w u r start

-- The thread is live, with these frames, and lines up for the monitor that it enters first, if there is one.
pub record IsBegun (u : ℕ) (first : First) (old new : ProgramState) : Type 0 where
  pub memory : new.memory ≡ old.memory
  pub threads : new.threads ≡ with_status old.threads u (Live (begin_phase first.monitor))
  pub frozen : new.frozen.items ≡ slice_set old.frozen.items u (Some first.frozen)
  pub wakes : new.wakes ≡ old.wakes
  pub monitors : LinesUpFor u first.monitor old.monitors new.monitors
  pub wheel : new.wheel ≡ old.wheel
  pub keys : new.keys ≡ old.keys
  pub time : new.time ≡ old.time
  pub most_threads : new.most_threads ≡ old.most_threads
  pub unnamed : new.unnamed ≡ old.unnamed
