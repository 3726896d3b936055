-- The step of a thread that runs.
use Rattle.std.specs.Prelude.{◌≡◌, List, ◌∷◌, None, Some}
use Rattle.vthread_state.specs.declared.phase.Phase.TheVariants.{Run}
use Rattle.link_model.specs.World.{World}
use Rattle.verify_types.specs.Environment.{Instruction}
use Rattle.state_model.specs.Frames.{Frame}
use Rattle.continuation.specs.Continuation.{Continuation}
use Rattle.ref_model.specs.Fetch.{fetched}
use Rattle.ref_model.specs.Resuming.{asking_in}
use Rattle.schedule_soundness.specs.PutLaws.{OthersStay}
use Rattle.invocation.specs.declared.synchronized_calls.SynchronizedCall.{SynchronizedCall}
use Rattle.thread_steps.specs.Asking.{IsCalling, IsReturning}
use Rattle.thread_steps.specs.States.{memory_of}
use Rattle.thread_steps.specs.declared.parts.Parts.{Parts}
use Rattle.thread_steps.specs.declared.progress.MonitorReturn.{MonitorReturn}
use Rattle.thread_steps.specs.declared.progress.Progress.{Progress}
use Rattle.thread_steps.specs.declared.progress.Progress.TheVariants.{Stepped, Asks, Calls, Returns}
use Rattle.program_state.specs.declared.state.ProgramState.{ProgramState}
use Rattle.program_state.specs.Requests.{IsPending}
use Rattle.program_state.specs.Steps.{StepsTo}

-- the top frame is at this instruction
abbrev pub StandsAt : World → Instruction → List Frame → Type 0
StandsAt w i frames = (f : Frame) (below : List Frame) → frames ≡ f ∷ below → fetched w f ≡ Some i

-- Nothing has changed.
pub record Stays (old : ProgramState) (m : Continuation) (new : ProgramState) (n : Continuation) : Type 0 where
  pub state : new ≡ old
  pub mounted : n ≡ m

-- The mounted thread, which runs, made its step, and its instruction asked nothing.
pub record HasStepped (w : World) (old : ProgramState) (m : Continuation) (new : ProgramState) (n : Continuation) : Type 0 where
  pub steps : StepsTo w (OthersStay m.thread) Run m.thread old m.stack.frames new n.stack.frames
  pub quiet : asking_in w (memory_of old.memory) m.stack.frames ≡ None

-- The next instruction of these frames calls this synchronized method.
pub record IsCallPending (w : World) (call : SynchronizedCall) (memory : Parts) (frames : List Frame) : Type 0 where
  pub frame : Frame
  pub below : List Frame
  pub top : frames ≡ frame ∷ below
  pub calls : IsCalling w call memory frames frame below

-- It is this return, which leaves a monitor.
pub record IsReturnPending (w : World) (q : MonitorReturn) (frames : List Frame) : Type 0 where
  pub frame : Frame
  pub below : List Frame
  pub top : frames ≡ frame ∷ below
  pub returns : IsReturning w q frame below

-- it made its step; or its instruction asks something, calls a synchronized method or leaves a monitor, and nothing has changed
abbrev pub IsProgress : World → Progress → ProgramState → Continuation → ProgramState → Continuation → Type 0
IsProgress w Stepped old m new n = HasStepped w old m new n
IsProgress w (Asks q) old m new n = IsPending w q old.memory m.stack.frames × Stays old m new n
IsProgress w (Calls call) old m new n = IsCallPending w call old.memory m.stack.frames × Stays old m new n
IsProgress w (Returns q) old m new n = IsReturnPending w q m.stack.frames × Stays old m new n
