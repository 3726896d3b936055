-- What a step of one thread makes of the state of a program.
use Rattle.std.specs.Prelude.{◌≡◌, ◌≢◌, ℕ, Bool, true, false, List, Option, Some, length, slice_get}
use Rattle.vthread_state.specs.declared.phase.Phase.{Phase}
use Rattle.vthread_state.specs.declared.phase.Phase.TheVariants.{Waiting, Reenter}
use Rattle.vthread_state.specs.declared.phase.Wake.TheVariants.{Interrupted}
use Rattle.vthread_state.specs.declared.thread.Status.TheVariants.{Live}
use Rattle.state_model.specs.Frames.{Frame}
use Rattle.link_model.specs.World.{World}
use Rattle.ref_model.specs.Ending.{is_live}
use Rattle.ref_model.specs.Enabled.{is_free}
use Rattle.ref_model.specs.State.{JavaThread, State}
use Rattle.ref_model.specs.Step.{phase_step}
use Rattle.schedule_soundness.specs.PutLaws.{OthersStay, OthersStayBeside, IsLive, IsNew}
use Rattle.schedule_model.specs.Look.{is_in_line}
use Rattle.monitor_soundness.specs.MonitorPuts.{MonitorStep, Notifies}
use Rattle.program_state.specs.declared.state.ProgramState.{ProgramState}
use Rattle.program_state.specs.Monitors.{spot_at}
use Rattle.program_state.specs.States.{HasFrames, IsInPhase, IsState}

-- `act` leads from a state to one whose parts these are, in which thread t has these frames, and `leaves`
-- says what it does to the others.
pub record Leads (act : State → Option State) (leaves : State → State → Type 0) (new : ProgramState) (t : ℕ) (after : List Frame) (r : State) (out : ℕ → Bool) : Type 0 where
  pub next : State
  pub makes : act r ≡ Some next
  pub is : IsState new next out
  pub has : HasFrames next t after
  pub others : leaves r next

-- So does a step of thread t, which is in this phase and has these frames, in each state whose parts were the old ones, where the thread's
-- frames lie with a carrier.
abbrev pub StepsTo : World → (State → State → Type 0) → Phase → ℕ → ProgramState → List Frame → ProgramState → List Frame → Type 0
StepsTo w leaves phase t old before new after = (r : State) (out : ℕ → Bool) → IsState old r out → out t ≡ true →
    IsInPhase r t phase before → Leads (λ s. phase_step w s t before phase) leaves new t after r out

-- Thread t starts thread u, which runs or is in line for the monitor that it enters first, and makes none.
pub record Starts (t u : ℕ) (before after : State) : Type 0 where
  pub others : OthersStayBeside t u before after
  pub new : IsNew before u
  pub live : IsLive after u
  pub count : length after.threads ≡ length before.threads

-- A live thread keeps its status, and its permit and its interrupt status stay set where they were.
pub record IsWoken (u : ℕ) (before after : State) : Type 0 where
  pub old : JavaThread
  pub new : JavaThread
  pub was : slice_get before.threads u ≡ Some old
  pub is : slice_get after.threads u ≡ Some new
  pub live : is_live old.thread.status ≡ true
  pub status : new.thread.status ≡ old.thread.status
  pub permit : old.permit ≡ true → new.permit ≡ true
  pub interrupted : old.interrupted ≡ true → new.interrupted ≡ true

-- A thread that waited on a monitor, and isn't mounted, is in line for it, since it was interrupted.
pub record IsInterrupted (u : ℕ) (before after : State) : Type 0 where
  pub old : JavaThread
  pub new : JavaThread
  pub was : slice_get before.threads u ≡ Some old
  pub is : slice_get after.threads u ≡ Some new
  pub monitor : ℕ
  pub count : ℕ
  pub deadline : Option ℕ
  pub waited : old.thread.status ≡ Live (Waiting monitor count deadline)
  pub reenters : new.thread.status ≡ Live (Reenter monitor count Interrupted)

-- What becomes of a thread that gets a permit or an interrupt, and is in line for no monitor: it keeps its status, or its wait has ended.
pub data Awakes (u : ℕ) (before after : State) : Type 0 where
  gets : IsWoken u before after → is_in_line (spot_at before.threads u) ≡ false → Awakes u before after
  lines_up : IsInterrupted u before after → Awakes u before after

-- Thread t gives thread u, another one, a permit or an interrupt, and makes none.
pub record Wakes (t u : ℕ) (before after : State) : Type 0 where
  pub other : u ≢ t
  pub others : OthersStayBeside t u before after
  pub woken : Awakes u before after
  pub count : length after.threads ≡ length before.threads

-- Thread t gives a permit or an interrupt to thread u, another one that is in line for a monitor, and stays there.
pub record Tells (t u : ℕ) (before after : State) : Type 0 where
  pub other : u ≢ t
  pub others : OthersStayBeside t u before after
  pub told : IsWoken u before after
  pub in_line : is_in_line (spot_at before.threads u) ≡ true

-- By such a step of thread t nobody is put into a deque, unless the thread ends: the others stay; one in line for a monitor gets a permit or an
-- interrupt; a monitor is owned afterwards; or the owner of a monitor ends the waits of threads.
pub data PutsNobody (t : ℕ) (before after : State) : Type 0 where
  leaves_others : OthersStay t before after → PutsNobody t before after
  tells : (u : ℕ) → Tells t u before after → PutsNobody t before after
  keeps_monitor : (o : ℕ) → MonitorStep t o before after → is_free after o ≡ false → PutsNobody t before after
  notifies : (o : ℕ) → Notifies t o before after → PutsNobody t before after
