-- Threads that take a monitor or line up for it (JLS 17.1), as the parts of a state have it.
use Rattle.std.specs.Prelude.{◌≡◌, ℕ, Bool, true, false, List, Option, Some, None, if◌then◌else◌}
use Rattle.vthread_state.specs.declared.phase.Phase.{Phase}
use Rattle.vthread_state.specs.declared.phase.Phase.TheVariants.{Run, Entering, Reenter}
use Rattle.vthread_state.specs.declared.phase.Wake.{Wake}
use Rattle.vthread_state.specs.declared.phase.Wake.TheVariants.{Notified, TimedOut, Interrupted}
use Rattle.vthread_state.specs.declared.thread.Status.TheVariants.{Live}
use Rattle.link_model.specs.World.{World}
use Rattle.state_model.specs.Frames.{Frame}
use Rattle.ref_model.specs.Asking.{with_run}
use Rattle.ref_model.specs.Monitors.{may_take, with_entry}
use Rattle.ref_model.specs.Requests.{Request, enters, waits_on}
use Rattle.ref_model.specs.Resuming.{is_first_entry}
use Rattle.ref_model.specs.State.{State, with_owner, with_status}
use Rattle.program_state.specs.declared.state.ProgramState.{ProgramState}
use Rattle.program_state.specs.States.{IsInPhase, IsState}
use Rattle.program_state.specs.Steps.{PutsNobody, StepsTo}
use Rattle.monitor_steps.specs.declared.line.AfterEntry.{AfterEntry}
use Rattle.monitor_steps.specs.declared.line.AfterEntry.TheVariants as entries
use Rattle.monitor_steps.specs.declared.line.Line.{Line}

-- ---- a thread that runs asks for a monitor

-- Thread t took the monitor, or entered it once more.
pub record Takes (t o : ℕ) (r : State) (out : ℕ → Bool) (new : ProgramState) : Type 0 where
  pub may : may_take r t o ≡ true
  pub is : IsState new (with_entry r t o) out

-- It is in line for the monitor, which another thread owns.
pub record LinesUp (t o : ℕ) (r : State) (out : ℕ → Bool) (new : ProgramState) : Type 0 where
  pub may_not : may_take r t o ≡ false
  pub is : IsState new (with_status r t (Live (Entering o))) out

abbrev pub Enters : ℕ → ℕ → Bool → State → (ℕ → Bool) → ProgramState → Type 0
Enters t o true r out new = Takes t o r out new
Enters t o false r out new = LinesUp t o r out new

-- So it is in each state whose parts were the old ones, in which it runs: it has the monitor, or not.
abbrev pub EntersTo : ℕ → ℕ → ProgramState → ProgramState → Bool → Type 0
EntersTo t o old new taken = (r : State) (out : ℕ → Bool) (frames : List Frame) → IsState old r out → out t ≡ true →
    IsInPhase r t Run frames → Enters t o taken r out new

-- ---- a thread that is in line

-- how a thread goes on that waited to be notified, by what ended its wait
abbrev pub after_wake : Wake → AfterEntry
after_wake Notified = entries.Resumes
after_wake TimedOut = entries.Resumes
after_wake Interrupted = entries.Throws

-- Which monitor a thread with these frames is in line for, in a phase, how often it is to have entered that, and how it goes on then.
abbrev pub line_in : Phase → List Frame → Option Line
line_in (Entering o) frames =
    Some (record { monitor = o; count = 1; then_goes = if is_first_entry o frames then entries.Begins else entries.Resumes })
line_in (Reenter o count wake) frames = Some (record { monitor = o; count = count; then_goes = after_wake wake })
line_in phase frames = None

-- the state in which it runs, and has the monitor
abbrev pub with_taken : State → ℕ → Line → State
with_taken r t line = with_run (with_owner r line.monitor (Some (record { thread = t; count = line.count }))) t

-- Thread t, which was in line for a monitor that nobody owns, has it, and runs.
pub record HasTaken (t : ℕ) (line : Line) (r : State) (out : ℕ → Bool) (new : ProgramState) : Type 0 where
  pub free : r.owners line.monitor ≡ None
  pub is : IsState new (with_taken r t line) out

-- So it is in each state whose parts were the old ones.
abbrev pub TakesTo : ℕ → Line → ProgramState → ProgramState → Type 0
TakesTo t line old new = (r : State) (out : ℕ → Bool) (phase : Phase) (frames : List Frame) → IsState old r out → out t ≡ true →
    IsInPhase r t phase frames → line_in phase frames ≡ Some line → HasTaken t line r out new

-- whether what is asked may wait for a monitor
abbrev pub may_line_up : Request → Bool
may_line_up (enters o) = true
may_line_up (waits_on o time) = true
may_line_up q = false

-- The step of thread t, in the phase in which it is in line so, leads to these parts and frames, and the monitor is owned.
abbrev pub StepsInLine : World → Line → ℕ → ProgramState → List Frame → ProgramState → List Frame → Type 0
StepsInLine w line t old before new after = (phase : Phase) → line_in phase before ≡ Some line →
    StepsTo w (PutsNobody t) phase t old before new after
