-- What a step of a thread on a monitor comes to (JLS 17.1, 17.2), and whom it lets go on.
use Rattle.std.specs.Prelude.{◌≡◌, ℕ, Bool, true, false, List, Option, Some, slice_get}
use Rattle.vthread_state.specs.declared.phase.Phase.{Phase}
use Rattle.vthread_state.specs.declared.phase.Phase.TheVariants.{Run}
use Rattle.link_model.specs.World.{World}
use Rattle.state_model.specs.Frames.{Frame}
use Rattle.monitors.specs.Monitors.{monitor_of}
use Rattle.ref_model.specs.Enabled.{is_free}
use Rattle.ref_model.specs.State.{State}
use Rattle.ref_model.specs.Step.{picking_step}
use Rattle.schedule_soundness.specs.PutLaws.{OthersStay}
use Rattle.monitor_soundness.specs.MonitorPuts.{LosesOwner, MonitorStep}
use Rattle.program_state.specs.declared.state.ProgramState.{ProgramState}
use Rattle.program_state.specs.States.{IsInPhase, IsState}
use Rattle.program_state.specs.Steps.{Leads, PutsNobody, StepsTo}
use Rattle.monitor_steps.specs.declared.outcome.MonitorOutcome.{MonitorOutcome}
use Rattle.monitor_steps.specs.declared.outcome.MonitorOutcome.TheVariants as outcomes

-- Thread t leaves a monitor, which has no owner then; the others stay.
pub record Frees (t o : ℕ) (before after : State) : Type 0 where
  pub step : MonitorStep t o before after
  pub loses : LosesOwner o before after

-- The others stay; or thread t does something to a monitor, which has an owner afterwards, and the others stay but for that.
pub data StaysOrKeeps (t : ℕ) (before after : State) : Type 0 where
  others_stay : OthersStay t before after → StaysOrKeeps t before after
  owner_stays : (o : ℕ) → MonitorStep t o before after → is_free after o ≡ false → StaysOrKeeps t before after

-- By the step of thread t, in this phase, a monitor has no owner. This thread is the first in line for it then, if there is one.
pub record FreesMonitor (w : World) (first : Option ℕ) (phase : Phase) (t : ℕ) (old : ProgramState) (before : List Frame) (new : ProgramState) (after : List Frame) : Type 0 where
  pub monitor : ℕ
  pub steps : StepsTo w (Frees t monitor) phase t old before new after
  pub first_is : first ≡ slice_get (monitor_of new.monitors monitor).entry_list 0

-- A step of thread t, which runs and has these frames, that picks thread u leads from each state whose parts were the old ones to one whose
-- parts are the new ones.
abbrev pub PicksTo : World → (State → State → Type 0) → ℕ → ℕ → ProgramState → List Frame → ProgramState → List Frame → Type 0
PicksTo w leaves u t old before new after = (r : State) (out : ℕ → Bool) → IsState old r out → out t ≡ true →
    IsInPhase r t Run before → Leads (λ s. picking_step w s t u) leaves new t after r out

-- Thread t, which runs, notifies thread u, which was the first that waited on a monitor.
pub record NotifiesThread (w : World) (u t : ℕ) (old : ProgramState) (before : List Frame) (new : ProgramState) (after : List Frame) : Type 0 where
  pub monitor : ℕ
  pub steps : PicksTo w (PutsNobody t) u t old before new after
  pub first_is : slice_get (monitor_of old.monitors monitor).wait_list 0 ≡ Some u

-- what became of a step of thread t, in this phase; only one that runs notifies
abbrev pub IsMade : World → MonitorOutcome → Phase → ℕ → ProgramState → List Frame → ProgramState → List Frame → Type 0
IsMade w outcomes.Done phase t old before new after = StepsTo w (PutsNobody t) phase t old before new after
IsMade w (outcomes.Frees first) phase t old before new after = FreesMonitor w first phase t old before new after
IsMade w (outcomes.Notifies u) phase t old before new after = (phase ≡ Run) × NotifiesThread w u t old before new after

-- What became of a step that leaves a frame, and with it the monitor that the frame held, or throws IllegalMonitorStateException. It may be the
-- last one of thread t.
abbrev pub IsLeaving : World → MonitorOutcome → Phase → ℕ → ProgramState → List Frame → ProgramState → List Frame → Type 0
IsLeaving w outcomes.Done phase t old before new after = StepsTo w (StaysOrKeeps t) phase t old before new after
IsLeaving w (outcomes.Frees first) phase t old before new after = FreesMonitor w first phase t old before new after
IsLeaving w (outcomes.Notifies u) phase t old before new after = ⊥
