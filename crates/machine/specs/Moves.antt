-- What a step of a thread makes of the state of a program.
use Rattle.std.specs.Prelude.{◌≡◌, ◌<◌, ◌≤◌, ℕ, Bool, true, false, List, Option, Some, None, slice_get}
use Rattle.link_model.specs.World.{World}
use Rattle.state_model.specs.Frames.{Frame}
use Rattle.continuation.specs.Continuation.{Continuation}
use Rattle.ref_model.specs.State.{State}
use Rattle.ref_model.specs.Step.{picking_step, thread_step}
use Rattle.ref_model.specs.Looks.{lacks_threads_next, reads_clock_next, yields_next}
use Rattle.monitors.specs.Monitors.{Monitors, monitor_of}
use Rattle.thread_steps.specs.declared.parts.Parts.{Parts}
use Rattle.thread_steps.specs.declared.progress.Progress.{Progress}
use Rattle.thread_steps.specs.declared.progress.Progress.TheVariants.{Stepped, Asks, Calls, Returns}
use Rattle.program_state.specs.declared.state.ProgramState.{ProgramState}
use Rattle.program_state.specs.Monitors.{ListsMove}
use Rattle.program_state.specs.Requests.{IsPending}
use Rattle.program_state.specs.Running.{IsCallPending, IsReturnPending, Stays}
use Rattle.program_state.specs.States.{HasFrames, IsState}
use Rattle.program_state.specs.Steps.{Leads, PutsNobody, Starts, Wakes}
use Rattle.monitor_steps.specs.declared.outcome.MonitorOutcome.{MonitorOutcome}
use Rattle.monitor_steps.specs.declared.outcome.MonitorOutcome.TheVariants as outcomes
use Rattle.monitor_steps.specs.Outcomes.{Frees, StaysOrKeeps}
use Rattle.machine.specs.declared.made.Attempt.{Attempt}
use Rattle.machine.specs.declared.made.Attempt.TheVariants.{Made, LacksThreads, ReadsClock}
use Rattle.machine.specs.declared.made.Move.{Move}
use Rattle.machine.specs.declared.made.Others.{Others}
use Rattle.machine.specs.declared.made.Others.TheVariants as moves

-- ---- what a step does to the other threads

-- Thread t left a monitor, which has no owner then, and this thread is the first in line for it, if there is one, among these monitors.
pub record FreesFirst (monitors : Monitors) (first : Option ℕ) (t : ℕ) (before after : State) : Type 0 where
  pub monitor : ℕ
  pub frees : Frees t monitor before after
  pub first_is : first ≡ slice_get (monitor_of monitors monitor).entry_list 0

-- what it does, where these are the monitors afterwards
abbrev pub others_of : Monitors → ℕ → Others → State → State → Type 0
others_of monitors t moves.Stay before after = StaysOrKeeps t before after
others_of monitors t moves.Quiet before after = PutsNobody t before after
others_of monitors t (moves.Starts u) before after = Starts t u before after
others_of monitors t (moves.Wakes u) before after = Wakes t u before after
others_of monitors t (moves.Frees first) before after = FreesFirst monitors first t before after
others_of monitors t (moves.Notifies u) before after = PutsNobody t before after

-- what a step on a monitor does that doesn't end its thread, by its outcome
abbrev pub others_after : MonitorOutcome → Others
others_after outcomes.Done = moves.Quiet
others_after (outcomes.Frees first) = moves.Frees first
others_after (outcomes.Notifies u) = moves.Notifies u

-- what one does that may end it
abbrev pub others_left : MonitorOutcome → Others
others_left outcomes.Done = moves.Stay
others_left (outcomes.Frees first) = moves.Frees first
others_left (outcomes.Notifies u) = moves.Notifies u

-- ---- whom it picks

-- the thread that it notifies
abbrev pub picked : Others → Option ℕ
picked moves.Stay = None
picked moves.Quiet = None
picked (moves.Starts u) = None
picked (moves.Wakes u) = None
picked (moves.Frees first) = None
picked (moves.Notifies u) = Some u

-- a step of thread t that picks this thread, or none
abbrev pub step_with : World → ℕ → Option ℕ → State → Option State
step_with w t None r = thread_step w r t
step_with w t (Some u) r = picking_step w r t u

-- Thread u has waited longest on a monitor.
pub record IsFirstWaiting (monitors : Monitors) (u : ℕ) : Type 0 where
  pub monitor : ℕ
  pub first_is : slice_get (monitor_of monitors monitor).wait_list 0 ≡ Some u

-- so has the one that is picked
abbrev pub PicksFirst : Monitors → Option ℕ → Type 0
PicksFirst monitors None = Unit {0}
PicksFirst monitors (Some u) = IsFirstWaiting monitors u

-- ---- a step

-- A step of the thread leads from this state to one whose parts are these, in which it has these frames.
pub record IsMoved (w : World) (made : Move) (t : ℕ) (new : ProgramState) (after : List Frame) (r : State) (out : ℕ → Bool) : Type 0 where
  pub leads : Leads (step_with w t (picked made.others)) (others_of new.monitors t made.others) new t after r out
  pub yields : yields_next w r t ≡ made.yields

-- So it does in each state whose parts were the old ones, in which the thread had the old frames, which a carrier has. Lists of monitors move
-- as they do in one step, and who is picked was the first that waited.
pub record Moves (w : World) (made : Move) (t : ℕ) (old : ProgramState) (before : List Frame) (new : ProgramState) (after : List Frame) : Type 0 where
  pub lists : ListsMove old.monitors new.monitors
  pub first : PicksFirst old.monitors (picked made.others)
  pub leads : (r : State) (out : ℕ → Bool) → IsState old r out → out t ≡ true → HasFrames r t before → IsMoved w made t new after r out

-- It would make one more thread than there may be, and nothing has changed.
pub record LacksRoom (w : World) (t : ℕ) (old : ProgramState) (before : List Frame) (new : ProgramState) : Type 0 where
  pub same : new ≡ old
  pub lacks : (r : State) (out : ℕ → Bool) → IsState old r out → HasFrames r t before → lacks_threads_next w r t ≡ true

-- It reads the clock, and the time is less than this. Nothing has changed.
pub record ReadsFirst (w : World) (now t : ℕ) (old : ProgramState) (before : List Frame) (new : ProgramState) : Type 0 where
  pub same : new ≡ old
  pub later : old.time < now
  pub reads : (r : State) (out : ℕ → Bool) → IsState old r out → HasFrames r t before → reads_clock_next w r t ≡ true

-- It doesn't read the clock, or the time isn't less than this.
abbrev pub IsInTime : World → ℕ → ℕ → ProgramState → List Frame → Type 0
IsInTime w now t old before =
    (r : State) (out : ℕ → Bool) → IsState old r out → HasFrames r t before → reads_clock_next w r t ≡ true → now ≤ old.time

-- it was made; or it makes a thread where there may be no more; or it reads the clock, which is ahead of the time
abbrev pub IsMade : World → Attempt Move → ℕ → ℕ → ProgramState → List Frame → ProgramState → List Frame → Type 0
IsMade w (Made made) now t old before new after = Moves w made t old before new after × IsInTime w now t old before
IsMade w LacksThreads now t old before new after = LacksRoom w t old before new
IsMade w ReadsClock now t old before new after = ReadsFirst w now t old before new

-- what an instruction asked was done, or makes a thread where there may be no more
abbrev pub IsRequested : World → Attempt Move → ℕ → ProgramState → List Frame → ProgramState → List Frame → Type 0
IsRequested w (Made made) t old before new after = Moves w made t old before new after
IsRequested w LacksThreads t old before new after = LacksRoom w t old before new
IsRequested w ReadsClock t old before new after = ⊥

-- what is mounted stays where the step wasn't made since it reads the clock
abbrev pub StaysIfReading : {A : Type 0} → Attempt A → Continuation → Continuation → Type 0
StaysIfReading (Made made) old new = Unit {0}
StaysIfReading LacksThreads old new = Unit {0}
StaysIfReading ReadsClock old new = new ≡ old

-- ---- a step that doesn't read the clock

-- it was made, and may be made at any time
abbrev pub MovesAtAnyTime : World → Move → ℕ → ProgramState → List Frame → ProgramState → List Frame → Type 0
MovesAtAnyTime w made t old before new after = Moves w made t old before new after × ((now : ℕ) → IsInTime w now t old before)

-- it does nothing to the other threads, and is no yield
abbrev pub alone : Move
alone = record { others = moves.Stay; yields = false }

-- ---- what an instruction asks

-- The next instruction of these frames asks something, calls a synchronized method, or is a return that leaves a monitor.
abbrev pub IsAsked : World → Progress → Parts → List Frame → Type 0
IsAsked w Stepped memory frames = ⊥
IsAsked w (Asks q) memory frames = IsPending w q memory frames
IsAsked w (Calls call) memory frames = IsCallPending w call memory frames
IsAsked w (Returns q) memory frames = IsReturnPending w q frames

-- whether a step was made
abbrev pub has_stepped : Progress → Bool
has_stepped Stepped = true
has_stepped (Asks q) = false
has_stepped (Calls call) = false
has_stepped (Returns q) = false

-- the thread, which runs, made its step; or its instruction asks something, and nothing has changed
abbrev pub RunsOrAsks : World → Progress → ProgramState → Continuation → ProgramState → Continuation → Type 0
RunsOrAsks w Stepped old m new n = MovesAtAnyTime w alone m.thread old m.stack.frames new n.stack.frames
RunsOrAsks w (Asks q) old m new n = IsPending w q old.memory m.stack.frames × Stays old m new n
RunsOrAsks w (Calls call) old m new n = IsCallPending w call old.memory m.stack.frames × Stays old m new n
RunsOrAsks w (Returns q) old m new n = IsReturnPending w q m.stack.frames × Stays old m new n
