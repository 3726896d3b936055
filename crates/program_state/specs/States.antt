-- The state of a program with many threads, by the parts that the machine keeps. The frames of mounted threads lie with their carriers.
use Rattle.std.specs.Prelude.{◌≡◌, ℕ, Bool, true, false, List, Option, Some, None, length, map, slice_get}
use Rattle.vthread_state.specs.declared.phase.Phase.{Phase}
use Rattle.vthread_state.specs.declared.phase.Phase.TheVariants.{Run, Throwing, Parked, Asleep, Joining}
use Rattle.vthread_state.specs.declared.thread.Status.{Status}
use Rattle.vthread_state.specs.declared.thread.Status.TheVariants.{New, Live, Done}
use Rattle.state_model.specs.Frames.{Frame}
use Rattle.continuation.specs.Continuation.{Continuation}
use Rattle.ref_model.specs.Ending.{is_live}
use Rattle.ref_model.specs.State.{JavaThread, State}
use Rattle.sleep_wheel.specs.Sleepers.{sleeper_at}
use Rattle.thread_steps.specs.States.{memory_of}
use Rattle.program_state.specs.declared.state.ProgramState.{ProgramState}
use Rattle.program_state.specs.Deadlines.{HoldsDeadlines, deadlines_of, key_at}
use Rattle.program_state.specs.Monitors.{HoldsMonitors}

-- ---- threads that are in no list of a monitor

-- a live one runs, throws, is parked, asleep, or waits for the end of another thread
abbrev pub is_plain_phase : Phase → Bool
is_plain_phase Run = true
is_plain_phase (Throwing o) = true
is_plain_phase (Parked deadline) = true
is_plain_phase (Asleep deadline) = true
is_plain_phase (Joining target deadline) = true
is_plain_phase phase = false

abbrev pub is_plain_status : Status → Bool
is_plain_status New = true
is_plain_status (Live phase) = is_plain_phase phase
is_plain_status Done = true

-- ---- where the frames of threads lie

-- whether a thread was started
abbrev pub is_started : Status → Bool
is_started New = false
is_started (Live phase) = true
is_started Done = true

-- The frames of thread u lie with a carrier (`out`), or in the list of those that aren't mounted, where it is live.
pub data IsKept (u : ℕ) (out : Bool) (thread : Option JavaThread) (frozen : Option (Option Continuation)) : Type 0 where
  absent : out ≡ false → thread ≡ None → frozen ≡ None → IsKept u out thread frozen
  mounted : (x : JavaThread) → out ≡ true → thread ≡ Some x → frozen ≡ Some None → is_started x.thread.status ≡ true →
      IsKept u out thread frozen
  waiting : (x : JavaThread) (k : Continuation) → out ≡ false → thread ≡ Some x → frozen ≡ Some (Some k) →
      is_live x.thread.status ≡ true → k.thread ≡ u → k.stack.frames ≡ x.frames → IsKept u out thread frozen
  idle : (x : JavaThread) → out ≡ false → thread ≡ Some x → frozen ≡ Some None → is_live x.thread.status ≡ false →
      IsKept u out thread frozen

-- ---- the state

-- These parts are those of a state in which the threads that `out` tells have their frames with carriers.
pub record IsState (a : ProgramState) (r : State) (out : ℕ → Bool) : Type 0 where
  pub status : a.memory.status ≡ Live Run
  pub memory : memory_of a.memory ≡ r.memory
  pub main_threw : a.memory.main_threw ≡ r.main_threw
  pub rows : a.threads.threads ≡ map (λ x. x.thread) r.threads
  pub most_threads : a.most_threads ≡ r.most_threads
  pub limit : a.threads.limit ≡ r.most_threads
  pub permits : a.wakes.permits ≡ map (λ x. x.permit) r.threads
  pub interrupts : a.wakes.interrupts ≡ map (λ x. x.interrupted) r.threads
  pub unnamed : a.unnamed ≡ r.unnamed
  pub monitors : HoldsMonitors a.monitors r.threads r.owners
  pub now : a.time ≡ r.now
  pub places : length a.keys.items ≡ length r.threads
  pub wheel : HoldsDeadlines (sleeper_at a.wheel) (key_at a.keys.items) (deadlines_of r.now r.threads)
  pub kept : (u : ℕ) → IsKept u (out u) (slice_get r.threads u) (slice_get a.frozen.items u)

-- a thread has these frames
pub record HasFrames (r : State) (t : ℕ) (frames : List Frame) : Type 0 where
  pub thread : JavaThread
  pub at : slice_get r.threads t ≡ Some thread
  pub has : thread.frames ≡ frames

-- the same of a live thread in this phase
pub record IsInPhase (r : State) (t : ℕ) (phase : Phase) (frames : List Frame) : Type 0 where
  pub thread : JavaThread
  pub at : slice_get r.threads t ≡ Some thread
  pub status : thread.thread.status ≡ Live phase
  pub has : thread.frames ≡ frames
