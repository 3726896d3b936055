-- Which threads go on, by the parts of a state, and whom the end of one wakes.
use Rattle.std.specs.Prelude.{◌≡◌, ◌↔◌, ◌||◌, ℕ, Bool, true, false, List, Option, Some, Contains, if◌then◌else◌, is_none, is_some, slice_get}
use Rattle.std.specs.Option.{option_map_or}
use Rattle.std.specs.List.Sorted.{IsStrictlyIncreasing}
use Rattle.vthread_state.specs.declared.phase.Phase.{Phase}
use Rattle.vthread_state.specs.declared.phase.Phase.TheVariants.{Run, Throwing, Entering, Waiting, Reenter, Parked, Asleep, Joining}
use Rattle.vthread_state.specs.declared.thread.Status.{Status}
use Rattle.vthread_state.specs.declared.thread.Status.TheVariants.{New, Live, Done}
use Rattle.vthread_state.specs.declared.thread.Thread.{Thread}
use Rattle.vthread_state.specs.Threads as table
use Rattle.vthread_state.specs.Threads.{Threads, thread_at}
use Rattle.continuation.specs.Continuation.{Continuation}
use Rattle.items.specs.Options.{◌>>=◌}
use Rattle.state_model.specs.Frames.{Frame}
use Rattle.link_model.specs.World.{World}
use Rattle.wakes.specs.Flags.{Flags}
use Rattle.monitors.specs.Monitors.{monitor_of}
use Rattle.ref_model.specs.declared.exception.Exception.TheVariants as exceptions
use Rattle.ref_model.specs.Enabled.{is_done}
use Rattle.ref_model.specs.Memory.{Memory}
use Rattle.ref_model.specs.Requests.{Request, joins, sleeps, parks}
use Rattle.ref_model.specs.Resuming.{asking_in, finished_asking}
use Rattle.ref_model.specs.State.{State}
use Rattle.ref_model.specs.Step.{phase_step}
use Rattle.ref_model.specs.Throwing.{raised}
use Rattle.ref_model.specs.Waiting.{is_reached}
use Rattle.schedule_soundness.specs.PutLaws.{OthersStay}
use Rattle.program_state.specs.declared.state.ProgramState.{ProgramState}
use Rattle.program_state.specs.States.{IsInPhase, IsState}
use Rattle.program_state.specs.Waking.{IsInterruptTaken, IsPermitTaken, flag_at}

-- whether a thread of the table has ended
abbrev pub has_ended_in : Threads → ℕ → Bool
has_ended_in table u = option_map_or (λ (thread : Thread). is_done thread.status) (thread_at table u) false

-- whether a live thread in a phase goes on, by the parts
abbrev pub phase_goes_on_in : ProgramState → ℕ → Phase → Bool
phase_goes_on_in a t Run = true
phase_goes_on_in a t (Throwing o) = true
phase_goes_on_in a t (Parked deadline) = flag_at a.wakes.permits t || (flag_at a.wakes.interrupts t || is_reached a.time deadline)
phase_goes_on_in a t (Asleep deadline) = flag_at a.wakes.interrupts t || is_reached a.time (Some deadline)
phase_goes_on_in a t (Joining target deadline) =
    has_ended_in a.threads target || (flag_at a.wakes.interrupts t || is_reached a.time deadline)
phase_goes_on_in a t (Entering o) = is_none (monitor_of a.monitors o).owner
phase_goes_on_in a t (Reenter o count wake) = is_none (monitor_of a.monitors o).owner
phase_goes_on_in a t (Waiting o count deadline) = false

abbrev pub status_goes_on_in : ProgramState → ℕ → Status → Bool
status_goes_on_in a t New = false
status_goes_on_in a t (Live phase) = phase_goes_on_in a t phase
status_goes_on_in a t Done = false

-- whether the continuation of a thread lies in a list of them
abbrev pub lies_in : List (Option Continuation) → ℕ → Bool
lies_in frozen u = option_map_or (λ (k : Option Continuation). is_some k) (slice_get frozen u) false

-- those who wait for the end of thread t and aren't mounted, in rising order
pub record AreWoken (t : ℕ) (a : ProgramState) (woken : List ℕ) : Type 0 where
  pub just_these : (u : ℕ) → Contains woken u ↔ ((table.joins a.threads u ≡ Some t) × (lies_in a.frozen.items u ≡ true))
  pub rising : IsStrictlyIncreasing woken

-- whether what is asked may wait for a permit, a time or the end of a thread
abbrev pub is_wait : Request → Bool
is_wait (joins target time) = true
is_wait (sleeps millis) = true
is_wait (parks time) = true
is_wait q = false

-- What ended the wait of thread t in a phase was taken: its permit, or its interrupt status, which is to be told where it was set.
abbrev pub IsWakeTaken : ℕ → Phase → Bool → Flags → Flags → Type 0
IsWakeTaken t (Parked deadline) interrupted old new = (interrupted ≡ false) × (had : Bool) × IsPermitTaken t had old new
IsWakeTaken t (Asleep deadline) interrupted old new = IsInterruptTaken t interrupted old new
IsWakeTaken t (Joining target deadline) interrupted old new = IsInterruptTaken t interrupted old new
IsWakeTaken t phase interrupted old new = ⊥

-- a thread that runs finishes the instruction at hand, which asked something in this memory
abbrev pub finished_in : World → Memory → State → ℕ → List Frame → Option State
finished_in w memory r t frames = asking_in w memory frames >>= λ x. finished_asking r t x.1 x.0

-- The wait of thread t in a phase is over, in a state: the thread runs, and throws InterruptedException or finishes its instruction.
pub record WaitEnds (t : ℕ) (phase : Phase) (frames : List Frame) (r : State) (out : ℕ → Bool) (interrupted : Bool) (new : ProgramState) : Type 0 where
  pub next : State
  pub is : IsState new next out
  pub runs : IsInPhase next t Run frames
  pub others : OthersStay t r next
  pub step : (w : World) → phase_step w r t frames phase
      ≡ (if interrupted then raised w next t exceptions.InterruptedException else finished_in w r.memory next t frames)

-- So it is in each state whose parts were the old ones, whatever the thread waits for.
abbrev pub EndsWait : ℕ → ProgramState → ProgramState → Bool → Type 0
EndsWait t old new interrupted = (r : State) (out : ℕ → Bool) (phase : Phase) (frames : List Frame) → IsState old r out → out t ≡ true →
    IsInPhase r t phase frames → WaitEnds t phase frames r out interrupted new
