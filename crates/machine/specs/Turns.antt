-- The steps of a mounted thread.
use Rattle.std.specs.Prelude.{◌≡◌, ◌≤◌, ℕ, suc, true, List, Option, Some, None, slice_get}
use Rattle.history.specs.declared.entry.What.TheVariants.{Step}
use Rattle.vthread_state.specs.declared.phase.Phase.TheVariants.{Run}
use Rattle.vthread_state.specs.declared.thread.Status.{Status}
use Rattle.vthread_state.specs.declared.thread.Status.TheVariants.{Live}
use Rattle.link_model.specs.World.{World}
use Rattle.state_model.specs.Frames.{Frame}
use Rattle.ref_model.specs.declared.ending.Ending.TheVariants.{Limit, Halted}
use Rattle.ref_model.specs.declared.ending.Which.TheVariants.{Threads}
use Rattle.ref_model.specs.State.{JavaThread, with_frames}
use Rattle.ref_model.specs.Looks.{lacks_threads_next, reads_clock_next}
use Rattle.ref_model.specs.Entries.{may_be_last, most_local_steps}
use Rattle.frame_soundness.specs.Typed.{Typed}
use Rattle.interp_local.specs.declared.fetched.Fetched.{Fetched}
use Rattle.interp_local.specs.Fetched.{IsTopAt}
use Rattle.machine.specs.declared.after.After.{After}
use Rattle.machine.specs.declared.after.After.TheVariants as afters
use Rattle.machine.specs.declared.after.After.TheVariants.{Goes, Runs, Leaves, Ends, ReadsClock, Halts}
use Rattle.machine.specs.Clocks.{IsBefore}
use Rattle.machine.specs.Machines.{Given, Known, with_ending, with_entry}
use Rattle.machine.specs.Hands.{HasEnded, HasPhase, Holds, Lives, MayStep, OwesNothing, OwesUnmount, Waits}

-- ---- before a step

-- The thread runs, and after so many local instructions its entry may end with this instruction.
pub record IsAtLast (w : World) (n : ℕ) (frames : List Frame) (next : Option Fetched) : Type 0 where
  pub typed : Typed w frames
  pub few : n ≤ most_local_steps
  pub last : may_be_last w n frames ≡ true
  pub fetched : Fetched
  pub is : next ≡ Some fetched
  pub at : IsTopAt w frames fetched

-- a thread in another phase has no instruction at hand, and makes one step
abbrev pub IsStepReadyIn : World → ℕ → List Frame → Option Fetched → Status → Type 0
IsStepReadyIn w n frames next (Live Run) = IsAtLast w n frames next
IsStepReadyIn w n frames next status = (n ≡ 0) × (next ≡ None)

abbrev pub IsStepReady : Known → ℕ → ℕ → List Frame → Option Fetched → Type 0
IsStepReady m t n frames next =
    Given m (λ v. (x : JavaThread) → slice_get v.state.threads t ≡ Some x → IsStepReadyIn m.setting.world n frames next x.thread.status)

-- ---- after a step

-- The thread goes on, and may be told to run; or it has to be unmounted, since it yielded or can't go on; or it can't go on, and is pinned; or it
-- has ended.
abbrev pub IsOutcome : After → Known → ℕ → Type 0
IsOutcome Goes m t = OwesNothing m t × MayStep m t
IsOutcome Runs m t = OwesNothing m t × HasPhase m t Run × MayStep m t
IsOutcome Leaves m t = OwesUnmount m t × Lives m t
IsOutcome afters.Waits m t = OwesNothing m t × Waits m t
IsOutcome Ends m t = OwesUnmount m t × HasEnded m t
IsOutcome ReadsClock m t = ⊥
IsOutcome Halts m t = ⊥

-- One entry more, of n local instructions and one step, which picks a thread or none, and none if it reads the clock. The thread had and has
-- these frames.
pub record HasStepped (after : After) (old new : Known) (c t n : ℕ) (before frames : List Frame) : Type 0 where
  pub pick : Option ℕ
  pub entry : new ≡ with_entry old c (Step t (suc n) pick)
  pub unread : Given old (λ v. reads_clock_next old.setting.world (with_frames v.state t before) t ≡ true → pick ≡ None)
  pub hand : Holds new c t 0 frames
  pub outcome : IsOutcome after new t

-- No entry was made. There was no memory; or the step of the thread, with these frames, makes a thread where there may be no more.
pub data HasHalted (old new : Known) (t : ℕ) (frames : List Frame) : Type 0 where
  given_up : new ≡ with_ending old Halted → HasHalted old new t frames
  lacks_threads : new ≡ with_ending old (Limit Threads old.setting.limits.threads) →
      Given old (λ v. lacks_threads_next old.setting.world (with_frames v.state t frames) t ≡ true) → HasHalted old new t frames

-- Nothing was done: after n local instructions the thread, with these frames, makes a step that reads the clock, and the time is less than
-- this.
pub record HasToRead (old new : Known) (t now : ℕ) (frames : List Frame) : Type 0 where
  pub same : new ≡ old
  pub reads : Given old (λ v. reads_clock_next old.setting.world (with_frames v.state t frames) t ≡ true)
  pub later : IsBefore old now

-- A step that reads the clock isn't made before this time.
abbrev pub IsInTime : After → Known → ℕ → ℕ → List Frame → Type 0
IsInTime Halts m t now frames = Unit {0}
IsInTime ReadsClock m t now frames = Unit {0}
IsInTime after m t now frames =
    Given m (λ v. reads_clock_next m.setting.world (with_frames v.state t frames) t ≡ true → now ≤ v.state.now)

abbrev pub Steps : After → Known → Known → ℕ → ℕ → ℕ → ℕ → List Frame → List Frame → Type 0
Steps Halts old new c t n now before frames = HasHalted old new t before
Steps ReadsClock old new c t n now before frames = HasToRead old new t now before
Steps after old new c t n now before frames = HasStepped after old new c t n before frames
