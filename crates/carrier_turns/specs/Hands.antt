-- The hand of a carrier: what it holds between its turns, and when that fits a machine.
use Rattle.std.specs.Prelude.{◌≡◌, ◌<◌, ℕ, true, false, Option, Some, None, is_some}
use Rattle.vthread_state.specs.declared.phase.Phase.{Phase}
use Rattle.vthread_state.specs.declared.phase.Phase.TheVariants.{Run}
use Rattle.link_model.specs.World.{World}
use Rattle.continuation.specs.Continuation.{Continuation}
use Rattle.schedule_model.specs.Entries.{may_unmount}
use Rattle.ref_model.specs.State.{State}
use Rattle.ref_model.specs.Ending.{ending}
use Rattle.ref_model.specs.Looks.{look_of}
use Rattle.frame_soundness.specs.Typed.{Typed}
use Rattle.invocation.specs.InvocationCache.{AreSelected}
use Rattle.machine.specs.Machines.{Given, Known, machine_ending}
use Rattle.machine.specs.Hands.{HasPhase, Holds, Idle, IsLiveIn, Lives, OwesNothing}
use Rattle.carrier_turns.specs.declared.ask.Ask.{Ask}
use Rattle.carrier_turns.specs.declared.ask.Ask.TheVariants.{Nothing, Local, Freeze}
use Rattle.carrier_turns.specs.declared.hand.Hand.{Hand}
use Rattle.carrier_turns.specs.declared.local.LocalRun.{LocalRun}
use Rattle.carrier_turns.specs.LocalRuns.{HasStopped}

-- ---- what a machine says of the thread in a hand

-- its Unmount is allowed while the program goes on
abbrev pub HasToLeave : Known → ℕ → ℕ → Type 0
HasToLeave m c t =
    Given m (λ v. ending v.state ≡ None → may_unmount (look_of m.setting.world v.state) v.schedule c t ≡ true)

-- it is live, in another phase than Run
pub record IsInOtherPhase (r : State) (t : ℕ) : Type 0 where
  pub phase : Phase
  pub live : IsLiveIn r t phase
  pub other : phase ≡ Run → ⊥

abbrev pub IsNotRunning : Known → ℕ → Type 0
IsNotRunning m t = Given m (λ v. IsInOtherPhase v.state t)

-- ---- what a hand holds

-- the continuations that it has mounted and frozen, the local run that it made ahead of the history, and what it was asked for
pub record HasParts (h : Hand) (mounted frozen : Option Continuation) (local : Option LocalRun) (asked : Ask) : Type 0 where
  pub mounted_is : h.mounted ≡ mounted
  pub frozen_is : h.frozen ≡ frozen
  pub local_is : h.local ≡ local
  pub asked_is : h.asked ≡ asked

-- What a hand of carrier c holds that found memory so far.
pub data HoldsRightly (m : Known) (c : ℕ) (h : Hand) : Type 0 where
  nothing : HasParts h None None None Nothing → Idle m c → HoldsRightly m c h
  -- a frozen continuation, which is to be put down
  frozen : (k : Continuation) → HasParts h None (Some k) None Nothing → Holds m c k.thread 0 k.stack.frames → Lives m k.thread →
      HasToLeave m c k.thread → HoldsRightly m c h
  -- one that is to be frozen
  leaving : (k : Continuation) → HasParts h (Some k) None None Freeze → Holds m c k.thread 0 k.stack.frames → Lives m k.thread →
      HasToLeave m c k.thread → HoldsRightly m c h
  -- one that is to execute local instructions
  running : (k : Continuation) → HasParts h (Some k) None None (Local k.thread) → Holds m c k.thread 0 k.stack.frames →
      OwesNothing m k.thread → HasPhase m k.thread Run → Typed m.setting.world k.stack.frames → HoldsRightly m c h
  -- one that has executed them
  stopped : (k : Continuation) (run : LocalRun) → HasParts h (Some k) None (Some run) Nothing → Holds m c k.thread run.steps k.stack.frames →
      OwesNothing m k.thread → HasPhase m k.thread Run → HasStopped m.setting.world run k.stack.frames → HoldsRightly m c h
  -- one whose thread waits, or throws
  waiting : (k : Continuation) → HasParts h (Some k) None None Nothing → Holds m c k.thread 0 k.stack.frames → OwesNothing m k.thread →
      IsNotRunning m k.thread → HoldsRightly m c h
  -- one that goes on no more, since the run has ended
  over : (k : Continuation) → HasParts h (Some k) None None Nothing → Holds m c k.thread 0 k.stack.frames →
      is_some (machine_ending m) ≡ true → HoldsRightly m c h

-- ---- hands

-- The hand is that of carrier c for this machine: it holds exactly the thread that the carrier has mounted, with the frames of that thread
-- after the local instructions that the history doesn't have yet. One that found no memory is asked for nothing.
pub record Fits (m : Known) (c : ℕ) (h : Hand) : Type 0 where
  pub below : c < m.carriers
  pub holds : h.failed ≡ false → HoldsRightly m c h
  pub rests : h.failed ≡ true → h.asked ≡ Nothing
  pub selected : AreSelected m.setting.world h.cache

-- it has this thread mounted
pub record HasThread (h : Hand) (t : ℕ) : Type 0 where
  pub kept : Continuation
  pub mounted : h.mounted ≡ Some kept
  pub thread : kept.thread ≡ t

-- what its last turn asked for is done
abbrev pub HasDone : Hand → Type 0
HasDone h = h.asked ≡ Nothing

-- ---- between turns

-- it is asked for local instructions, and may execute them
pub record MayRun (w : World) (h : Hand) : Type 0 where
  pub kept : Continuation
  pub mounted : h.mounted ≡ Some kept
  pub asked : h.asked ≡ Local kept.thread
  pub works : h.failed ≡ false
  pub typed : Typed w kept.stack.frames
  pub selected : AreSelected w h.cache

-- it is asked to freeze what it has mounted
pub record MayFreeze (h : Hand) : Type 0 where
  pub kept : Continuation
  pub mounted : h.mounted ≡ Some kept
  pub asked : h.asked ≡ Freeze
  pub works : h.failed ≡ false

-- whatever machine a hand fitted, of this program or of any, it fits
abbrev pub FitsAsBefore : World → Hand → Hand → Type 0
FitsAsBefore w old new = (m : Known) (c : ℕ) → m.setting.world ≡ w → Fits m c old → Fits m c new

abbrev pub FitsAnyAsBefore : Hand → Hand → Type 0
FitsAnyAsBefore old new = (m : Known) (c : ℕ) → Fits m c old → Fits m c new
