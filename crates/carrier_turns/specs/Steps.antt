-- The parts of a turn.
use Rattle.std.specs.Prelude.{◌≡◌, ◌<◌, ◌≤◌, ◌+◌, ℕ, Bool, true, false, Option, Some, None, is_some, length}
use Rattle.continuation.specs.Continuation.{Continuation}
use Rattle.history.specs.declared.entry.What.TheVariants.{Clock}
use Rattle.schedule_model.specs.Stalled.{is_starved}
use Rattle.invocation.specs.InvocationCache.{AreSelected, Kept}
use Rattle.ref_model.specs.declared.ending.Ending.TheVariants.{Halted, Stalled, Starved}
use Rattle.ref_model.specs.Looks.{is_stalled, look_of}
use Rattle.vthread_state.specs.declared.phase.Phase.TheVariants as phases
use Rattle.machine.specs.declared.after.After.{After}
use Rattle.machine.specs.declared.after.After.TheVariants.{Halts, ReadsClock, Runs}
use Rattle.machine.specs.Machines.{Given, Known, machine_ending, with_ending, with_entry}
use Rattle.machine.specs.Clocks.{Awaits, AwaitsNothing, IsBefore}
use Rattle.machine.specs.Hands.{HasPhase, Holds, MayStep, OwesNothing}
use Rattle.machine.specs.Legal.{GoesOn, IsLegal}
use Rattle.machine.specs.Turns.{IsInTime, Steps}
use Rattle.carrier_turns.specs.declared.ask.Ask.{Ask}
use Rattle.carrier_turns.specs.declared.ask.Ask.TheVariants.{Nothing, Local}
use Rattle.carrier_turns.specs.declared.hand.Hand.{Hand}
use Rattle.carrier_turns.specs.declared.local.LocalRun.{LocalRun}
use Rattle.carrier_turns.specs.declared.ask.Turn.{Turn}
use Rattle.carrier_turns.specs.declared.ask.Turn.TheVariants.{Run, Nap, Over}
use Rattle.carrier_turns.specs.Hands.{Fits, HasDone, HasParts, HasThread, IsNotRunning}
use Rattle.carrier_turns.specs.LocalRuns.{AreAhead, HasStopped, steps_of}
use Rattle.carrier_turns.specs.Turns.{IsNap, StallsAreTold, StepReads}

-- ---- before

-- A turn may append entries: the machine has no ending, and memory for a step and an unmount.
pub record MayAct (m : Known) (c : ℕ) (h : Hand) : Type 0 where
  pub legal : IsLegal m
  pub fits : Fits m c h
  pub done : HasDone h
  pub works : h.failed ≡ false
  pub going : machine_ending m ≡ None
  pub spare : 2 ≤ m.spare

-- A mounted thread has executed local instructions, or is in another phase than Run.
pub data MountedBy (m : Known) (c : ℕ) (h : Hand) (k : Continuation) : Type 0 where
  ran : (run : LocalRun) → HasParts h (Some k) None (Some run) Nothing → Holds m c k.thread run.steps k.stack.frames → OwesNothing m k.thread →
      HasPhase m k.thread phases.Run → HasStopped m.setting.world run k.stack.frames → MountedBy m c h k
  waits : HasParts h (Some k) None None Nothing → Holds m c k.thread 0 k.stack.frames → OwesNothing m k.thread → IsNotRunning m k.thread →
      MountedBy m c h k

-- The mounted thread may make a step: the program goes on, and the limit allows a step and an unmount, for which there is memory.
pub record MayGoOn (m : Known) (c : ℕ) (h : Hand) (t : ℕ) : Type 0 where
  pub legal : IsLegal m
  pub below : c < m.carriers
  pub selected : AreSelected m.setting.world h.cache
  pub done : HasDone h
  pub works : h.failed ≡ false
  pub going : GoesOn m
  pub left : length m.history + 2 ≤ m.setting.limits.events
  pub spare : 2 ≤ m.spare
  pub mounted : HasThread h t
  pub by : MountedBy m c h mounted.kept
  pub enabled : MayStep m t

-- ---- in between

-- The mounted thread made a step, or the run was given up.
pub record HasGone (after : After) (old new : Known) (c t now : ℕ) (h g : Hand) : Type 0 where
  pub tried : after ≡ ReadsClock → ⊥
  pub was : Continuation
  pub had : h.mounted ≡ Some was
  pub kept : Continuation
  pub thread : (after ≡ Halts → ⊥) → kept.thread ≡ t
  pub parts : HasParts g (Some kept) None None Nothing
  pub works : g.failed ≡ false
  pub selected : AreSelected old.setting.world g.cache
  pub local : ℕ
  pub ahead : AreAhead h.local local
  pub in_time : (steps_of h.local ≡ 10001 → ⊥) → IsInTime after old was.thread now was.stack.frames
  pub steps : Steps after old new c t local now was.stack.frames kept.stack.frames

-- So it was, by a carrier that might go on with it.
pub record HasJustGone (after : After) (new : Known) (c t : ℕ) (g : Hand) : Type 0 where
  pub old : Known
  pub held : Hand
  pub least : ℕ
  pub may : MayGoOn old c held t
  pub gone : HasGone after old new c t least held g

-- the thread goes on, and runs
abbrev pub is_runs : After → Bool
is_runs Runs = true
is_runs after = false

-- Nothing was done but that the hand knows more selected methods, since the step of the mounted thread reads the clock, and the time is less
-- than this.
pub record NeedsClock (old new : Known) (h g : Hand) (now : ℕ) : Type 0 where
  pub machine : new ≡ old
  pub cache : Kept
  pub selected : AreSelected old.setting.world cache
  pub hand : g ≡ record h { cache = cache }
  pub reads : StepReads old h
  pub later : IsBefore old now

-- A turn's time is reached, and the turn's step may read the clock where the time isn't less than `least`: no live thread waits for it, and
-- nothing was done; or time went on to it, and some thread can go on.
pub data IsReached (old new : Known) (c now least : ℕ) : Type 0 where
  not_awaited : AwaitsNothing old now → new ≡ old → least ≡ now → IsReached old new c now least
  gone_on : Awaits old now → new ≡ with_entry old c (Clock now) → machine_ending new ≡ None → StallsAreTold new → least ≡ 0 →
      IsReached old new c now least

-- How a thread goes on that was mounted or made a step.
pub data GoesOnBy (m : Known) (t : ℕ) (answer : Turn) : Type 0 where
  goes_over : is_some (machine_ending m) ≡ true → answer ≡ Over → GoesOnBy m t answer
  goes_to_run : machine_ending m ≡ None → HasPhase m t phases.Run → answer ≡ Run (Local t) → GoesOnBy m t answer
  goes_to_wait : machine_ending m ≡ None → IsNotRunning m t → answer ≡ Run Nothing → GoesOnBy m t answer

-- A turn answers this, unless the run has ended.
pub data AnswersUnlessOver (m : Known) (ask : Ask) (answer : Turn) : Type 0 where
  answers_over : is_some (machine_ending m) ≡ true → answer ≡ Over → AnswersUnlessOver m ask answer
  answers : machine_ending m ≡ None → answer ≡ Run ask → AnswersUnlessOver m ask answer

-- So it does after a look whether any thread can go on, and whether carriers keep all others from it; either is told.
pub data AnswersUnlessStalled (old new : Known) (ask : Ask) (answer : Turn) : Type 0 where
  looks_over : is_some (machine_ending old) ≡ true → new ≡ old → answer ≡ Over → AnswersUnlessStalled old new ask answer
  looks_stalled : machine_ending old ≡ None → new ≡ with_ending old Stalled → answer ≡ Over → AnswersUnlessStalled old new ask answer
  looks_starved : machine_ending old ≡ None → new ≡ with_ending old Starved → answer ≡ Over → AnswersUnlessStalled old new ask answer
  looks_on : machine_ending old ≡ None → Given old (λ v. is_stalled old.setting.world v.state ≡ false) →
      Given old (λ v. is_starved (look_of old.setting.world v.state) v.schedule ≡ false) → new ≡ old → answer ≡ Run ask →
      AnswersUnlessStalled old new ask answer

-- A carrier naps whose thread is pinned and can't go on, unless the run has ended.
pub data NapsUnlessStalled (old new : Known) (now : ℕ) (answer : Turn) : Type 0 where
  naps_over : AnswersUnlessStalled old new Nothing Over → answer ≡ Over → NapsUnlessStalled old new now answer
  naps_on : (nanos : Option ℕ) → AnswersUnlessStalled old new Nothing (Run Nothing) → IsNap new now nanos → answer ≡ Nap nanos →
      NapsUnlessStalled old new now answer

-- The run is given up, unless it has ended.
pub data IsGivenUp (old new : Known) : Type 0 where
  was_over : is_some (machine_ending old) ≡ true → new ≡ old → IsGivenUp old new
  gives_up : machine_ending old ≡ None → new ≡ with_ending old Halted → IsGivenUp old new
