-- What a carrier does in its turn with a machine.
use Rattle.std.specs.Prelude.{◌≡◌, ◌<◌, ◌⊎◌, ◌+◌, ◌-◌, ◌*◌, ◌||◌, ℕ, suc, Bool, true, false, List, [], ◌∷◌, ◌++◌, Option, Some, None, is_some, length, if◌then◌else◌}
use Rattle.history.specs.declared.entry.Entry.{Entry}
use Rattle.history.specs.declared.entry.What.{What}
use Rattle.history.specs.declared.entry.What.TheVariants.{Mount, Step, Unmount, Clock}
use Rattle.link_model.specs.World.{World}
use Rattle.continuation.specs.Continuation.{Continuation}
use Rattle.schedule_model.specs.Run.{Scheduled}
use Rattle.schedule_model.specs.Stalled.{is_starved}
use Rattle.ref_model.specs.declared.ending.Ending.{Ending}
use Rattle.ref_model.specs.declared.ending.Ending.TheVariants.{Halted, Stalled, Starved}
use Rattle.ref_model.specs.State.{State, with_frames}
use Rattle.ref_model.specs.Looks.{is_stalled, look_of, reads_clock_next}
use Rattle.ref_model.specs.Step.{enabled}
use Rattle.schedule_soundness.specs.ClockLaws.{HasReason}
use Rattle.machine.specs.Clocks.{Awaits, AwaitsNothing, IsBefore, IsEarliestIn, IsNotBefore}
use Rattle.machine.specs.Machines.{Given, Known, machine_ending, with_entry}
use Rattle.machine.specs.Hands.{AreDequesEmpty, IsLoose, MayStep, OwesUnmount, Waits}
use Rattle.carrier_turns.specs.declared.ask.Ask.{Ask}
use Rattle.carrier_turns.specs.declared.ask.Ask.TheVariants.{Nothing, Local, Freeze}
use Rattle.carrier_turns.specs.declared.hand.Hand.{Hand}
use Rattle.carrier_turns.specs.LocalRuns.{AreAhead, steps_of}
use Rattle.carrier_turns.specs.declared.ask.Turn.{Turn}
use Rattle.carrier_turns.specs.declared.ask.Turn.TheVariants.{Run, Nap, Over}

-- ---- answers

abbrev pub is_over : Turn → Bool
is_over (Run ask) = false
is_over (Nap until) = false
is_over Over = true

-- the carrier's next turn comes without a wait
abbrev pub goes_on : Turn → Bool
goes_on (Run ask) = true
goes_on (Nap until) = false
goes_on Over = false

abbrev pub asked_by : Turn → Ask
asked_by (Run ask) = ask
asked_by (Nap until) = Nothing
asked_by Over = Nothing

-- ---- entries

abbrev pub entry_by : ℕ → What → Entry
entry_by c what = record { carrier = c; what = what }

-- What a turn of carrier c does with its thread, as entries: nothing; a mount; an unmount; a step; or a step with which the thread ends, and
-- its unmount.
pub data AreActs (c : ℕ) (entries : List Entry) : Type 0 where
  none : entries ≡ [] → AreActs c entries
  mount : (t : ℕ) → entries ≡ entry_by c (Mount t) ∷ [] → AreActs c entries
  unmount : (t : ℕ) → entries ≡ entry_by c (Unmount t) ∷ [] → AreActs c entries
  step : (t n : ℕ) (pick : Option ℕ) → entries ≡ entry_by c (Step t (suc n) pick) ∷ [] → AreActs c entries
  last_step : (t n : ℕ) (pick : Option ℕ) → entries ≡ entry_by c (Step t (suc n) pick) ∷ entry_by c (Unmount t) ∷ [] → AreActs c entries

-- The entries that a turn appends: those, or before them that time goes on to the turn's time.
pub data AreOfTurn (c now : ℕ) (entries : List Entry) : Type 0 where
  acts : AreActs c entries → AreOfTurn c now entries
  timed : (later : List Entry) → AreActs c later → entries ≡ entry_by c (Clock now) ∷ later → AreOfTurn c now entries

pub record Appends (old new : Known) (c now : ℕ) : Type 0 where
  pub entries : List Entry
  pub of_turn : AreOfTurn c now entries
  pub history : new.history ≡ old.history ++ entries
  pub setting : new.setting ≡ old.setting
  pub carriers : new.carriers ≡ old.carriers

-- ---- what is due

-- neither memory nor threads were wanting
abbrev pub wants_nothing : Option Ending → Bool
wants_nothing None = true
wants_nothing (Some Stalled) = true
wants_nothing (Some Starved) = true
wants_nothing (Some e) = false

pub record HoldsNothing (h : Hand) : Type 0 where
  pub mounted : h.mounted ≡ None
  pub frozen : h.frozen ≡ None

pub record HoldsFrozen (h : Hand) : Type 0 where
  pub kept : Continuation
  pub frozen : h.frozen ≡ Some kept
  pub mounted : h.mounted ≡ None

abbrev pub MayNotStep : Known → ℕ → Type 0
MayNotStep m t = Given m (λ v. enabled v.state t ≡ false)

-- how long a carrier may nap from this time on: until the least deadline that is still to come
abbrev pub NapsFor : State → ℕ → Option ℕ → Type 0
NapsFor r now None = IsEarliestIn r None
NapsFor r now (Some nanos) = (deadline : ℕ) × IsEarliestIn r (Some deadline) × (nanos ≡ deadline - now)

abbrev pub IsNap : Known → ℕ → Option ℕ → Type 0
IsNap m now nanos = Given m (λ v. NapsFor v.state now nanos)

-- the step of the mounted thread, after the local instructions in the hand, reads the clock
pub record StepReads (m : Known) (h : Hand) : Type 0 where
  pub kept : Continuation
  pub mounted : h.mounted ≡ Some kept
  pub few : steps_of h.local ≡ 10001 → ⊥
  pub reads : Given m (λ v. reads_clock_next m.setting.world (with_frames v.state kept.thread kept.stack.frames) kept.thread ≡ true)

-- What a turn of carrier c does with its thread, by what its hand holds.
pub data IsActDue (old new : Known) (c now : ℕ) (h : Hand) (answer : Turn) : Type 0 where
  -- a frozen continuation is put down
  puts_down : (k : Continuation) → h.frozen ≡ Some k → new.history ≡ old.history ++ entry_by c (Unmount k.thread) ∷ [] →
      IsActDue old new c now h answer
  -- an empty hand takes up a thread, and where there is none the carrier naps
  takes_up : (t : ℕ) → HoldsNothing h → new.history ≡ old.history ++ entry_by c (Mount t) ∷ [] → IsActDue old new c now h answer
  naps : (nanos : Option ℕ) → HoldsNothing h → AreDequesEmpty old → new.history ≡ old.history → answer ≡ Nap nanos → IsNap old now nanos →
      IsActDue old new c now h answer
  -- a mounted thread that is enabled makes a step, which picks no thread if it reads the clock, and after which the thread is to be frozen only
  -- where its unmount is owed, and the carrier naps only where the thread is pinned and can't go on
  steps : (k : Continuation) (n : ℕ) (pick : Option ℕ) (rest : List Entry) → h.mounted ≡ Some k → AreAhead h.local n → MayStep old k.thread →
      (StepReads old h → pick ≡ None) →
      new.history ≡ old.history ++ entry_by c (Step k.thread (suc n) pick) ∷ rest → (answer ≡ Run Freeze → OwesUnmount new k.thread) →
      ((nanos : Option ℕ) → answer ≡ Nap nanos → Waits new k.thread × IsNap new now nanos) → IsActDue old new c now h answer
  -- one that isn't is to be frozen, unless it is pinned
  freezes : (k : Continuation) → h.mounted ≡ Some k → MayNotStep old k.thread → IsLoose old k.thread → new.history ≡ old.history →
      answer ≡ Run Freeze → IsActDue old new c now h answer
  -- with a pinned one the carrier naps
  keeps : (k : Continuation) (nanos : Option ℕ) → h.mounted ≡ Some k → Waits old k.thread → new.history ≡ old.history → answer ≡ Nap nanos →
      IsNap old now nanos → IsActDue old new c now h answer

-- it is made only where the time isn't less than this
abbrev pub ReadsInTime : Known → Hand → ℕ → Type 0
ReadsInTime m h least = StepReads m h → IsNotBefore m least

-- why a turn lets time go on: a live thread waits for that, or the step of its own thread reads the clock
pub data MayTick (m : Known) (now : ℕ) (h : Hand) : Type 0 where
  awaited : Awaits m now → MayTick m now h
  reads : StepReads m h → IsBefore m now → MayTick m now h

-- What a turn does with a machine that has no ending.
pub data IsDue (old new : Known) (c now : ℕ) (h : Hand) (answer : Turn) : Type 0 where
  -- no thread waits for this time, nor does the step read a clock that is ahead; what is due of its own thread is done
  acts : AwaitsNothing old now → ReadsInTime old h now → IsActDue old new c now h answer → IsDue old new c now h answer
  -- time goes on first, after which the run may have ended
  ticks : (mid : Known) → MayTick old now h → mid ≡ with_entry old c (Clock now) → IsActDue mid new c now h answer → IsDue old new c now h answer
  ends : Awaits old now → new.history ≡ old.history ++ entry_by c (Clock now) ∷ [] → is_some (machine_ending new) ≡ true →
      IsDue old new c now h answer

-- Time went on for a reason, before these entries of the turn; or the run was given up before it had any.
abbrev pub HadReason : Known → Known → ℕ → ℕ → List Entry → Type 0
HadReason old new c now later =
    Given old (λ v. HasReason old.setting v.state c now later) ⊎ ((new.told ≡ Some Halted) × (later ≡ []))

-- ---- stalls

-- no thread can go on, or the carriers keep all that could from it
abbrev pub goes_no_more : World → Scheduled State → Bool
goes_no_more w v = is_stalled w v.state || is_starved (look_of w v.state) v.schedule

-- such a program has an ending
abbrev pub StallsAreTold : Known → Type 0
StallsAreTold m = Given m (λ v. goes_no_more m.setting.world v ≡ true → is_some (machine_ending m) ≡ true)

-- ---- how far the end is

abbrev pub is_freeze : Ask → Bool
is_freeze Nothing = false
is_freeze (Local t) = false
is_freeze Freeze = true

-- the next turn appends an entry, or ends the run
abbrev pub is_pressing : Hand → Bool
is_pressing h = h.failed || (is_some h.frozen || is_freeze h.asked)

abbrev pub KeepsPressing : Hand → Hand → Type 0
KeepsPressing old new = is_pressing old ≡ true → is_pressing new ≡ true

-- Between two turns that append nothing the thread is frozen, so there are no more turns than this while none of them naps.
abbrev pub turns_left : Known → Hand → ℕ
turns_left m h = 2 * (m.setting.limits.events - length m.history) + (if is_pressing h then 0 else 1)

-- ---- a turn

pub record IsTurn (old new : Known) (c now : ℕ) (h g : Hand) (answer : Turn) : Type 0 where
  -- it appends no entries but those of one turn of its carrier
  pub appends : Appends old new c now
  -- time goes on only for a reason
  pub reason : (later : List Entry) → appends.entries ≡ entry_by c (Clock now) ∷ later → HadReason old new c now later
  -- the run is over where there is an ending, and there alone
  pub over : is_over answer ≡ is_some (machine_ending new)
  pub asks : g.asked ≡ asked_by answer
  pub works : goes_on answer ≡ true → g.failed ≡ false
  -- where there was no ending, and memory, it does what is due
  pub due : machine_ending old ≡ None → h.failed ≡ false → wants_nothing new.told ≡ true → IsDue old new c now h answer
  pub told : StallsAreTold old → StallsAreTold new
  pub nearer : goes_on answer ≡ true → turns_left new g < turns_left old h
