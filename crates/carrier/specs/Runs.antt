-- What a run of a program leaves.
use Rattle.std.specs.Prelude.{◌≡◌, ◌≢◌, ◌+◌, ◌*◌, ◌<◌, ◌≤◌, ℕ, Bool, true, List, [], ◌∷◌, ◌++◌, Some, None, length}
use Rattle.items.specs.First.{Each}
use Rattle.history.specs.declared.entry.Entry.{Entry}
use Rattle.history.specs.declared.entry.What.{What}
use Rattle.history.specs.declared.entry.What.TheVariants.{Clock}
use Rattle.history.specs.Java.{java}
use Rattle.schedule_model.specs.Run.{Scheduled, schedule_of}
use Rattle.ref_model.specs.declared.ending.Ending.{Ending}
use Rattle.ref_model.specs.declared.ending.Ending.TheVariants.{Limit, Stalled, Starved, Halted}
use Rattle.ref_model.specs.declared.ending.Which.TheVariants.{Events}
use Rattle.ref_model.specs.Setting.{Setting}
use Rattle.ref_model.specs.State.{State}
use Rattle.ref_model.specs.Opening.{opening}
use Rattle.ref_model.specs.Ending.{ending}
use Rattle.ref_model.specs.Alone.{alone}
use Rattle.ref_model.specs.Run.{run}
use Rattle.ref_model.specs.Looks.{machine_from}
pub use Rattle.schedule_soundness.specs.ClockLaws.{HasReason, HaveReasons}
use Rattle.machine.specs.Machines.{Known}
pub use Rattle.machine.specs.Machines.{entries_left}
pub use Rattle.machine.specs.Legal.{IsCause, LacksThreads, Works}
pub use Rattle.machine.specs.Live.{live_threads, mounted_threads}

-- How a run ended after so many entries: as the program did; or the program went on, and no thread could go on, or the next step of a thread
-- would have made a thread too many; or fewer entries were left than a turn may make.
pub data IsEndingOf (p : Setting) (v : Scheduled State) (entries : ℕ) (told : Ending) : Type 0 where
  own : ending v.state ≡ Some told → IsEndingOf p v entries told
  caused : IsCause p v told → (told ≡ Halted → ⊥) → IsEndingOf p v entries told
  limited : ending v.state ≡ None → told ≡ Limit Events p.limits.events → p.limits.events < entries + entries_left →
      IsEndingOf p v entries told

-- A program that ends in a number of steps of the main thread alone, which the limit of events allows, has ended in that state: an
-- entry has one step at least, and a step of a thread that is mounted and unmounted again takes three entries.
abbrev pub IsComplete : Setting → State → Type 0
IsComplete p last = (n : ℕ) (q : State) (e : Ending) → alone p n ≡ Some q → ending q ≡ Some e → 3 * n + 3 ≤ p.limits.events → last ≡ q

-- The threads that an answer lists: the live ones, where no thread can go on; and the mounted ones, in the order of the carriers, where they are
-- pinned and keep all others from going on.
abbrev pub AreListed : Scheduled State → Ending → List ℕ → Type 0
AreListed v Stalled threads = threads ≡ live_threads v.state
AreListed v Starved threads = threads ≡ mounted_threads v.schedule.mounted
AreListed v told threads = Unit {0}

-- where an entry is of time, the clock gives that number
abbrev pub IsGivenTime : (ℕ → Bool) → What → Type 0
IsGivenTime gives what = (now : ℕ) → what ≡ Clock now → gives now ≡ true

abbrev pub AreGivenTimes : (ℕ → Bool) → List Entry → Type 0
AreGivenTimes gives history = Each (λ (e : Entry). IsGivenTime gives e.what) history

-- Each entry of the history may stand where it stands, on so many carriers; without its mount and unmount entries it is a history of the
-- reference machine. The run ended so, and what the program wrote to its two streams is the output of that history; the threads that keep it
-- from going on are listed. The history has no more entries than the limit allows; each entry of time has a number that the clock gives, and a
-- reason; and a program that ends in time has ended.
pub record IsRun (p : Setting) (gives : ℕ → Bool) (carriers : ℕ) (history : List Entry) (out err numbers : List ℕ) (told : Ending) : Type 0 where
  pub first : State
  pub begins : opening p ≡ Some first
  pub after : Scheduled State
  pub legal : schedule_of (machine_from p first) carriers history ≡ Some after
  pub runs : run p (java history) ≡ Some after.state
  pub ended : IsEndingOf p after (length history) told
  pub prints : after.state.memory.out ≡ out
  pub tells : after.state.memory.err ≡ err
  pub listed : AreListed after told numbers
  pub times : AreGivenTimes gives history
  pub reasons : HaveReasons p first carriers history
  pub few : length history ≤ p.limits.events
  pub complete : IsComplete p after.state

-- ---- while it runs

-- each entry of time before the last entry of a history has a reason
abbrev pub HaveReasonsBefore : Setting → State → ℕ → List Entry → Type 0
HaveReasonsBefore p first carriers history =
    (front later : List Entry) (c now : ℕ) (v : Scheduled State) → later ≢ [] →
    history ≡ front ++ record { carrier = c; what = Clock now } ∷ later →
    schedule_of (machine_from p first) carriers front ≡ Some v → HasReason p v.state c now later

-- Each entry of time in the history of a machine has a number that the clock gives, and a reason. Where the run was given up the last entry
-- may have none: the next of its carrier was to have been a step that reads the clock.
pub record IsTimed (gives : ℕ → Bool) (m : Known) : Type 0 where
  pub times : AreGivenTimes gives m.history
  pub before : (first : State) → opening m.setting ≡ Some first → HaveReasonsBefore m.setting first m.carriers m.history
  pub reasons : Works m → (first : State) → opening m.setting ≡ Some first → HaveReasons m.setting first m.carriers m.history
