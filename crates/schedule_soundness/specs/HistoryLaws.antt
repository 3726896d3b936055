-- What holds of each legal history of a program.
use Rattle.std.specs.Prelude.{◌≡◌, ◌≢◌, ◌<◌, ◌≤◌, ◌⊎◌, ℕ, true, false, List, ◌++◌, Some, slice_get}
use Rattle.history.specs.declared.entry.Entry.{Entry}
use Rattle.history.specs.declared.entry.What.{What}
use Rattle.history.specs.Java.{java}
use Rattle.schedule_model.specs.Look.{is_done, is_live}
use Rattle.schedule_model.specs.Schedule.{in_deques, on_carriers, places}
use Rattle.schedule_model.specs.Entries.{has_mounted, may_unmount}
use Rattle.schedule_model.specs.Run.{Scheduled, is_legal, schedule_of, scheduled_after}
use Rattle.schedule_model.specs.Woken.{AreHeld, AreListed, AreWoken}
use Rattle.ref_model.specs.Setting.{Setting}
use Rattle.ref_model.specs.State.{State}
use Rattle.ref_model.specs.Opening.{opening}
use Rattle.ref_model.specs.Run.{run}
use Rattle.ref_model.specs.Looks.{look_of, machine_from}
use Rattle.schedule_soundness.specs.PromiseLaws.{BeginsUnpinned}
use Rattle.schedule_soundness.specs.Started.{was_started}

-- this is the state and the schedule of the program after a legal history
pub record IsProgramAfter (p : Setting) (first : State) (v : Scheduled State) : Type 0 where
  pub begins : opening p ≡ Some first
  pub plain : BeginsUnpinned p
  pub carriers : ℕ
  pub some : 0 < carriers
  pub history : List Entry
  pub runs : schedule_of (machine_from p first) carriers history ≡ Some v

-- What a legal history begins with is legal.
abbrev pub HistoryPrefixes : Type 0
HistoryPrefixes = (p : Setting) (first : State) (carriers : ℕ) (front back : List Entry) →
    is_legal (machine_from p first) carriers (front ++ back) ≡ true → is_legal (machine_from p first) carriers front ≡ true

-- Its entries without mounts and unmounts run the program to the same state.
abbrev pub HistoriesRun : Type 0
HistoriesRun = (p : Setting) (first : State) (carriers : ℕ) (history : List Entry) (v : Scheduled State) → opening p ≡ Some first →
    schedule_of (machine_from p first) carriers history ≡ Some v → run p (java history) ≡ Some v.state

-- An entry that may stand after it makes a longer one.
abbrev pub HistoriesGoOn : Type 0
HistoriesGoOn = (p : Setting) (first : State) (v w : Scheduled State) → IsProgramAfter p first v → (c : ℕ) (what : What) →
    scheduled_after (machine_from p first) v c what ≡ Some w → IsProgramAfter p first w

-- ---- places

-- A thread is mounted once, or once in one deque, or neither.
abbrev pub ThreadsAreInOnePlace : Type 0
ThreadsAreInOnePlace = (p : Setting) (first : State) (v : Scheduled State) → IsProgramAfter p first v → (t : ℕ) → places t v.schedule ≤ 1

abbrev pub MountedAreInNoDeque : Type 0
MountedAreInNoDeque = (p : Setting) (first : State) (v : Scheduled State) → IsProgramAfter p first v → (t : ℕ) →
    0 < on_carriers t v.schedule → in_deques t v.schedule ≡ 0

-- While the program goes on, who is in a deque is live, and mounted nowhere.
abbrev pub DequesHaveLiveThreads : Type 0
DequesHaveLiveThreads = (p : Setting) (first : State) (v : Scheduled State) → IsProgramAfter p first v →
    (look_of p.world v.state).ended ≡ false → (t : ℕ) → 0 < in_deques t v.schedule →
    (is_live ((look_of p.world v.state).spot t) ≡ true) × (on_carriers t v.schedule ≡ 0)

-- Who is in a place was started.
abbrev pub PlacedWereStarted : Type 0
PlacedWereStarted = (p : Setting) (first : State) (v : Scheduled State) → IsProgramAfter p first v → (t : ℕ) →
    0 < places t v.schedule → was_started ((look_of p.world v.state).spot t) ≡ true

-- ---- wake-ups, lists, and pins, while the program goes on

abbrev pub NoWakeUpIsLost : Type 0
NoWakeUpIsLost = (p : Setting) (first : State) (v : Scheduled State) → IsProgramAfter p first v →
    (look_of p.world v.state).ended ≡ false → AreWoken (look_of p.world v.state) v.schedule

abbrev pub ListsHaveTheirThreads : Type 0
ListsHaveTheirThreads = (p : Setting) (first : State) (v : Scheduled State) → IsProgramAfter p first v →
    (look_of p.world v.state).ended ≡ false → AreListed (look_of p.world v.state) v.schedule

abbrev pub PinnedAreMounted : Type 0
PinnedAreMounted = (p : Setting) (first : State) (v : Scheduled State) → IsProgramAfter p first v →
    (look_of p.world v.state).ended ≡ false → AreHeld (look_of p.world v.state) v.schedule

-- Only a thread that has ended, or isn't pinned, is unmounted.
abbrev pub PinnedStayMounted : Type 0
PinnedStayMounted = (p : Setting) (first : State) (v : Scheduled State) → IsProgramAfter p first v → (c t : ℕ) →
    may_unmount (look_of p.world v.state) v.schedule c t ≡ true →
    (is_done ((look_of p.world v.state).spot t) ≡ true) ⊎ ((look_of p.world v.state).pinned t ≡ false)

-- ---- entries of other carriers

-- What a carrier has mounted, and whether it owes the Unmount of that, is its own affair; ..
abbrev pub OthersLeaveMounted : Type 0
OthersLeaveMounted = (p : Setting) (first : State) (v w : Scheduled State) → IsProgramAfter p first v → (c k : ℕ) (what : What) → k ≢ c →
    scheduled_after (machine_from p first) v k what ≡ Some w → slice_get w.schedule.mounted c ≡ slice_get v.schedule.mounted c

abbrev pub OthersLeaveOwed : Type 0
OthersLeaveOwed = (p : Setting) (first : State) (v w : Scheduled State) → IsProgramAfter p first v → (c k t : ℕ) (what : What) → k ≢ c →
    scheduled_after (machine_from p first) v k what ≡ Some w → has_mounted v.schedule c t ≡ true → w.schedule.owes t ≡ v.schedule.owes t

-- .. so what it may unmount it still may afterwards, while the program goes on.
abbrev pub UnmountsStayAllowed : Type 0
UnmountsStayAllowed = (p : Setting) (first : State) (v w : Scheduled State) → IsProgramAfter p first v → (c k t : ℕ) (what : What) → k ≢ c →
    scheduled_after (machine_from p first) v k what ≡ Some w → (look_of p.world w.state).ended ≡ false →
    may_unmount (look_of p.world v.state) v.schedule c t ≡ true → may_unmount (look_of p.world w.state) w.schedule c t ≡ true
