-- What holds of every history.
use Rattle.std.specs.Prelude.{◌≡◌, ◌≢◌, ◌==◌, ◌&&◌, [], ◌∷◌, not, ◌≤◌, ◌<◌, ◌⊎◌, ℕ, true, false, List, ◌++◌, Option, None, Some, slice_get}
use Rattle.items.specs.Options.{◌>>=◌}
use Rattle.thread_lists.specs.Lists.{count}
use Rattle.history.specs.declared.entry.Entry.{Entry}
use Rattle.history.specs.declared.entry.What.{What}
use Rattle.history.specs.Java.{java}
use Rattle.schedule_model.specs.Look.{Look, in_entry_list, is_done, is_entering, is_in_line, is_live, is_waiting}
use Rattle.schedule_model.specs.Schedule.{Schedule, in_deques, on_carriers, places}
use Rattle.schedule_model.specs.Puts.{is_first, is_to_run, put_by, updated_list}
use Rattle.schedule_model.specs.Entries.{after_step, after_tick, has_mounted, may_step, may_tick, may_unmount, mount, unmount}
use Rattle.schedule_model.specs.Run.{Machine, Scheduled, is_legal, replay, schedule_from, schedule_of, scheduled_after}
use Rattle.schedule_model.specs.Stalled.{has_time, is_stalled, is_starved}
use Rattle.schedule_model.specs.Woken.{AreHeld, AreListed, AreWoken}
use Rattle.schedule_model.specs.Changes.{Changes, IsLocal, KeepsPromises, OwnChange, ThreadChange}

-- What a legal history begins with is legal.
abbrev pub PrefixesAreLegal : {S : Type 0} → Machine S → Type 0
PrefixesAreLegal m = (carriers : ℕ) (front back : List Entry) →
    is_legal m carriers (front ++ back) ≡ true → is_legal m carriers front ≡ true

-- A history that goes on is played on from where it was.
abbrev pub HistoriesGoOn : {S : Type 0} → Machine S → Type 0
HistoriesGoOn m = (carriers : ℕ) (front back : List Entry) →
    schedule_of m carriers (front ++ back) ≡ (schedule_of m carriers front >>= λ v. schedule_from m v back)

-- Without its mounts and unmounts a legal history runs the machine to the same state.
abbrev pub RunsWithoutCarriers : {S : Type 0} → Machine S → Type 0
RunsWithoutCarriers m = (carriers : ℕ) (history : List Entry) (v : Scheduled _) →
    schedule_of m carriers history ≡ Some v → replay m m.opening (java history) ≡ Some v.state

-- this is the state and the schedule after a legal history of a machine that keeps what it owes
pub record IsAfter {S : Type 0} (m : Machine S) (v : Scheduled S) : Type 0 where
  pub promises : KeepsPromises m
  pub carriers : ℕ
  pub some : 0 < carriers
  pub history : List Entry
  pub runs : schedule_of m carriers history ≡ Some v

-- A thread is in one place at most: mounted once, or once in one deque. So who is mounted is in no deque.
abbrev pub InOnePlace : {S : Type 0} → Machine S → Type 0
InOnePlace m = (v : Scheduled _) → IsAfter m v → (t : ℕ) → places t v.schedule ≤ 1

abbrev pub MountedIsInNoDeque : {S : Type 0} → Machine S → Type 0
MountedIsInNoDeque m = (v : Scheduled _) → IsAfter m v → (t : ℕ) → 0 < on_carriers t v.schedule → in_deques t v.schedule ≡ 0

abbrev pub DequesHaveLooseThreads : {S : Type 0} → Machine S → Type 0
DequesHaveLooseThreads m = (v : Scheduled _) → IsAfter m v → (m.look v.state).ended ≡ false → (t : ℕ) → 0 < in_deques t v.schedule →
    (is_live ((m.look v.state).spot t) ≡ true) × (on_carriers t v.schedule ≡ 0)

-- While the program goes on no wake-up is lost, ..
abbrev pub NoWakeUpIsLost : {S : Type 0} → Machine S → Type 0
NoWakeUpIsLost m = (v : Scheduled _) → IsAfter m v → (m.look v.state).ended ≡ false → AreWoken (m.look v.state) v.schedule

-- .. the lists of the monitors have the threads that wait there, each once, ..
abbrev pub ListsHaveTheirThreads : {S : Type 0} → Machine S → Type 0
ListsHaveTheirThreads m = (v : Scheduled _) → IsAfter m v → (m.look v.state).ended ≡ false → AreListed (m.look v.state) v.schedule

-- .. pinned threads are mounted, ..
abbrev pub PinnedThreadsAreMounted : {S : Type 0} → Machine S → Type 0
PinnedThreadsAreMounted m = (v : Scheduled _) → IsAfter m v → (m.look v.state).ended ≡ false → AreHeld (m.look v.state) v.schedule

-- .. and stay so: only a thread that has ended, or isn't pinned, is unmounted.
abbrev pub PinnedThreadsStay : {S : Type 0} → Machine S → Type 0
PinnedThreadsStay m = (v : Scheduled _) → IsAfter m v → (c t : ℕ) → may_unmount (m.look v.state) v.schedule c t ≡ true →
    (is_done ((m.look v.state).spot t) ≡ true) ⊎ ((m.look v.state).pinned t ≡ false)

-- To know that no thread may step it is enough to look at those that are mounted or in a deque.
abbrev pub PlacesTell : {S : Type 0} → Machine S → Type 0
PlacesTell m = (v : Scheduled _) → IsAfter m v → (m.look v.state).ended ≡ false →
    ((t : ℕ) → 0 < places t v.schedule → (m.look v.state).enabled t ≡ false) → (t : ℕ) → (m.look v.state).enabled t ≡ false

-- So the program is stalled where none of them may step and no thread has a deadline to come.
abbrev pub StallsByPlaces : {S : Type 0} → Machine S → Type 0
StallsByPlaces m = (v : Scheduled _) → IsAfter m v → (m.look v.state).ended ≡ false →
    ((t : ℕ) → 0 < places t v.schedule → (m.look v.state).enabled t ≡ false) →
    ((t : ℕ) → has_time (m.look v.state) t ≡ false) → is_stalled (m.look v.state) ≡ true

-- What a carrier has mounted, and whether it owes the Unmount of that, is changed by its own entries alone; and while the program goes on it
-- still may unmount what it might.
abbrev pub OthersLeaveMounted : {S : Type 0} → Machine S → Type 0
OthersLeaveMounted m = (v w : Scheduled _) (c k : ℕ) (what : What) → k ≢ c → scheduled_after m v k what ≡ Some w →
    slice_get w.schedule.mounted c ≡ slice_get v.schedule.mounted c

abbrev pub OthersLeaveOwed : {S : Type 0} → Machine S → Type 0
OthersLeaveOwed m = (v w : Scheduled _) → IsAfter m v → (c k t : ℕ) (what : What) → k ≢ c → scheduled_after m v k what ≡ Some w →
    has_mounted v.schedule c t ≡ true → w.schedule.owes t ≡ v.schedule.owes t

abbrev pub UnmountsStayAllowed : {S : Type 0} → Machine S → Type 0
UnmountsStayAllowed m = (v w : Scheduled _) → IsAfter m v → (c k t : ℕ) (what : What) → k ≢ c → scheduled_after m v k what ≡ Some w →
    (m.look w.state).ended ≡ false → may_unmount (m.look v.state) v.schedule c t ≡ true → may_unmount (m.look w.state) w.schedule c t ≡ true

-- A mount or an unmount starves nobody, so only after a step or a tick has this to be looked for; and what is stalled isn't starved.
abbrev pub MountsStarveNobody : {S : Type 0} → Machine S → Type 0
MountsStarveNobody m = (v : Scheduled _) → IsAfter m v → (c t : ℕ) (s : Schedule) →
    mount (m.look v.state) v.schedule c t ≡ Some s → is_starved (m.look v.state) s ≡ false

abbrev pub UnmountsStarveNobody : Type 0
UnmountsStarveNobody = (l : Look) (before after : Schedule) (c t : ℕ) → unmount l before c t ≡ Some after → is_starved l after ≡ false

abbrev pub StalledIsNotStarved : Type 0
StalledIsNotStarved = (l : Look) (s : Schedule) → is_stalled l ≡ true → is_starved l s ≡ false

-- a thread that is in no place and, after an entry, in no line is to run exactly where it may step then
abbrev pub PutsWhoIsEnabled : Look → Look → Schedule → Schedule → Type 0
PutsWhoIsEnabled before after s next = (t : ℕ) → places t s ≡ 0 → is_in_line (after.spot t) ≡ false →
    is_to_run before after next.entry_list t ≡ after.enabled t

-- Of the threads that are in no place and, after a step or a tick, in no line, those are put into the deque that may step then. So nobody
-- has to know who could step before.
abbrev pub StepsPutWhoIsEnabled : {S : Type 0} → Machine S → Type 0
StepsPutWhoIsEnabled m = (v : Scheduled _) → IsAfter m v → (q : _) (c t n : ℕ) (pick : Option ℕ) →
    may_step (m.look v.state) v.schedule c t pick ≡ true → m.steps v.state t n pick ≡ Some q → (m.look q).ended ≡ false →
    PutsWhoIsEnabled (m.look v.state) (m.look q) v.schedule (after_step (m.look v.state) (m.look q) v.schedule c t (m.yields v.state t n))

abbrev pub TicksPutWhoIsEnabled : {S : Type 0} → Machine S → Type 0
TicksPutWhoIsEnabled m = (v : Scheduled _) → IsAfter m v → (q : _) (c now : ℕ) →
    may_tick (m.look v.state) v.schedule c ≡ true → m.tick v.state now ≡ Some q → (m.look q).ended ≡ false →
    PutsWhoIsEnabled (m.look v.state) (m.look q) v.schedule (after_tick (m.look v.state) (m.look q) v.schedule c)

-- ---- how a machine shows that it keeps what it owes

-- a step by what it does to its own thread and to each other thread, and a tick by what it does to each
abbrev pub StepsByThreads : Type 0
StepsByThreads = (before after : Look) (t : ℕ) → OwnChange before after t →
    ((u : ℕ) → u ≢ t → ThreadChange before after u) → Changes before after (Some t)

abbrev pub TicksByThreads : Type 0
TicksByThreads = (before after : Look) → ((u : ℕ) → ThreadChange before after u) → Changes before after None

-- an entry of several steps, which are local but the last, by its last step
abbrev pub StepsByTheLast : Type 0
StepsByTheLast = (before between after : Look) (t : ℕ) → IsLocal before between t → Changes between after (Some t) →
    Changes before after (Some t)

-- ---- who is put, in the words of code

-- who was in line for a monitor, and is, is to run exactly where the monitor lost its owner and it is the first in line
abbrev pub FirstInLineRuns : Type 0
FirstInLineRuns = (before after : Look) (entry_list : ℕ → List ℕ) (t o : ℕ) →
    before.spot t ≡ in_entry_list o → after.spot t ≡ in_entry_list o →
    is_to_run before after entry_list t ≡ (before.owned o && (not (after.owned o) && is_first (entry_list o) t))

-- where nobody is to be put nobody is, and where one thread is it is put alone
abbrev pub NobodyIsPut : Type 0
NobodyIsPut = (before after : Look) (entry_list : ℕ → List ℕ) (s : Schedule) (order : List ℕ) →
    ((t : ℕ) → (is_to_run before after entry_list t && (places t s == 0)) ≡ false) → put_by before after entry_list s order ≡ []

abbrev pub OneIsPut : Type 0
OneIsPut = (before after : Look) (entry_list : ℕ → List ℕ) (s : Schedule) (order : List ℕ) (u : ℕ) →
    ((t : ℕ) → (is_to_run before after entry_list t && (places t s == 0)) ≡ (t == u)) → count u order ≡ 1 →
    put_by before after entry_list s order ≡ u ∷ []

-- where no thread goes elsewhere the lists of the monitors stay
abbrev pub ListsStay : Type 0
ListsStay = (before after : Look) (s : Schedule) (order : List ℕ) (o : ℕ) → AreListed before s →
    ((t : ℕ) → after.spot t ≡ before.spot t) →
    (updated_list (is_waiting o) before after order (s.wait_list o) ≡ s.wait_list o) ×
    (updated_list (is_entering o) before after order (s.entry_list o) ≡ s.entry_list o)
