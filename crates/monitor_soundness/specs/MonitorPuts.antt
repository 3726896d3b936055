-- Whom a step puts into the deque of its carrier, where it takes or leaves a monitor, or moves threads that wait on one (JLS 17.1, 17.2).
use Rattle.std.specs.Prelude.{◌≡◌, ◌≢◌, ◌⊎◌, ◌↔◌, ◌==◌, ◌&&◌, ℕ, true, false, Contains, List, [], ◌∷◌, Option, None, Some, if◌then◌else◌, slice_get}
use Rattle.std.specs.List.Sorted.{IsStrictlyIncreasing}
use Rattle.vthread_state.specs.declared.phase.Wake.TheVariants.{Notified}
use Rattle.vthread_state.specs.Threads.{joins_in}
use Rattle.schedule_model.specs.Look.{in_entry_list, in_wait_list, is_in_line}
use Rattle.schedule_model.specs.Schedule.{Schedule, places}
use Rattle.schedule_model.specs.Puts.{all_threads, put_by}
use Rattle.schedule_model.specs.Entries.{has_mounted}
use Rattle.schedule_model.specs.Run.{Scheduled}
use Rattle.ref_model.specs.Setting.{Setting}
use Rattle.ref_model.specs.State.{JavaThread, State}
use Rattle.ref_model.specs.Ending.{ending}
use Rattle.ref_model.specs.Enabled.{enabled, has_ended, is_free}
use Rattle.ref_model.specs.Waiting.{status_woken, thread_waits_on}
use Rattle.ref_model.specs.Looks.{look_of}
use Rattle.schedule_soundness.specs.HistoryLaws.{IsProgramAfter}
use Rattle.schedule_soundness.specs.PutLaws.{EndsNoWait, IsWoken, OthersStayBeside, Stays, rows_of}
use Rattle.monitor_soundness.specs.ListLaws.{AreInLine}

-- ---- what a step leaves as it was

-- all threads but one stay, and so do the time and the owner of each monitor but one
pub record MonitorStep (t o : ℕ) (before after : State) : Type 0 where
  pub threads : (u : ℕ) → u ≢ t → Stays (slice_get before.threads u) (slice_get after.threads u)
  pub owners : (p : ℕ) → p ≢ o → after.owners p ≡ before.owners p
  pub now : after.now ≡ before.now

-- the monitor had an owner, and has none now
pub record LosesOwner (o : ℕ) (before after : State) : Type 0 where
  pub was : is_free before o ≡ false
  pub is : is_free after o ≡ true

-- it stays, or its wait on this monitor ends by a notification
pub data StaysOrIsNotified (o : ℕ) (before after : Option JavaThread) : Type 0 where
  stays : Stays before after → StaysOrIsNotified o before after
  is_notified : (x y : JavaThread) → before ≡ Some x → after ≡ Some y → thread_waits_on o x ≡ true →
      y.thread.status ≡ status_woken Notified x.thread.status → StaysOrIsNotified o before after

-- all threads but one stay, or are notified on a monitor that is owned; and so do the owners of monitors and the time
pub record Notifies (t o : ℕ) (before after : State) : Type 0 where
  pub threads : (u : ℕ) → u ≢ t → StaysOrIsNotified o (slice_get before.threads u) (slice_get after.threads u)
  pub owners : after.owners ≡ before.owners
  pub now : after.now ≡ before.now
  pub owned : is_free before o ≡ false

-- ---- those in line

-- a thread alone, where there is one, and it is in no place
abbrev pub if_loose : Option ℕ → Schedule → List ℕ
if_loose None s = []
if_loose (Some u) s = if places u s == 0 then u ∷ [] else []

-- it waits for the end of thread t, or is the first in line, and is in no place
abbrev pub IsToBeWoken : Scheduled State → ℕ → List ℕ → ℕ → Type 0
IsToBeWoken v t line u = ((joins_in (rows_of v.state) u ≡ Some t) ⊎ (slice_get line 0 ≡ Some u)) × (places u v.schedule ≡ 0)

-- ---- who is put

-- Where a monitor is owned after the step nobody is put: with monitorenter, with an exit by which its owner keeps it, and with a step out
-- of its line.
abbrev pub EntersPutNobody : Type 0
EntersPutNobody = (p : Setting) (v : Scheduled State) (q : State) (c t o : ℕ) (entry_list : ℕ → List ℕ) →
    has_mounted v.schedule c t ≡ true → ending v.state ≡ None → MonitorStep t o v.state q → EndsNoWait q t → is_free q o ≡ false →
    put_by (look_of p.world v.state) (look_of p.world q) entry_list v.schedule (all_threads (look_of p.world q)) ≡ []

-- Where it loses its owner the first in line is put, if it is in no place: with monitorexit, and with wait.
abbrev pub ExitsPutTheFirst : Type 0
ExitsPutTheFirst = (p : Setting) (v : Scheduled State) (q : State) (c t o : ℕ) (entry_list : ℕ → List ℕ) →
    has_mounted v.schedule c t ≡ true → ending v.state ≡ None → MonitorStep t o v.state q → EndsNoWait q t → LosesOwner o v.state q →
    AreInLine (look_of p.world q) o (entry_list o) →
    put_by (look_of p.world v.state) (look_of p.world q) entry_list v.schedule (all_threads (look_of p.world q)) ≡
    if_loose (slice_get (entry_list o) 0) v.schedule

-- Where its owner ends with it, as with a synchronized run, those that join the thread are put too, by their number.
abbrev pub EndsPutJoinersAndTheFirst : Type 0
EndsPutJoinersAndTheFirst = (p : Setting) (first : State) (v : Scheduled State) (q : State) (c t o : ℕ) (entry_list : ℕ → List ℕ)
    (woken : List ℕ) → IsProgramAfter p first v → has_mounted v.schedule c t ≡ true → ending v.state ≡ None → ending q ≡ None →
    MonitorStep t o v.state q → has_ended q t ≡ true → LosesOwner o v.state q → AreInLine (look_of p.world q) o (entry_list o) →
    IsStrictlyIncreasing woken → ((u : ℕ) → Contains woken u ↔ IsToBeWoken v t (entry_list o) u) →
    put_by (look_of p.world v.state) (look_of p.world q) entry_list v.schedule (all_threads (look_of p.world q)) ≡ woken

-- Where the monitor keeps an owner, since it was entered more often than it was left, those are put alone.
abbrev pub EndsPutJoinersAlone : Type 0
EndsPutJoinersAlone = (p : Setting) (first : State) (v : Scheduled State) (q : State) (c t o : ℕ) (entry_list : ℕ → List ℕ)
    (joiners : List ℕ) → IsProgramAfter p first v → has_mounted v.schedule c t ≡ true → ending v.state ≡ None → ending q ≡ None →
    MonitorStep t o v.state q → has_ended q t ≡ true → is_free q o ≡ false → IsStrictlyIncreasing joiners →
    ((u : ℕ) → Contains joiners u ↔ ((joins_in (rows_of v.state) u ≡ Some t) × (places u v.schedule ≡ 0))) →
    put_by (look_of p.world v.state) (look_of p.world q) entry_list v.schedule (all_threads (look_of p.world q)) ≡ joiners

-- A notification puts nobody, since the thread that notifies owns the monitor.
abbrev pub NotifiesPutNobody : Type 0
NotifiesPutNobody = (p : Setting) (v : Scheduled State) (q : State) (c t o : ℕ) (entry_list : ℕ → List ℕ) →
    has_mounted v.schedule c t ≡ true → ending v.state ≡ None → Notifies t o v.state q → EndsNoWait q t →
    put_by (look_of p.world v.state) (look_of p.world q) entry_list v.schedule (all_threads (look_of p.world q)) ≡ []

-- A thread whose wait ends by an interrupt is put if it is in no place and may step then, since nobody owns the monitor.
abbrev pub InterruptsPutTheWaiter : Type 0
InterruptsPutTheWaiter = (p : Setting) (v : Scheduled State) (q : State) (c t u o : ℕ) (entry_list : ℕ → List ℕ) →
    has_mounted v.schedule c t ≡ true → ending v.state ≡ None → ending q ≡ None → OthersStayBeside t u v.state q → EndsNoWait q t →
    (look_of p.world v.state).spot u ≡ in_wait_list o → (look_of p.world q).spot u ≡ in_entry_list o →
    put_by (look_of p.world v.state) (look_of p.world q) entry_list v.schedule (all_threads (look_of p.world q)) ≡
    (if (places u v.schedule == 0) && enabled q u then u ∷ [] else [])

-- A thread in line that gets a permit or an interrupt stays in line, and isn't put.
abbrev pub WakesInLinePutNobody : Type 0
WakesInLinePutNobody = (p : Setting) (v : Scheduled State) (q : State) (c t u : ℕ) (entry_list : ℕ → List ℕ) →
    has_mounted v.schedule c t ≡ true → ending v.state ≡ None → OthersStayBeside t u v.state q → EndsNoWait q t → IsWoken v.state q u →
    is_in_line ((look_of p.world v.state).spot u) ≡ true →
    put_by (look_of p.world v.state) (look_of p.world q) entry_list v.schedule (all_threads (look_of p.world q)) ≡ []
