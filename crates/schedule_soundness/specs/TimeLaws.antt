-- What a tick of time changes, and whom it puts into the deque of its carrier, where no thread waits on a monitor.
use Rattle.std.specs.Prelude.{◌≡◌, ◌<◌, ◌≤◌, ◌↔◌, ◌==◌, ℕ, false, Contains, List, None, Some, filter, slice_get}
use Rattle.std.specs.List.Sorted.{IsSortedBy}
use Rattle.thread_lists.specs.Lists.{count}
use Rattle.schedule_model.specs.Look.{Look, is_in_wait_list}
use Rattle.schedule_model.specs.Schedule.{places}
use Rattle.schedule_model.specs.Puts.{by_deadline, is_earlier, put_by}
use Rattle.schedule_model.specs.Run.{Scheduled}
use Rattle.ref_model.specs.Setting.{Setting}
use Rattle.ref_model.specs.State.{JavaThread, State}
use Rattle.ref_model.specs.Ending.{ending}
use Rattle.ref_model.specs.Waiting.{at_time}
use Rattle.ref_model.specs.Looks.{look_of, spot_of}
use Rattle.schedule_soundness.specs.HistoryLaws.{IsProgramAfter}

-- no thread waits on a monitor, to be notified
abbrev pub NobodyWaits : State → Type 0
NobodyWaits r = (t : ℕ) (x : JavaThread) → slice_get r.threads t ≡ Some x → is_in_wait_list (spot_of x.thread.status) ≡ false

-- Where nobody does, a tick changes nothing but the time.
abbrev pub TicksLeaveThreads : Type 0
TicksLeaveThreads = (r : State) (now : ℕ) → r.now < now → NobodyWaits r → at_time r now ≡ Some (record r { now = now })

-- ---- who is put

-- the thread has a deadline, which is still to come, and is reached at this time
pub record IsDue (l : Look) (now t : ℕ) : Type 0 where
  pub deadline : ℕ
  pub has : l.deadline t ≡ Some deadline
  pub to_come : l.now < deadline
  pub reached : deadline ≤ now

-- just the threads that are due, each once, by their deadlines and then by their numbers
pub record AreDue (l : Look) (now : ℕ) (due : List ℕ) : Type 0 where
  pub just : (t : ℕ) → Contains due t ↔ IsDue l now t
  pub once : (t : ℕ) → count t due ≤ 1
  pub in_order : IsSortedBy (is_earlier l) due

-- Where nobody waits on a monitor, a tick puts those that are due and in no place, in this order.
abbrev pub TicksPutWhoIsDue : Type 0
TicksPutWhoIsDue = (p : Setting) (first : State) (v : Scheduled State) (q : State) (now : ℕ) (entry_list : ℕ → List ℕ) (due : List ℕ) →
    IsProgramAfter p first v → ending v.state ≡ None → at_time v.state now ≡ Some q → NobodyWaits v.state →
    AreDue (look_of p.world v.state) now due →
    put_by (look_of p.world v.state) (look_of p.world q) entry_list v.schedule (by_deadline (look_of p.world v.state) (look_of p.world q)) ≡
    filter (λ t. places t v.schedule == 0) due
