-- What a tick of time does to the threads, to the lists of monitors, and to a deque (JLS 17.2: a wait ends when its time has passed).
use Rattle.std.specs.Prelude.{◌≡◌, ◌⊎◌, ◌<◌, ◌==◌, ◌&&◌, ℕ, true, false, List, [], ◌∷◌, ◌++◌, None, Some, filter, if◌then◌else◌, length, slice_get}
use Rattle.vthread_state.specs.declared.phase.Phase.TheVariants.{Waiting}
use Rattle.vthread_state.specs.declared.phase.Wake.TheVariants.{TimedOut}
use Rattle.vthread_state.specs.declared.thread.Status.TheVariants.{Live}
use Rattle.thread_lists.specs.Lists.{without}
use Rattle.link_model.specs.World.{World}
use Rattle.schedule_model.specs.Look.{Look, is_entering, is_in_wait_list, is_waiting}
use Rattle.schedule_model.specs.Schedule.{Schedule, places}
use Rattle.schedule_model.specs.Puts.{by_deadline, put_by, updated_list}
use Rattle.schedule_model.specs.Run.{Scheduled}
use Rattle.schedule_model.specs.Woken.{AreListed}
use Rattle.ref_model.specs.Setting.{Setting}
use Rattle.ref_model.specs.State.{JavaThread, State}
use Rattle.ref_model.specs.Ending.{ending}
use Rattle.ref_model.specs.Enabled.{enabled}
use Rattle.ref_model.specs.Waiting.{at_time, latest, thread_woken}
use Rattle.ref_model.specs.Looks.{look_of, spot_of}
use Rattle.schedule_soundness.specs.HistoryLaws.{IsProgramAfter}
use Rattle.schedule_soundness.specs.TimeLaws.{AreDue, IsDue}

-- each thread that waits on a monitor has a deadline that is still to come, or none
abbrev pub NoWaitIsOver : State → Type 0
NoWaitIsOver r = (t o count deadline : ℕ) (x : JavaThread) → slice_get r.threads t ≡ Some x →
    x.thread.status ≡ Live (Waiting o count (Some deadline)) → r.now < deadline

-- It is so after each legal history, while there is a later time: a deadline is the greatest number of 64 bits at most (own).
abbrev pub WaitsAreOpen : Type 0
WaitsAreOpen = (p : Setting) (first : State) (v : Scheduled State) → IsProgramAfter p first v → v.state.now < latest → NoWaitIsOver v.state

-- ---- the threads

-- A thread that is due and waits on a monitor goes on to take it again, ..
abbrev pub TicksWakeWaiters : Type 0
TicksWakeWaiters = (w : World) (r q : State) (now t : ℕ) (x : JavaThread) → at_time r now ≡ Some q → slice_get r.threads t ≡ Some x →
    is_in_wait_list (spot_of x.thread.status) ≡ true → IsDue (look_of w r) now t →
    slice_get q.threads t ≡ Some (thread_woken TimedOut x)

-- .. and every other thread stays as it was, ..
abbrev pub TicksLeaveOthers : Type 0
TicksLeaveOthers = (w : World) (r q : State) (now t : ℕ) (x : JavaThread) → at_time r now ≡ Some q → NoWaitIsOver r →
    slice_get r.threads t ≡ Some x → (is_in_wait_list (spot_of x.thread.status) ≡ false) ⊎ (IsDue (look_of w r) now t → ⊥) →
    slice_get q.threads t ≡ Some x

-- .. as does all else but the time, which goes on. No thread is made, and no program ends.
pub record IsTicked (r q : State) (now : ℕ) : Type 0 where
  pub later : r.now < now
  pub same : q ≡ record r { now = now; threads = q.threads }
  pub as_many : length q.threads ≡ length r.threads
  pub goes_on : ending q ≡ ending r

abbrev pub TicksChangeTime : Type 0
TicksChangeTime = (r q : State) (now : ℕ) → at_time r now ≡ Some q → IsTicked r q now

-- ---- the lists of monitors

-- the wait list of a monitor after those of these threads that wait on it have left it, one after the other
abbrev pub left_by : Look → ℕ → List ℕ → List ℕ → List ℕ
left_by before o [] list = list
left_by before o (u ∷ us) list = left_by before o us (if is_waiting o (before.spot u) then without u list else list)

-- its entry list after they have come last to it, one after the other
abbrev pub lined_up_by : Look → ℕ → List ℕ → List ℕ → List ℕ
lined_up_by before o [] list = list
lined_up_by before o (u ∷ us) list = lined_up_by before o us (if is_waiting o (before.spot u) then list ++ u ∷ [] else list)

-- Those that are due do so in their order.
abbrev pub TicksMoveTheDue : Type 0
TicksMoveTheDue = (w : World) (r q : State) (s : Schedule) (now o : ℕ) (due : List ℕ) → AreListed (look_of w r) s →
    at_time r now ≡ Some q → NoWaitIsOver r → AreDue (look_of w r) now due →
    (updated_list (is_waiting o) (look_of w r) (look_of w q) (by_deadline (look_of w r) (look_of w q)) (s.wait_list o) ≡
    left_by (look_of w r) o due (s.wait_list o)) ×
    (updated_list (is_entering o) (look_of w r) (look_of w q) (by_deadline (look_of w r) (look_of w q)) (s.entry_list o) ≡
    lined_up_by (look_of w r) o due (s.entry_list o))

-- ---- who is put

-- Those that are due, in no place, and may step then are put, in this order: who waits on a monitor may where nobody owns it.
abbrev pub TicksPutTheDue : Type 0
TicksPutTheDue = (p : Setting) (first : State) (v : Scheduled State) (q : State) (now : ℕ) (entry_list : ℕ → List ℕ) (due : List ℕ) →
    IsProgramAfter p first v → ending v.state ≡ None → at_time v.state now ≡ Some q → NoWaitIsOver v.state →
    AreDue (look_of p.world v.state) now due →
    put_by (look_of p.world v.state) (look_of p.world q) entry_list v.schedule (by_deadline (look_of p.world v.state) (look_of p.world q)) ≡
    filter (λ t. (places t v.schedule == 0) && enabled q t) due
