-- The monitors of a state (JLS 17.1, 17.2): who owns each, and that threads are in the lists of monitors just where their phases say so.
use Rattle.std.specs.Prelude.{◌≡◌, ℕ, List, [], ◌∷◌, Option, Some, None, length, slice_get}
use Rattle.std.specs.Option.{option_map, option_map_or}
use Rattle.thread_lists.specs.Lists.{count}
use Rattle.vthread_state.specs.declared.thread.Status.{Status}
use Rattle.schedule_model.specs.Look.{Spot, absent, in_wait_list, is_entering, is_waiting}
use Rattle.schedule_model.specs.Woken.{once_if}
use Rattle.ref_model.specs.Looks.{spot_of}
use Rattle.ref_model.specs.State.{JavaThread, Owner}
use Rattle.ref_model.specs.Waiting.{status_woken}
use Rattle.vthread_state.specs.declared.phase.Wake.{Wake}
use Rattle.vthread_state.specs.declared.thread.Thread.{Thread}
use Rattle.vthread_state.specs.Threads.{Threads, thread_at, with_thread}
use Rattle.monitors.specs.Monitors.{Becomes, Monitor, Monitors, after_leave_wait, after_line_up, after_notify, after_notify_all, after_retake, after_wait, monitor_of}

-- the owner of a monitor, as the reference machine has it
abbrev pub owner_in : Monitor → Option Owner
owner_in m = option_map (λ t. record { thread = t; count = m.count }) m.owner

-- where a thread is
abbrev pub spot_at : List JavaThread → ℕ → Spot
spot_at threads t = option_map_or (λ (x : JavaThread). spot_of x.thread.status) (slice_get threads t) absent

-- These monitors have such owners, and each thread is in the list of a monitor where it waits there, once, and in no other.
pub record HoldsMonitors (a : Monitors) (threads : List JavaThread) (owners : ℕ → Option Owner) : Type 0 where
  pub owners_are : (o : ℕ) → owner_in (monitor_of a o) ≡ owners o
  pub waits : (t o : ℕ) → count t (monitor_of a o).wait_list ≡ once_if (is_waiting o (spot_at threads t))
  pub enters : (t o : ℕ) → count t (monitor_of a o).entry_list ≡ once_if (is_entering o (spot_at threads t))
  pub places : a.threads ≡ length threads

-- ---- the same by the table of threads

abbrev pub spot_in : Threads → ℕ → Spot
spot_in table t = option_map_or (λ (thread : Thread). spot_of thread.status) (thread_at table t) absent

-- each thread is in the list of a monitor where it waits there, once, and in no other
pub record AreSeated (a : Monitors) (table : Threads) : Type 0 where
  pub waits : (t o : ℕ) → count t (monitor_of a o).wait_list ≡ once_if (is_waiting o (spot_in table t))
  pub enters : (t o : ℕ) → count t (monitor_of a o).entry_list ≡ once_if (is_entering o (spot_in table t))
  pub places : a.threads ≡ length table.threads

-- the table where a wait of a thread on a monitor has ended so, if it waited on one
abbrev pub with_woken : Wake → Threads → ℕ → Threads
with_woken wake table t = with_thread table t (λ thread. record thread { status = status_woken wake thread.status })

-- ---- how lists change

-- their lists are the same
pub record HaveSameLists (old new : Monitors) : Type 0 where
  pub waits : (o : ℕ) → (monitor_of new o).wait_list ≡ (monitor_of old o).wait_list
  pub enters : (o : ℕ) → (monitor_of new o).entry_list ≡ (monitor_of old o).entry_list

-- Nobody comes to a list or leaves one; or one thread does, at one monitor: it lines up; it takes the monitor, out of its line; it begins to wait
-- to be notified; its wait ends, and it lines up. Or the first that waits is notified, or all are.
pub data ListsMove (old new : Monitors) : Type 0 where
  stay : HaveSameLists old new → ListsMove old new
  lines_up : (t o : ℕ) → Becomes old new o (after_line_up t (monitor_of old o)) → ListsMove old new
  retakes : (t o count : ℕ) → Becomes old new o (after_retake t count (monitor_of old o)) → ListsMove old new
  waits : (t o : ℕ) → Becomes old new o (after_wait t (monitor_of old o)) → ListsMove old new
  wait_ends : (t o : ℕ) → Becomes old new o (after_leave_wait t (monitor_of old o)) → ListsMove old new
  notifies : (o : ℕ) → Becomes old new o (after_notify (monitor_of old o)) → ListsMove old new
  notifies_all : (o : ℕ) → Becomes old new o (after_notify_all (monitor_of old o)) → ListsMove old new

-- A thread that is where it waits on a monitor lines up for that, and else nothing changes.
abbrev pub LeavesWait : ℕ → Spot → Monitors → Monitors → Type 0
LeavesWait t (in_wait_list o) old new = Becomes old new o (after_leave_wait t (monitor_of old o))
LeavesWait t spot old new = new ≡ old

-- The wait of a thread has ended so, if it waited on a monitor: it lines up for that.
pub record HasEndedWait (wake : Wake) (t : ℕ) (old : Monitors) (table : Threads) (new : Monitors) (after : Threads) : Type 0 where
  pub threads : after ≡ with_woken wake table t
  pub monitors : LeavesWait t (spot_in table t) old new
  pub seated : AreSeated new after

-- The waits of these threads have ended so, one after the other.
abbrev pub HaveEndedWaits : Wake → List ℕ → Monitors → Threads → Monitors → Threads → Type 0
HaveEndedWaits wake [] old table new after = (new ≡ old) × (after ≡ table)
HaveEndedWaits wake (t ∷ ts) old table new after =
    (mid : Monitors) × (between : Threads) × HasEndedWait wake t old table mid between × HaveEndedWaits wake ts mid between new after

-- A thread lines up for a monitor, where there is one, and else nothing changes.
abbrev pub LinesUpFor : ℕ → Option ℕ → Monitors → Monitors → Type 0
LinesUpFor t None old new = new ≡ old
LinesUpFor t (Some o) old new = Becomes old new o (after_line_up t (monitor_of old o))

-- a thread with the one status is in the lists in which it is with the other
pub record InSameLists (old new : Status) : Type 0 where
  pub waits : (o : ℕ) → is_waiting o (spot_of new) ≡ is_waiting o (spot_of old)
  pub enters : (o : ℕ) → is_entering o (spot_of new) ≡ is_entering o (spot_of old)
