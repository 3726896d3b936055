-- What ends a wait: deadlines, and the end of Object.wait by a notification, an interrupt or the time (JLS 17.2).
use Rattle.std.specs.Prelude.{ℕ, ◌+◌, ◌*◌, ◌==◌, ℤ, pos, Bool, false, Option, Some, None, int_lt, map, nat_le, nat_lt, unsigned_abs, if◌then◌else◌, slice_get}
use Rattle.std.specs.List.{list_any}
use Rattle.std.specs.Option.{option_map_or}
use Rattle.vthread_state.specs.declared.phase.Phase.{Phase}
use Rattle.vthread_state.specs.declared.phase.Phase.TheVariants.{Waiting, Reenter}
use Rattle.vthread_state.specs.declared.phase.Wake.{Wake}
use Rattle.vthread_state.specs.declared.phase.Wake.TheVariants.{Notified, TimedOut}
use Rattle.vthread_state.specs.declared.thread.Status.{Status}
use Rattle.vthread_state.specs.declared.thread.Status.TheVariants.{New, Live, Done}
use Rattle.ref_model.specs.State.{JavaThread, State, with_thread}

-- ---- times and deadlines (own: a deadline is at most the greatest number of 64 bits)

abbrev pub latest : ℕ
latest = 0xffffffffffffffff

-- the time so many nanoseconds from now
abbrev pub deadline_after : ℕ → ℕ → ℕ
deadline_after now nanos = if nat_le (now + nanos) latest then now + nanos else latest

abbrev pub is_reached : ℕ → Option ℕ → Bool
is_reached now None = false
is_reached now (Some deadline) = nat_le deadline now

abbrev pub nanos_in_milli : ℕ
nanos_in_milli = 1000000

-- the deadline of so many milliseconds, of which none is negative
abbrev pub millis_after : ℕ → ℤ → ℕ
millis_after now millis = deadline_after now (unsigned_abs millis * nanos_in_milli)

-- that of wait and join: none without a time, and none for 0
abbrev pub deadline_of : ℕ → Option ℤ → Option ℕ
deadline_of now None = None
deadline_of now (Some millis) = if unsigned_abs millis == 0 then None else Some (millis_after now millis)

-- that of park: none without a time
abbrev pub park_deadline : ℕ → Option ℤ → Option ℕ
park_deadline now None = None
park_deadline now (Some nanos) = Some (deadline_after now (unsigned_abs nanos))

-- whether there is a time, and it is negative
abbrev pub is_negative : Option ℤ → Bool
is_negative None = false
is_negative (Some n) = int_lt n (pos 0)

-- whether there is a time, and it is 0 or negative
abbrev pub is_over : Option ℤ → Bool
is_over None = false
is_over (Some n) = int_lt n (pos 1)

-- ---- the end of a wait: the thread goes on to take the monitor again

abbrev pub phase_woken : Wake → Phase → Phase
phase_woken wake (Waiting o count deadline) = Reenter o count wake
phase_woken wake phase = phase

abbrev pub status_woken : Wake → Status → Status
status_woken wake New = New
status_woken wake (Live phase) = Live (phase_woken wake phase)
status_woken wake Done = Done

abbrev pub thread_woken : Wake → JavaThread → JavaThread
thread_woken wake x = record x { thread = record x.thread { status = status_woken wake x.thread.status } }

-- ---- who waits on a monitor

abbrev pub phase_waits_on : ℕ → Phase → Bool
phase_waits_on o (Waiting p count deadline) = p == o
phase_waits_on o phase = false

abbrev pub status_waits_on : ℕ → Status → Bool
status_waits_on o New = false
status_waits_on o (Live phase) = phase_waits_on o phase
status_waits_on o Done = false

abbrev pub thread_waits_on : ℕ → JavaThread → Bool
thread_waits_on o x = status_waits_on o x.thread.status

-- whether a thread waits on the monitor, and whether any does
abbrev pub is_waiting_on : State → ℕ → ℕ → Bool
is_waiting_on r o t = option_map_or (thread_waits_on o) (slice_get r.threads t) false

abbrev pub has_waiter : State → ℕ → Bool
has_waiter r o = list_any (thread_waits_on o) r.threads

-- notify moves one of them, and notifyAll all
abbrev pub with_notified : State → ℕ → State
with_notified r t = with_thread r t (thread_woken Notified)

abbrev pub notified_on : ℕ → JavaThread → JavaThread
notified_on o x = if thread_waits_on o x then thread_woken Notified x else x

abbrev pub with_all_notified : State → ℕ → State
with_all_notified r o = record r { threads = map (notified_on o) r.threads }

-- ---- time goes on, and never back: each wait whose deadline is reached has ended

abbrev pub phase_at_time : ℕ → Phase → Phase
phase_at_time now (Waiting o count deadline) = if is_reached now deadline then Reenter o count TimedOut else Waiting o count deadline
phase_at_time now phase = phase

abbrev pub status_at_time : ℕ → Status → Status
status_at_time now New = New
status_at_time now (Live phase) = Live (phase_at_time now phase)
status_at_time now Done = Done

abbrev pub thread_at_time : ℕ → JavaThread → JavaThread
thread_at_time now x = record x { thread = record x.thread { status = status_at_time now x.thread.status } }

abbrev pub at_time : State → ℕ → Option State
at_time r now =
    if nat_lt r.now now then Some (record r { now = now; threads = map (thread_at_time now) r.threads }) else None
