-- What each request makes of the state and of the thread that asks, in one step: of java.lang.Thread, LockSupport, the clock, and monitors.
use Rattle.std.specs.Prelude.{ℕ, ◌+◌, ◌/◌, ◌==◌, ℤ, pos, Bool, true, false, not, Option, Some, None, ◌&&◌, if◌then◌else◌, slice_get, unsigned_abs}
use Rattle.std.specs.Int.{w64, int_wrap}
use Rattle.items.specs.Options.{◌>>=◌}
use Rattle.instruction_rows.specs.declared.value.Value.TheVariants as values
use Rattle.vthread_state.specs.declared.java_state.JavaState.{JavaState}
use Rattle.vthread_state.specs.declared.java_state.JavaState.TheVariants as states
use Rattle.vthread_state.specs.declared.phase.Phase.TheVariants.{Entering, Waiting, Parked, Asleep, Joining}
use Rattle.vthread_state.specs.declared.phase.Wake.TheVariants.{Interrupted}
use Rattle.vthread_state.specs.declared.thread.Status.{Status}
use Rattle.vthread_state.specs.declared.thread.Status.TheVariants.{Live}
use Rattle.vthread_state.specs.declared.thread.ThreadKind.{ThreadKind}
use Rattle.vthread_state.specs.declared.thread.ThreadKind.TheVariants.{Platform, Virtual}
use Rattle.vthread_state.specs.JavaState.{java_state}
use Rattle.link_model.specs.World.{World}
use Rattle.ref_model.specs.declared.exception.Exception.TheVariants as exceptions
use Rattle.ref_model.specs.State.{JavaThread, State, with_thread, with_permit, with_interrupt, with_owner, has_permit, is_interrupted}
use Rattle.ref_model.specs.Ending.{is_live}
use Rattle.ref_model.specs.Monitors.{owns, may_take, with_entry, with_exit, times_entered}
use Rattle.ref_model.specs.Waiting.{deadline_of, park_deadline, millis_after, is_negative, is_over, thread_woken, has_waiter, is_waiting_on, with_notified, with_all_notified, nanos_in_milli}
use Rattle.ref_model.specs.Opening.{first_state}
use Rattle.ref_model.specs.Throwing.{raised}
use Rattle.ref_model.specs.Requests.{Request, current, yields, creates, starts, joins, sleeps, interrupts, tells_interrupt, takes_interrupt, tells_alive, tells_virtual, tells_daemon, tells_name, tells_state, sets_daemon, sets_name, parks, unparks, tells_nanos, tells_millis, enters, exits, waits_on, notifies, notifies_all, calls}
use Rattle.ref_model.specs.Asking.{Asking, goes, gives_back, tells, goes_into, waits, thrown_interrupted}
use Rattle.ref_model.specs.Starting.{created, started}

-- ---- a wait that an interrupt ends (Thread.sleep, Thread.join, Object.wait)

-- it doesn't begin where the thread was interrupted
abbrev pub unless_interrupted : World → State → ℕ → Option State → Option State
unless_interrupted w r t otherwise = if is_interrupted r t then thrown_interrupted w r t else otherwise

-- nor where its time is negative
abbrev pub unless_negative : World → State → ℕ → Option ℤ → Option State → Option State
unless_negative w r t time otherwise =
    if is_negative time then raised w r t exceptions.IllegalArgumentException else otherwise

-- ---- java.lang.Thread

-- sleep of 0 is a yield (own)
abbrev pub slept : State → ℕ → Asking → ℤ → Option State
slept r t a millis = if unsigned_abs millis == 0 then goes r t a else waits r t (Asleep (millis_after r.now millis))

-- a thread that wasn't started, or has ended, isn't waited for, whatever the interrupt status is (own)
abbrev pub joined : World → State → ℕ → Asking → ℕ → Option ℤ → Status → Option State
joined w r t a u time (Live phase) = unless_interrupted w r t (waits r t (Joining u (deadline_of r.now time)))
joined w r t a u time status = goes r t a

-- An interrupt sets the status of a live thread, and ends its wait on a monitor.
abbrev pub thread_interrupted : JavaThread → JavaThread
thread_interrupted x = if is_live x.thread.status then record (thread_woken Interrupted x) { interrupted = true } else x

abbrev pub is_virtual : ThreadKind → Bool
is_virtual Platform = false
is_virtual Virtual = true

-- the ordinal of a state (Thread.State)
abbrev pub state_ordinal : JavaState → ℕ
state_ordinal states.New = 0
state_ordinal states.Runnable = 1
state_ordinal states.Blocked = 2
state_ordinal states.Waiting = 3
state_ordinal states.TimedWaiting = 4
state_ordinal states.Terminated = 5

-- setDaemon: a virtual thread stays a daemon
abbrev pub with_daemon : Bool → JavaThread → JavaThread
with_daemon daemon x = record x { thread = record x.thread { daemon = if is_virtual x.thread.kind then x.thread.daemon else daemon } }

abbrev pub daemon_set : World → State → ℕ → Asking → ℕ → Bool → JavaThread → Option State
daemon_set w r t a u daemon x =
    if is_virtual x.thread.kind && not daemon then raised w r t exceptions.IllegalArgumentException
    else if is_live x.thread.status then raised w r t exceptions.IllegalThreadStateException
    else goes (with_thread r u (with_daemon daemon)) t a

abbrev pub with_name : ℕ → JavaThread → JavaThread
with_name name x = record x { thread = record x.thread { name = name } }

-- ---- LockSupport

-- park takes the permit, if there is one; else it returns at once where the thread was interrupted, and leaves that as it is
abbrev pub parked : State → ℕ → Asking → Option ℤ → Option State
parked r t a time =
    if has_permit r t then goes (with_permit r t false) t a
    else if is_interrupted r t then goes r t a
    else waits r t (Parked (park_deadline r.now time))

-- a permit is given to a live thread
abbrev pub thread_unparked : JavaThread → JavaThread
thread_unparked x = if is_live x.thread.status then record x { permit = true } else x

-- ---- monitors

abbrev pub unless_unowned : World → State → ℕ → ℕ → Option State → Option State
unless_unowned w r t o otherwise =
    if owns r t o then otherwise else raised w r t exceptions.IllegalMonitorStateException

-- the thread takes the monitor, or waits to enter it
abbrev pub taken_or_waits : State → ℕ → ℕ → (State → Option State) → Option State
taken_or_waits r t o goes_on = if may_take r t o then goes_on (with_entry r t o) else waits r t (Entering o)

-- wait leaves the monitor wholly
abbrev pub wait_begun : State → ℕ → ℕ → Option ℤ → Option State
wait_begun r t o time =
    waits (with_owner r o None) t (Waiting o (times_entered (r.owners o)) (deadline_of r.now time))

-- notify, of which the step picks none: nobody waits
abbrev pub none_notified : State → ℕ → Asking → ℕ → Option State
none_notified r t a o = if has_waiter r o then None else goes r t a

-- ---- the requests

abbrev pub asked : World → State → ℕ → Asking → Request → Option State
asked w r t a current = slice_get r.threads t >>= λ x. gives_back r t a (values.Ref x.thread.object)
asked w r t a yields = goes r t a
asked w r t a (creates kind object name) = created w r t a kind object name
asked w r t a (starts u) = started w r t a u
asked w r t a (joins u time) = unless_negative w r t time (slice_get r.threads u >>= λ x. joined w r t a u time x.thread.status)
asked w r t a (sleeps millis) = unless_negative w r t (Some millis) (unless_interrupted w r t (slept r t a millis))
asked w r t a (interrupts u) = goes (with_thread r u thread_interrupted) t a
asked w r t a (tells_interrupt u) = tells r t a (is_interrupted r u)
asked w r t a takes_interrupt = tells (with_interrupt r t false) t a (is_interrupted r t)
asked w r t a (tells_alive u) = slice_get r.threads u >>= λ x. tells r t a (is_live x.thread.status)
asked w r t a (tells_virtual u) = slice_get r.threads u >>= λ x. tells r t a (is_virtual x.thread.kind)
asked w r t a (tells_daemon u) = slice_get r.threads u >>= λ x. tells r t a x.thread.daemon
asked w r t a (tells_name u) = slice_get r.threads u >>= λ x. gives_back r t a (values.Ref x.thread.name)
asked w r t a (tells_state u) =
    slice_get r.threads u >>= λ x. gives_back r t a (values.Ref (first_state + state_ordinal (java_state x.thread.status)))
asked w r t a (sets_daemon u daemon) = slice_get r.threads u >>= daemon_set w r t a u daemon
asked w r t a (sets_name u name) = goes (with_thread r u (with_name name)) t a
asked w r t a (parks time) = if is_over time then goes r t a else parked r t a time
asked w r t a (unparks u) = goes (with_thread r u thread_unparked) t a
asked w r t a tells_nanos = gives_back r t a (values.Long (int_wrap w64 (pos r.now)))
asked w r t a tells_millis = gives_back r t a (values.Long (pos (r.now / nanos_in_milli)))
asked w r t a (enters o) = taken_or_waits r t o (λ q. goes q t a)
asked w r t a (exits o) = unless_unowned w r t o (goes (with_exit r o) t a)
asked w r t a (waits_on o time) =
    unless_negative w r t time (unless_unowned w r t o (unless_interrupted w r t (wait_begun r t o time)))
asked w r t a (notifies o) = unless_unowned w r t o (none_notified r t a o)
asked w r t a (notifies_all o) = unless_unowned w r t o (goes (with_all_notified r o) t a)
asked w r t a (calls o g) = taken_or_waits r t o (λ q. goes_into q t a g)

-- notify, of which the step picks a thread that waits; every other request picks none
abbrev pub asked_with : State → ℕ → Asking → ℕ → Request → Option State
asked_with r t a u (notifies o) = if owns r t o && is_waiting_on r o u then goes (with_notified r u) t a else None
asked_with r t a u q = None
