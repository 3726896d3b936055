-- The table of threads.
use Rattle.std.specs.Prelude.{ℕ, ◌<◌, Bool, true, false, List, length, Option, Some, None, is_some, not, slice_get, slice_set, ◌&&◌}
use Rattle.std.specs.List.{list_any}
use Rattle.std.specs.Option.{ForSome, option_map}
use Rattle.items.specs.Options.{◌>>=◌}
use Rattle.vthread_state.specs.declared.phase.Phase.{Phase}
use Rattle.vthread_state.specs.declared.phase.Phase.TheVariants.{Joining}
use Rattle.vthread_state.specs.declared.thread.Status.{Status}
use Rattle.vthread_state.specs.declared.thread.Status.TheVariants.{New, Live, Done}
use Rattle.vthread_state.specs.declared.thread.Thread.{Thread}
use Rattle.vthread_state.specs.declared.thread.ThreadKind.{ThreadKind}

-- the threads by number, and how many there may be
pub record Threads : Type 0 where
  pub threads : List Thread
  pub limit : ℕ

-- the thread with a number
abbrev pub thread_at : Threads → ℕ → Option Thread
thread_at table t = slice_get table.threads t

abbrev pub phase_of : Status → Option Phase
phase_of New = None
phase_of (Live phase) = Some phase
phase_of Done = None

abbrev pub status_at : Threads → ℕ → Option Status
status_at table t = option_map (λ (thread : Thread). thread.status) (thread_at table t)

-- the phase of a live thread
abbrev pub phase_at : Threads → ℕ → Option Phase
phase_at table t = status_at table t >>= phase_of

-- a thread before it starts
abbrev pub new_thread : ThreadKind → Bool → ℕ → ℕ → Thread
new_thread kind daemon object name =
    record { kind = kind; daemon = daemon; object = object; name = name; status = New }

-- a thread is changed, and all others stay
abbrev pub threads_with : (Thread → Thread) → List Thread → ℕ → Option Thread → List Thread
threads_with f threads t None = threads
threads_with f threads t (Some thread) = slice_set threads t (f thread)

abbrev pub with_thread : Threads → ℕ → (Thread → Thread) → Threads
with_thread table t f = record table { threads = threads_with f table.threads t (thread_at table t) }

-- a thread has this status now
abbrev pub with_status : Threads → ℕ → Status → Threads
with_status table t status = with_thread table t (λ thread. record thread { status = status })

-- ---- what keeps the program going (JLS 12.8)

-- it was started, didn't end, and is no daemon
abbrev pub keeps_going : Thread → Bool
keeps_going thread = is_some (phase_of thread.status) && not thread.daemon

abbrev pub goes_on : Threads → Bool
goes_on table = list_any keeps_going table.threads

abbrev pub times_true : Bool → ℕ
times_true true = 1
times_true false = 0

-- ---- who joins whom

-- the thread whose end a phase waits for
abbrev pub target_of : Phase → Option ℕ
target_of (Joining target deadline) = Some target
target_of phase = None

abbrev pub target_of_status : Status → Option ℕ
target_of_status status = phase_of status >>= target_of

abbrev pub joins_in : List Thread → ℕ → Option ℕ
joins_in threads u = slice_get threads u >>= λ thread. target_of_status thread.status

-- the thread whose end a thread waits for
abbrev pub joins : Threads → ℕ → Option ℕ
joins table u = joins_in table.threads u

-- it is the number of one of the threads, if there is one
abbrev pub IsInTable : Threads → Option ℕ → Type 0
IsInTable table target = ForSome target (λ t. t < length table.threads)
