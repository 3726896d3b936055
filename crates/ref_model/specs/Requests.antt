-- What instructions and native methods ask that concern other threads, monitors or the clock. They ask with nothing changed; operands, null
-- and the class of a receiver are judged before. A number of a thread is that of the table of threads, one of a monitor that of its object.
use Rattle.std.specs.Prelude.{ℕ, ℤ, Bool, true, false, Option, Some, None}
use Rattle.opcodes.specs.declared.op.ValueKind.{ValueKind}
use Rattle.opcodes.specs.declared.op.ValueKind.TheVariants as kinds
use Rattle.vthread_state.specs.declared.thread.ThreadKind.{ThreadKind}
use Rattle.state_model.specs.Frames.{Frame}
use Rattle.ref_model.specs.declared.request.ThreadRequest.{ThreadRequest}
use Rattle.ref_model.specs.declared.request.ThreadRequest.TheVariants as requests

pub data Request : Type 0 where
  -- ---- java.lang.Thread
  -- currentThread
  current : Request
  -- yield
  yields : Request
  -- a constructor: a thread of the kind, of this Thread object, with the name that is this String, or without one
  creates : ThreadKind → ℕ → Option ℕ → Request
  -- start
  starts : ℕ → Request
  -- join of a thread, without a time or with one in milliseconds
  joins : ℕ → Option ℤ → Request
  -- sleep, in milliseconds
  sleeps : ℤ → Request
  -- interrupt; isInterrupted; interrupted
  interrupts : ℕ → Request
  tells_interrupt : ℕ → Request
  takes_interrupt : Request
  -- isAlive, isVirtual, isDaemon, getName, getState
  tells_alive : ℕ → Request
  tells_virtual : ℕ → Request
  tells_daemon : ℕ → Request
  tells_name : ℕ → Request
  tells_state : ℕ → Request
  -- setDaemon; setName, by the String
  sets_daemon : ℕ → Bool → Request
  sets_name : ℕ → ℕ → Request
  -- ---- java.util.concurrent.locks.LockSupport
  -- park, or parkNanos with a time in nanoseconds
  parks : Option ℤ → Request
  unparks : ℕ → Request
  -- ---- java.lang.System
  -- nanoTime, currentTimeMillis
  tells_nanos : Request
  tells_millis : Request
  -- ---- monitors
  -- monitorenter, monitorexit
  enters : ℕ → Request
  exits : ℕ → Request
  -- wait on a monitor, without a time or with one in milliseconds; notify, notifyAll
  waits_on : ℕ → Option ℤ → Request
  notifies : ℕ → Request
  notifies_all : ℕ → Request
  -- a call of a synchronized method: its monitor, and its frame
  calls : ℕ → Frame → Request

-- the kind of what comes back on the operand stack
abbrev pub request_result : Request → Option ValueKind
request_result current = Some kinds.Reference
request_result (tells_interrupt t) = Some kinds.Int
request_result takes_interrupt = Some kinds.Int
request_result (tells_alive t) = Some kinds.Int
request_result (tells_virtual t) = Some kinds.Int
request_result (tells_daemon t) = Some kinds.Int
request_result (tells_name t) = Some kinds.Reference
request_result (tells_state t) = Some kinds.Reference
request_result tells_nanos = Some kinds.Long
request_result tells_millis = Some kinds.Long
request_result q = None

-- ---- tests

-- whether it has a time, whatever that is
abbrev pub is_timed : Option ℤ → Bool
is_timed None = false
is_timed (Some n) = true

-- Whether the step that asks it reads the clock: nanoTime, currentTimeMillis, sleep, and park, wait and join with a time, whatever the time
-- is, and also where it throws or returns at once. (own)
abbrev pub reads_clock : Request → Bool
reads_clock tells_nanos = true
reads_clock tells_millis = true
reads_clock (sleeps n) = true
reads_clock (parks n) = is_timed n
reads_clock (waits_on o n) = is_timed n
reads_clock (joins t n) = is_timed n
reads_clock q = false

-- ---- requests as the code makes them: all but calls of synchronized methods

abbrev pub request_of : ThreadRequest → Request
request_of requests.Current = current
request_of requests.Yields = yields
request_of (requests.Creates kind object name) = creates kind object name
request_of (requests.Starts t) = starts t
request_of (requests.Joins t millis) = joins t millis
request_of (requests.Sleeps millis) = sleeps millis
request_of (requests.Interrupts t) = interrupts t
request_of (requests.TellsInterrupt t) = tells_interrupt t
request_of requests.TakesInterrupt = takes_interrupt
request_of (requests.TellsAlive t) = tells_alive t
request_of (requests.TellsVirtual t) = tells_virtual t
request_of (requests.TellsDaemon t) = tells_daemon t
request_of (requests.TellsName t) = tells_name t
request_of (requests.TellsState t) = tells_state t
request_of (requests.SetsDaemon t daemon) = sets_daemon t daemon
request_of (requests.SetsName t name) = sets_name t name
request_of (requests.Parks nanos) = parks nanos
request_of (requests.Unparks t) = unparks t
request_of requests.TellsNanos = tells_nanos
request_of requests.TellsMillis = tells_millis
request_of (requests.Enters o) = enters o
request_of (requests.Exits o) = exits o
request_of (requests.WaitsOn o millis) = waits_on o millis
request_of (requests.Notifies o) = notifies o
request_of (requests.NotifiesAll o) = notifies_all o
