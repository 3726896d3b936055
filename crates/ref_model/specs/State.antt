-- The state of the reference machine (JVMS 2.5): the memory, threads with their whole stacks, the owners of monitors, and time.
use Rattle.std.specs.Prelude.{ℕ, ◌==◌, Bool, false, List, Option, Some, None, if◌then◌else◌, slice_get, slice_set}
use Rattle.std.specs.Option.{option_map_or}
use Rattle.items.specs.Options.{◌>>=◌}
use Rattle.vthread_state.specs.declared.phase.Phase.TheVariants.{Run}
use Rattle.vthread_state.specs.declared.thread.Status.{Status}
use Rattle.vthread_state.specs.declared.thread.Status.TheVariants.{Live}
use Rattle.vthread_state.specs.declared.thread.Thread.{Thread}
use Rattle.state_model.specs.Frames.{Frame}
use Rattle.ref_model.specs.Memory.{Memory}

-- A thread as the table of threads has it, with its permit (LockSupport), its interrupt status, and its frames, the top first (JVMS 2.5.2).
-- The bottom frame and each frame of a class initializer are root frames.
pub record JavaThread : Type 0 where
  pub thread : Thread
  pub permit : Bool
  pub interrupted : Bool
  pub frames : List Frame

-- The thread that owns a monitor, and how often it has entered it (JLS 17.1).
pub record Owner : Type 0 where
  pub thread : ℕ
  pub count : ℕ

pub record State : Type 0 where
  -- what the threads share
  pub memory : Memory
  -- the threads by number, in the order in which their Thread objects were made
  pub threads : List JavaThread
  -- how many threads there may be
  pub most_threads : ℕ
  -- how many platform threads were made without a name
  pub unnamed : ℕ
  -- who owns each monitor
  pub owners : ℕ → Option Owner
  -- the time in nanoseconds
  pub now : ℕ
  -- whether an exception that nothing caught ended the main thread
  pub main_threw : Bool

-- the memory is this one, and all else stays
abbrev pub with_memory : State → Memory → State
with_memory r memory = record r { memory = memory }

-- ---- one thread

-- a thread is changed, and all else stays
abbrev pub with_thread : State → ℕ → (JavaThread → JavaThread) → State
with_thread r t change =
    option_map_or (λ thread. record r { threads = slice_set r.threads t (change thread) }) (slice_get r.threads t) r

-- a thread has these frames now
abbrev pub with_frames : State → ℕ → List Frame → State
with_frames r t frames = with_thread r t (λ thread. record thread { frames = frames })

-- a thread has this status now
abbrev pub with_status : State → ℕ → Status → State
with_status r t status = with_thread r t (λ thread. record thread { thread = record thread.thread { status = status } })

-- a thread has a permit now, or none (LockSupport)
abbrev pub with_permit : State → ℕ → Bool → State
with_permit r t permit = with_thread r t (λ thread. record thread { permit = permit })

-- a thread has this interrupt status now
abbrev pub with_interrupt : State → ℕ → Bool → State
with_interrupt r t interrupted = with_thread r t (λ thread. record thread { interrupted = interrupted })

abbrev pub has_permit : State → ℕ → Bool
has_permit r t = option_map_or (λ (thread : JavaThread). thread.permit) (slice_get r.threads t) false

abbrev pub is_interrupted : State → ℕ → Bool
is_interrupted r t = option_map_or (λ (thread : JavaThread). thread.interrupted) (slice_get r.threads t) false

-- ---- the frames of a thread whose next step is an instruction

abbrev pub running_frames : List Frame → Status → Option (List Frame)
running_frames frames (Live Run) = Some frames
running_frames frames status = None

abbrev pub frames_at : State → ℕ → Option (List Frame)
frames_at r t = slice_get r.threads t >>= λ thread. running_frames thread.frames thread.thread.status

-- ---- one monitor

-- a monitor has this owner now, and all else stays
abbrev pub with_owner : State → ℕ → Option Owner → State
with_owner r o owner = record r { owners = λ p. if p == o then owner else r.owners p }
