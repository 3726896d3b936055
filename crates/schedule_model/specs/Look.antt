-- What the schedule sees of the Java program: where each thread is, whether it may step, and whether a monitor is owned.
use Rattle.std.specs.Prelude.{◌≡◌, ◌<◌, ◌==◌, ℕ, Bool, true, false, Option, not}

-- Where a thread is. In a line it waits to take a monitor, and in a wait list to be notified (JLS 17.2).
pub data Spot : Type 0 where
  -- no thread has this number yet
  absent : Spot
  -- made, and not started
  unstarted : Spot
  -- started, and in no list of a monitor: it runs, or is parked, asleep, or waits for the end of another
  in_no_list : Spot
  in_wait_list : ℕ → Spot
  in_entry_list : ℕ → Spot
  -- it has ended
  done : Spot

pub record Look : Type 0 where
  -- whether the program has ended
  pub ended : Bool
  pub now : ℕ
  -- how many threads were made
  pub threads : ℕ
  pub spot : ℕ → Spot
  -- whether a step of the thread is defined
  pub enabled : ℕ → Bool
  -- whether a native frame is on the thread's stack (JEP 444, pinning)
  pub pinned : ℕ → Bool
  -- the time at which what the thread waits for ends
  pub deadline : ℕ → Option ℕ
  -- whether a thread owns the monitor
  pub owned : ℕ → Bool

-- started, and not ended
abbrev pub is_live : Spot → Bool
is_live absent = false
is_live unstarted = false
is_live done = false
is_live spot = true

abbrev pub is_done : Spot → Bool
is_done done = true
is_done spot = false

-- in the entry list of this monitor
abbrev pub is_entering : ℕ → Spot → Bool
is_entering o (in_entry_list p) = p == o
is_entering o spot = false

-- in the wait list of this monitor
abbrev pub is_waiting : ℕ → Spot → Bool
is_waiting o (in_wait_list p) = p == o
is_waiting o spot = false

-- in the entry list of some monitor
abbrev pub is_in_line : Spot → Bool
is_in_line (in_entry_list o) = true
is_in_line spot = false

-- in the wait list of some monitor
abbrev pub is_in_wait_list : Spot → Bool
is_in_wait_list (in_wait_list o) = true
is_in_wait_list spot = false

-- What any look keeps to.
pub record IsLook (l : Look) : Type 0 where
  -- a thread that may step is live, and isn't one that waits for a notification
  pub live : (t : ℕ) → l.enabled t ≡ true → is_live (l.spot t) ≡ true
  pub waits : (t o : ℕ) → l.spot t ≡ in_wait_list o → l.enabled t ≡ false
  -- while the program goes on, a thread in line for a monitor may step exactly where nobody owns it
  pub line : (t o : ℕ) → l.ended ≡ false → l.spot t ≡ in_entry_list o → l.enabled t ≡ not (l.owned o)
  -- nothing steps after the end
  pub over : (t : ℕ) → l.ended ≡ true → l.enabled t ≡ false
  -- only live threads are pinned
  pub pinned : (t : ℕ) → l.pinned t ≡ true → is_live (l.spot t) ≡ true
  -- live threads were made
  pub made : (t : ℕ) → is_live (l.spot t) ≡ true → t < l.threads
