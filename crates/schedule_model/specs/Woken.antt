-- What holds of a schedule after each entry of a legal history.
use Rattle.std.specs.Prelude.{◌≡◌, ◌<◌, ◌≤◌, ◌||◌, ◌⊎◌, ℕ, Bool, true, false, length, if◌then◌else◌}
use Rattle.thread_lists.specs.Lists.{count}
use Rattle.schedule_model.specs.Look.{Look, in_entry_list, is_live, is_done, is_entering, is_in_line, is_waiting}
use Rattle.schedule_model.specs.Schedule.{Schedule, in_deques, on_carriers, places}

abbrev pub once_if : Bool → ℕ
once_if belongs = if belongs then 1 else 0

-- the lists of the monitors have the threads that are there, each once
pub record AreListed (l : Look) (s : Schedule) : Type 0 where
  pub waits : (t o : ℕ) → count t (s.wait_list o) ≡ once_if (is_waiting o (l.spot t))
  pub enters : (t o : ℕ) → count t (s.entry_list o) ≡ once_if (is_entering o (l.spot t))

-- one of those in line for a monitor is mounted or in a deque
pub record SomeoneComes (l : Look) (s : Schedule) (o : ℕ) : Type 0 where
  pub thread : ℕ
  pub in_line : l.spot thread ≡ in_entry_list o
  pub placed : 0 < places thread s

-- No wake-up is lost. A thread that may step, and isn't in line for a monitor, is mounted or in a deque; of those in line for a monitor
-- that nobody owns one is. A thread in a deque is live, and may step or is in line.
pub record AreWoken (l : Look) (s : Schedule) : Type 0 where
  pub ready : (t : ℕ) → l.enabled t ≡ true → is_in_line (l.spot t) ≡ false → 0 < places t s
  pub line : (t o : ℕ) → l.spot t ≡ in_entry_list o → l.owned o ≡ false → SomeoneComes l s o
  pub deques : (t : ℕ) → 0 < in_deques t s → (is_live (l.spot t) ≡ true) × ((l.enabled t || is_in_line (l.spot t)) ≡ true)

-- Pinned threads are mounted, and a thread that has to leave isn't pinned, or it has ended.
pub record AreHeld (l : Look) (s : Schedule) : Type 0 where
  pub pinned : (t : ℕ) → l.pinned t ≡ true → 0 < on_carriers t s
  pub owed : (t : ℕ) → 0 < on_carriers t s → s.owes t ≡ true → (is_done (l.spot t) ≡ true) ⊎ (l.pinned t ≡ false)

-- all of this, of a program that goes on
pub record GoesOn (l : Look) (s : Schedule) : Type 0 where
  pub listed : AreListed l s
  pub woken : AreWoken l s
  pub held : AreHeld l s

-- Each thread is in one place at most: mounted once, or once in one deque. There are as many deques as carriers.
pub record IsScheduled (l : Look) (s : Schedule) : Type 0 where
  pub once : (t : ℕ) → places t s ≤ 1
  pub sizes : length s.deques ≡ length s.mounted
  pub going : l.ended ≡ false → GoesOn l s
