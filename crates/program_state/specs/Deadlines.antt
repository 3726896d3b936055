-- The deadlines that threads wait for, and the wheel that holds them, each under a key.
use Rattle.std.specs.Prelude.{◌≡◌, ◌≤◌, ◌==◌, ℕ, List, Option, Some, None, if◌then◌else◌, nat_lt, slice_get}
use Rattle.std.specs.Option.{option_map_or}
use Rattle.sleep_wheel.specs.declared.sleeper.Key.{Key}
use Rattle.sleep_wheel.specs.declared.sleeper.Sleeper.{Sleeper}
use Rattle.ref_model.specs.Looks.{deadline_in}
use Rattle.ref_model.specs.State.{JavaThread}

-- ---- deadlines that are to come

-- a deadline, where it is greater than the time
abbrev pub later_than : ℕ → Option ℕ → Option ℕ
later_than now None = None
later_than now (Some deadline) = if nat_lt now deadline then Some deadline else None

-- that of a thread
abbrev pub coming_deadline : ℕ → Option JavaThread → Option ℕ
coming_deadline now None = None
coming_deadline now (Some x) = later_than now (deadline_in x.thread.status)

-- those of threads, by their numbers
abbrev pub deadlines_of : ℕ → List JavaThread → ℕ → Option ℕ
deadlines_of now threads t = coming_deadline now (slice_get threads t)

-- one thread has another deadline, or none
abbrev pub with_deadline : (ℕ → Option ℕ) → ℕ → Option ℕ → ℕ → Option ℕ
with_deadline deadlines t deadline u = if u == t then deadline else deadlines u

-- ---- the wheel

abbrev pub key_number : Option Key → Option ℕ
key_number None = None
key_number (Some key) = Some key.number

-- the key of a thread, if it has one
abbrev pub key_at : List (Option Key) → ℕ → Option ℕ
key_at keys t = option_map_or key_number (slice_get keys t) None

-- A thread without a deadline has no key, and one with a deadline has the key of a sleeper, which is the thread with that deadline.
pub data IsTimed (sleepers : ℕ → Option Sleeper) (t : ℕ) (deadline key : Option ℕ) : Type 0 where
  untimed : deadline ≡ None → key ≡ None → IsTimed sleepers t deadline key
  timed : (d k : ℕ) → deadline ≡ Some d → key ≡ Some k → sleepers k ≡ Some (record { deadline = d; thread = t }) →
      IsTimed sleepers t deadline key

-- The sleepers, by their keys, are just the threads with a deadline, each under its key.
pub record HoldsDeadlines (sleepers : ℕ → Option Sleeper) (keys deadlines : ℕ → Option ℕ) : Type 0 where
  pub each : (t : ℕ) → IsTimed sleepers t (deadlines t) (keys t)
  pub only : (k : ℕ) (s : Sleeper) → sleepers k ≡ Some s → keys s.thread ≡ Some k

-- ---- the least of them

-- some thread has this deadline, and none has a lesser one
pub record IsLeast (deadlines : ℕ → Option ℕ) (d : ℕ) : Type 0 where
  pub thread : ℕ
  pub is : deadlines thread ≡ Some d
  pub least : (t e : ℕ) → deadlines t ≡ Some e → d ≤ e
