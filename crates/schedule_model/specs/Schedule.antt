-- What carriers and monitors hold, and how often a thread is in it.
use Rattle.std.specs.Prelude.{ℕ, ◌+◌, ◌==◌, Bool, List, [], ◌∷◌, Option, None, Some, if◌then◌else◌, false, replicate, sum_by}
use Rattle.thread_lists.specs.Lists.{count, push, total}

pub record Schedule : Type 0 where
  -- the thread that each carrier has mounted
  pub mounted : List (Option ℕ)
  -- the run deque of each carrier, from its first thread on
  pub deques : List (List ℕ)
  -- the threads that wait to be notified, and those that wait to take the monitor, by monitor, in the order in which they came
  pub wait_list : ℕ → List ℕ
  pub entry_list : ℕ → List ℕ
  -- of a mounted thread: whether its carrier owes its Unmount
  pub owes : ℕ → Bool
  -- of a mounted thread: whether there was a time since its Mount at which it wasn't enabled
  pub was_off : ℕ → Bool
  -- the carrier of the last entry
  pub last : Option ℕ

-- a function with another value at one number
abbrev pub with_value : {A : Type 0} → (ℕ → A) → ℕ → A → ℕ → A
with_value f t x u = if u == t then x else f u

-- once where this is the thread
abbrev pub times : ℕ → Option ℕ → ℕ
times t None = 0
times t (Some u) = if u == t then 1 else 0

-- how often a thread is mounted, and how often it is in a deque
abbrev pub on_carriers : ℕ → Schedule → ℕ
on_carriers t s = sum_by (times t) s.mounted

abbrev pub in_deques : ℕ → Schedule → ℕ
in_deques t s = total (count t) s.deques

-- how often a thread is in a place: mounted, or in a deque
abbrev pub places : ℕ → Schedule → ℕ
places t s = on_carriers t s + in_deques t s

-- At first thread 0 is in the deque of carrier 0, and all else is empty.
abbrev pub opening_schedule : ℕ → Schedule
opening_schedule carriers =
    record {
      mounted = replicate carriers None;
      deques = push (replicate carriers []) 0 (0 ∷ []);
      wait_list = λ o. [];
      entry_list = λ o. [];
      owes = λ t. false;
      was_off = λ t. false;
      last = None;
    }
