-- The lists of those who join each thread.
use Rattle.std.specs.Prelude.{◌≡◌, ℕ, ◌<◌, ◌≤◌, List, [], ◌∷◌, length, Option, Some, None, ◌==◌, if◌then◌else◌}
use Rattle.std.specs.Option.{ForSome}
use Rattle.thread_lists.specs.Lists.{Lists, count, leave, list_at, push}
use Rattle.vthread_state.specs.declared.thread.Thread.{Thread}
use Rattle.vthread_state.specs.Threads.{joins_in}

-- how often a thread that joins this one is in another's list
abbrev pub times : Option ℕ → ℕ → ℕ
times None target = 0
times (Some t) target = if t == target then 1 else 0

-- each thread is in the list of the thread that it joins, and in no other
pub record IsJoined (threads : List Thread) (lists : Lists) : Type 0 where
  pub each : (u target : ℕ) → count u (list_at lists.lists target) ≡ times (joins_in threads u) target
  pub sizes : length lists.lists ≡ length threads
  pub room : length threads ≤ lists.threads

-- a thread leaves the list of the thread that it joins
abbrev pub lists_without : List (List ℕ) → ℕ → Option ℕ → List (List ℕ)
lists_without lists u None = lists
lists_without lists u (Some target) = leave lists target u

-- a thread comes to the list of the thread that it joins
abbrev pub lists_with : List (List ℕ) → ℕ → Option ℕ → List (List ℕ)
lists_with lists u None = lists
lists_with lists u (Some target) = push lists target (u ∷ [])

abbrev pub IsList : List (List ℕ) → Option ℕ → Type 0
IsList lists o = ForSome o (λ target. target < length lists)
