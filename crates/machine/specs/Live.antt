-- The threads that an answer lists.
use Rattle.std.specs.Prelude.{◌≡◌, ℕ, Bool, false, List, [], ◌∷◌, Option, Some, None, filter, length, slice_get}
use Rattle.std.specs.List.{flat_map, range_with_len}
use Rattle.std.specs.Option.{option_map_or}
use Rattle.vthread_state.specs.declared.thread.Thread.{Thread}
use Rattle.ref_model.specs.State.{JavaThread, State}
use Rattle.ref_model.specs.Ending.{is_live}
use Rattle.machine.specs.Machines.{Given, Known}

-- ---- in a table of threads

abbrev pub is_live_row : List Thread → ℕ → Bool
is_live_row rows t = option_map_or (λ (x : Thread). is_live x.status) (slice_get rows t) false

-- the numbers of those below n that are live, rising
abbrev pub live_below : List Thread → ℕ → List ℕ
live_below rows n = filter (is_live_row rows) (range_with_len 0 n)

-- ---- in a state

abbrev pub is_live_at : State → ℕ → Bool
is_live_at r t = option_map_or (λ (x : JavaThread). is_live x.thread.status) (slice_get r.threads t) false

-- their numbers, rising
abbrev pub live_threads : State → List ℕ
live_threads r = filter (is_live_at r) (range_with_len 0 (length r.threads))

abbrev pub ListsLive : Known → List ℕ → Type 0
ListsLive m live = Given m (λ v. live ≡ live_threads v.state)

-- ---- on the carriers

-- the thread that a carrier has mounted
abbrev pub of_carrier : Option ℕ → List ℕ
of_carrier None = []
of_carrier (Some t) = t ∷ []

-- those of all carriers, in their order
abbrev pub mounted_threads : List (Option ℕ) → List ℕ
mounted_threads mounted = flat_map of_carrier mounted

abbrev pub ListsMounted : Known → List ℕ → Type 0
ListsMounted m threads = Given m (λ v. threads ≡ mounted_threads v.schedule.mounted)
