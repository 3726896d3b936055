-- Whether threads can go on that are mounted, or in deques.
use Rattle.std.specs.Prelude.{◌≡◌, ◌<◌, ◌&&◌, ◌||◌, ℕ, Bool, true, false, List, Option, Some, None, get_or, is_some, length, not, slice_get}
use Rattle.thread_lists.specs.Lists.{count, total}
use Rattle.ref_model.specs.State.{State}
use Rattle.ref_model.specs.Step.{enabled}
use Rattle.program_state.specs.Deadlines.{deadlines_of}

-- a carrier has a thread mounted that may step
abbrev pub goes_on : State → Option ℕ → Bool
goes_on r None = false
goes_on r (Some t) = enabled r t

-- each thread that is mounted has a number below this
abbrev pub AreBelow : List (Option ℕ) → ℕ → Type 0
AreBelow mounted n = (c t : ℕ) → slice_get mounted c ≡ Some (Some t) → t < n

-- so has each that is in a deque
abbrev pub DequesAreBelow : List (List ℕ) → ℕ → Type 0
DequesAreBelow deques n = (t : ℕ) → 0 < total (count t) deques → t < n

-- ---- pinned threads that can't go on

-- a carrier has a thread that is noted as pinned, may not step, and has no deadline to come
abbrev pub is_kept_back : State → Option ℕ → Bool → Bool
is_kept_back r None pin = false
is_kept_back r (Some t) pin = pin && not (enabled r t || is_some (deadlines_of r.now r.threads t))

-- so it is of each carrier, or not of this one
abbrev pub AreKeptBack : State → List (Option ℕ) → List Bool → Type 0
AreKeptBack r mounted pins = (c : ℕ) → c < length mounted → is_kept_back r (get_or mounted c None) (get_or pins c false) ≡ true

pub record GoesOnHere (r : State) (mounted : List (Option ℕ)) (pins : List Bool) (c : ℕ) : Type 0 where
  pub there : c < length mounted
  pub goes : is_kept_back r (get_or mounted c None) (get_or pins c false) ≡ false
