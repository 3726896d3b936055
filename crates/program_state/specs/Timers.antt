-- What calls do to the wheel and the keys of threads.
use Rattle.std.specs.Prelude.{◌≡◌, ℕ, List, [], ◌∷◌, Option, None, length, slice_set}
use Rattle.sleep_wheel.specs.declared.sleeper.Key.{Key}
use Rattle.sleep_wheel.specs.Sleepers.{Sleepers, sleeper_at}
use Rattle.program_state.specs.Deadlines.{HoldsDeadlines, key_at, with_deadline}

-- Thread t, which had no deadline, has this one.
pub record IsTimerSet (t : ℕ) (deadline : Option ℕ) (old : Sleepers) (keys : List (Option Key)) (new : Sleepers) (keys_after : List (Option Key)) : Type 0 where
  pub places : length keys_after ≡ length keys
  pub holds : (deadlines : ℕ → Option ℕ) → HoldsDeadlines (sleeper_at old) (key_at keys) deadlines → deadlines t ≡ None →
      HoldsDeadlines (sleeper_at new) (key_at keys_after) (with_deadline deadlines t deadline)

-- Thread t has no deadline any more.
pub record IsTimerCleared (t : ℕ) (old : Sleepers) (keys : List (Option Key)) (new : Sleepers) (keys_after : List (Option Key)) : Type 0 where
  pub places : length keys_after ≡ length keys
  pub holds : (deadlines : ℕ → Option ℕ) → HoldsDeadlines (sleeper_at old) (key_at keys) deadlines →
      HoldsDeadlines (sleeper_at new) (key_at keys_after) (with_deadline deadlines t None)

-- the keys of these threads are given up
abbrev pub without_keys : List (Option Key) → List ℕ → List (Option Key)
without_keys keys [] = keys
without_keys keys (t ∷ threads) = without_keys (slice_set keys t None) threads
