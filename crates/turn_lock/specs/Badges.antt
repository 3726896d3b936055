-- What lies in a seat and in a lock: a badge with its view, and a table.
use Rattle.std.specs.Prelude.{◌≡◌, ℕ, List, [], ◌∷◌, length}
use Rattle.atomic_table.specs.Seated.{TableId}
use Rattle.turn_lock.specs.declared.key.Key.{Key}
use Rattle.turn_lock.specs.declared.view.View.{View}
use Rattle.turn_lock.specs.Seats.{LockState, SeatState}
use Rattle.turn_lock.specs.Views.{seen_of, spent_view, view_of}

abbrev pub only_view : List View → View
only_view [] = spent_view
only_view (v ∷ vs) = v

-- The badge has one view, with a note on this number alone, which has so many entries.
pub record IsBadgeOf (views : List View) (number count : ℕ) : Type 0 where
  pub one : views ≡ view_of (only_view views).holds number (seen_of (only_view views)) ∷ []
  pub counts : count ≡ length (seen_of (only_view views))

-- the state of the seat with this number and a badge that has these views
abbrev pub seat_state : TableId → ℕ → List View → SeatState
seat_state lock number views = record {
  lock = lock;
  number = number;
  seen = seen_of (only_view views);
  holds = (only_view views).holds;
}

-- the number of words and slots of a lock's table
pub record IsLockTable (id : TableId) : Type 0 where
  pub words : id.words ≡ 3
  pub slots : id.slots ≡ 1

abbrev pub lock_state : {V : Type 0} → TableId → Key V → LockState V
lock_state id key = record { id = id; initial = key.initial.value; seats = key.seats }
