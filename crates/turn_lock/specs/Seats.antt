-- A lock and its seats, as contracts see them.
use Rattle.std.specs.Prelude.{◌≡◌, ℕ, Bool, false, List, [], ◌++◌, map, All, Any}
use Rattle.std.specs.List.{range_with_len}
use mathlib.Core.List.{IsPrefix}
use Rattle.atomic_table.specs.Seated.{TableId}
use Rattle.history.specs.declared.entry.Entry.{Entry}
use Rattle.history.specs.Carriers.{made_by}

-- which lock it is, the value that it was made with, and how many seats it has
pub record LockState (V : Type 0) : Type 0 where
  pub id : TableId
  pub initial : V
  pub seats : ℕ

-- the lock of a seat and its number, what it has seen of the history, and whether it has the turn
pub record SeatState : Type 0 where
  pub lock : TableId
  pub number : ℕ
  pub seen : List Entry
  pub holds : Bool

abbrev pub new_seat : TableId → ℕ → SeatState
new_seat lock k = record { lock = lock; number = k; seen = []; holds = false }

-- the seats of a new lock, in the order of their numbers
abbrev pub new_seats : TableId → ℕ → List SeatState
new_seats lock n = map (new_seat lock) (range_with_len 0 n)

-- a seat of this lock that doesn't have the turn
pub record IsIdle (lock : TableId) (s : SeatState) : Type 0 where
  pub this : s.lock ≡ lock
  pub idle : s.holds ≡ false

-- the history goes on from what was seen by entries of this carrier alone
pub record Continues (number : ℕ) (seen log : List Entry) : Type 0 where
  pub new : List Entry
  pub all : log ≡ seen ++ new
  pub own : All (λ (e : Entry). e.carrier ≡ number) new

-- the history begins with what the seat has seen, in which all entries of its number stand
pub record HasSeenAll (log : List Entry) (s : SeatState) : Type 0 where
  pub begins : IsPrefix s.seen log
  pub exact : made_by s.number log ≡ made_by s.number s.seen

-- one of the seats has this number
abbrev pub HasNumber : ℕ → List SeatState → Type 0
HasNumber k seats = Any (λ (s : SeatState). s.number ≡ k) seats
