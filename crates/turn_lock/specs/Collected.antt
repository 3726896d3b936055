-- The view of one seat into which all seats of a lock were joined.
use Rattle.std.specs.Prelude.{false, List, map}
use Rattle.turn_lock.specs.declared.view.View.{View}
use Rattle.turn_lock.specs.Seats.{SeatState}
use Rattle.turn_lock.specs.Views.{note, view}

abbrev pub all_view : List SeatState → View
all_view seats = view false false (map (λ (s : SeatState). note s.number s.seen) seats)
