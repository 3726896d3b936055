use Rattle.std.proofs.Common.{◌≡◌, List, [], ◌++◌}
use Rattle.turn_lock.specs.Seats.{SeatState}
use Rattle.turn_lock.specs.Collected.{all_view}
use Rattle.turn_lock.proofs.dealing.collect.Given as goal

abbrev pub invariant-loop-seat : goal.invariant-loop-seat
invariant-loop-seat g l =
    (l.all.table_id ≡ l.table.table_id)
    × ((back : List SeatState) × (l.fn.seats.items ≡ l.seats.items ++ back) × (l.all.me ≡ (all_view back, [])))

abbrev pub decreases-loop-seat : goal.decreases-loop-seat
decreases-loop-seat g l = goal.left-loop-seat g l
