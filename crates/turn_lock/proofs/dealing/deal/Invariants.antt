use Rattle.std.proofs.Common.{◌≡◌, ◌-◌, ◌≤◌, [], false, map, vec_capacity}
use Rattle.std.specs.List.{range_with_len}
use Rattle.turn_lock.specs.Seats.{new_seat}
use Rattle.turn_lock.specs.Views.{view}
use Rattle.turn_lock.proofs.NoteLaws.{blank_notes}
use Rattle.turn_lock.proofs.dealing.deal.Given as goal

abbrev pub invariant-loop-number : goal.invariant-loop-number
invariant-loop-number g l =
    (l.rest.table_id ≡ l.initial.rest.table_id)
    × (l.rest.me ≡ (view false false (blank_notes l.number (l.seats - l.number)), []))
    × (l.list.items ≡ map (new_seat l.table.table_id) (range_with_len 0 l.number))
    × (l.seats ≤ vec_capacity l.list)
