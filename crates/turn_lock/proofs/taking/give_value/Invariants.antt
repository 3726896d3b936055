use Rattle.std.proofs.Common.{◌≡◌, true, None, [], ◌∷◌, take}
use Rattle.turn_lock.specs.Views.{note, view}
use Rattle.turn_lock.proofs.taking.give_value.Given as goal

abbrev pub invariant-loop-n : goal.invariant-loop-n
invariant-loop-n g l =
    (l.place.table_id ≡ l.table.table_id)
    × (l.place.me ≡ (view true true (note l.number (take l.n (g.V.Kept.history l.fn.value)) ∷ []), (0, None) ∷ []))
