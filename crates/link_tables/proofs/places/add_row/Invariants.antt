use Rattle.std.proofs.Common.{◌≡◌, ℕ, None, cond, get_or, take}
use Rattle.std.specs.Prelude.{position, ◌==◌}
use Rattle.std.specs.Option.{option_or}
use Rattle.link_tables.specs.Places.{is_own}
use Rattle.link_tables.proofs.places.add_row.Given as goal

abbrev pub invariant-loop-place : goal.invariant-loop-place
invariant-loop-place l =
    (q : ℕ) → get_or l.places.items q None ≡ option_or (get_or l.initial.places.items q None) (cond (is_own l.fields l.class q) (position (λ m. m == q) (take l.place l.row)) None)
