-- What the rows of an exception table cover, with and without what they catch.
use Rattle.std.proofs.Common.{◌≡◌, ℕ, List, [], ◌∷◌, Option, refl, ap}
use Rattle.std.specs.Prelude.{◌||◌, drop}
use Rattle.std.specs.List.{list_any}
use Rattle.class_model.specs.declared.attribute.Row.{Row}
use Rattle.verify_types.specs.Environment.{with_catches}
use Rattle.verify_types.specs.Calls.{covers}
use Rattle.verify_instructions.specs.Tables.{is_row_covered}

pub covered_rows : (pc : ℕ) (rows : List Row) (catches : List (Option ℕ)) → list_any (covers pc) (with_catches rows catches) ≡ list_any (is_row_covered pc) rows
covered_rows pc [] catches = refl
covered_rows pc (r ∷ rows) catches = ap (λ b. is_row_covered pc r || b) (covered_rows pc rows (drop 1 catches))
