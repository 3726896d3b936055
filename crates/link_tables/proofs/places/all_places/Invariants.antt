use Rattle.std.proofs.Common.{◌≡◌, ℕ, None, get_or}
use Rattle.link_tables.specs.Places.{place_by_first}
use Rattle.link_tables.proofs.places.all_places.Given as goal

abbrev pub invariant-loop-class : goal.invariant-loop-class
invariant-loop-class l = (q : ℕ) → get_or l.places.items q None ≡ place_by_first l.class l.fields l.rows q
