use Rattle.std.proofs.Common.{◌≡◌, drop}
use Rattle.class_listing.specs.Methods.{with_rows}
use Rattle.class_listing.proofs.rows.put_rows.Given as goal

abbrev pub invariant-loop-row : goal.invariant-loop-row
invariant-loop-row l = with_rows l.pool l.rows l.initial.text.items ≡ with_rows l.pool (drop l.row-index l.rows) l.text.items
