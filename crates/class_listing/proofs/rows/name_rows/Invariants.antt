use Rattle.std.proofs.Common.{◌≡◌, drop}
use Rattle.class_listing.specs.Methods.{named_by}
use Rattle.class_listing.proofs.rows.name_rows.Given as goal

abbrev pub invariant-loop-row : goal.invariant-loop-row
invariant-loop-row l = named_by l.initial.named.items l.rows ≡ named_by l.named.items (drop l.row-index l.rows)
