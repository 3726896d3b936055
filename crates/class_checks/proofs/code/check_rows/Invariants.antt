use Rattle.std.proofs.Common.{◌≡◌, drop}
use Rattle.std.specs.List.{flat_map}
use Rattle.class_grammar.specs.Checks.{left_after, row_items}
use Rattle.class_checks.proofs.code.check_rows.Given as goal

abbrev pub invariant-loop-row : goal.invariant-loop-row
invariant-loop-row l = left_after l.left (flat_map (row_items l.pool l.size) (drop l.row-index l.table)) ≡ left_after l.fn.left (flat_map (row_items l.pool l.size) l.table)
