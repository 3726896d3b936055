use Rattle.std.proofs.Common.{◌≡◌, [], drop}
use Rattle.asm_code.specs.Places.{place_of}
use Rattle.asm_body.specs.Bodies.{put_rows}
use Rattle.asm_body.proofs.rows.rows_of.Given as goal

abbrev pub invariant-loop-placed : goal.invariant-loop-placed
invariant-loop-placed l =
    put_rows (place_of l.labels) l.size l.rows [] ≡ put_rows (place_of l.labels) l.size (drop l.placed-index l.rows) l.table
