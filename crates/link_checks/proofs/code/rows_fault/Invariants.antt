use Rattle.std.proofs.Common.{◌≡◌, drop}
use Rattle.items.specs.First.{first_in}
use Rattle.link_checks.specs.Firsts.{row_why}
use Rattle.link_checks.proofs.code.rows_fault.Given as goal

abbrev pub invariant-loop-row : goal.invariant-loop-row
invariant-loop-row l =
    first_in (row_why l.namer.world.now l.namer.class l.namer.pool.now) l.rows ≡ first_in (row_why l.namer.world.now l.namer.class l.namer.pool.now) (drop l.row-index l.rows)
