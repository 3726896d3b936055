use Rattle.std.proofs.Common.{◌≡◌, map, take}
use Rattle.link_tables.specs.Linkings.{linking_in}
use Rattle.link_model.specs.Sites.{catch_of}
use Rattle.link_tables.proofs.resolutions.row_catches.Given as goal

abbrev pub invariant-loop-row : goal.invariant-loop-row
invariant-loop-row l = l.catches.items ≡ map (catch_of (linking_in l.l) l.pool) (take l.row-index l.rows)
