use Rattle.std.proofs.Common.{◌++◌, List, map, take}
use Rattle.link_model.specs.declared.sites.Resolution.{Resolution}
use Rattle.link_tables.specs.KnownResolutions.{Knows}
use Rattle.link_tables.specs.Linkings.{linking_in}
use Rattle.link_tables.specs.Resolutions.{resolutions_in}
use Rattle.link_tables.specs.ResolutionTables.{AreListsOf}
use Rattle.link_tables.proofs.resolutions.code_numbers.Given as goal

abbrev pub invariant-loop-code : goal.invariant-loop-code
invariant-loop-code l =
    Knows (linking_in l.l) l.class l.pool l.resolutions.table.items l.known
    × ((xss : List (List Resolution)) → AreListsOf l.fn.resolutions.table.items l.fn.resolutions.numbers.items xss
    → AreListsOf l.resolutions.table.items l.resolutions.numbers.items (xss ++ map (resolutions_in (linking_in l.l) l.class l.pool) (take l.code-index l.codes)))
