use Rattle.std.proofs.Common.{◌≡◌, ◌++◌, List, drop}
use Rattle.link_tables.specs.Linkings.{linking_in}
use Rattle.std.specs.List.{flat_map, enumerate_from}
use Rattle.link_model.specs.declared.sites.Resolution.{Resolution}
use Rattle.link_model.specs.Infos.{codes_in}
use Rattle.link_model.specs.Sites.{resolutions_in, resolutions_of}
use Rattle.link_tables.specs.ResolutionTables.{AreListsOf, Begins}
use Rattle.link_tables.proofs.resolutions.all_resolutions.Given as goal

abbrev pub invariant-loop-class : goal.invariant-loop-class
invariant-loop-class l =
    Begins (linking_in l.l) l.resolutions.table.items
    × (done : List (List Resolution))
    × AreListsOf l.resolutions.table.items l.resolutions.numbers.items done
    × (resolutions_of (linking_in l.l) ≡ done ++ flat_map (resolutions_in (linking_in l.l)) (enumerate_from l.class (drop l.class l.files)))
    × (l.rest ≡ flat_map codes_in (drop l.class l.files))
