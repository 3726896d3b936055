use Rattle.std.proofs.Common.{◌≡◌, ◌++◌, drop}
use Rattle.link_tables.specs.Linkings.{linking_in}
use Rattle.std.specs.List.{flat_map}
use Rattle.link_model.specs.Sites.{catches_in, catches_of}
use Rattle.link_tables.proofs.resolutions.all_catches.Given as goal

abbrev pub invariant-loop-file : goal.invariant-loop-file
invariant-loop-file l = catches_of (linking_in l.l) ≡ l.catches.items ++ flat_map (catches_in (linking_in l.l)) (drop l.file-index (linking_in l.l).program.classes)
