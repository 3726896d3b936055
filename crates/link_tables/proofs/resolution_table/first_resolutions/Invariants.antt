use Rattle.std.proofs.Common.{◌≡◌, ◌∷◌, map, take}
use Rattle.link_model.specs.Sites.{plain}
use Rattle.link_tables.specs.Linkings.{linking_in}
use Rattle.link_tables.specs.ResolutionTables.{primitive_resolution}
use Rattle.link_tables.proofs.resolution_table.first_resolutions.Given as goal

abbrev pub invariant-loop-primitive : goal.invariant-loop-primitive
invariant-loop-primitive l = l.table.items ≡ plain ∷ map (primitive_resolution (linking_in l.l)) (take l.primitive-index l.primitive-items)
