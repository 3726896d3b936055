use Rattle.std.proofs.Common.{◌≡◌, take, length}
use Rattle.std.specs.Prelude.{filter}
use Rattle.link_model.specs.Fields.{is_static_field}
use Rattle.link_resolution.specs.Tables.{tabulate}
use Rattle.link_tables.specs.Places.{static_at}
use Rattle.link_tables.proofs.places.static_places.Given as goal

abbrev pub invariant-loop-field : goal.invariant-loop-field
invariant-loop-field l =
    (l.places.items ≡ tabulate (static_at l.fields) l.field-index) × (l.before ≡ length (filter is_static_field (take l.field-index l.fields)))
