use Rattle.std.proofs.Common.{◌≡◌}
use Rattle.link_resolution.specs.Tables.{tabulate}
use Rattle.ref_model.specs.Members.{static_place}
use Rattle.runtime_program.proofs.static_places.all_static_places.Given as goal

abbrev pub invariant-loop-field : goal.invariant-loop-field
invariant-loop-field l =
    (l.places.items ≡ tabulate (static_place l.tables) l.field-index) × (l.before ≡ static_place l.tables l.field-index)
