use Rattle.std.proofs.Common.{◌≡◌}
use Rattle.link_resolution.specs.Tables.{tabulate}
use Rattle.ref_model.specs.Members.{field_place}
use Rattle.runtime_program.proofs.instance_places.all_instance_places.Given as goal

abbrev pub invariant-loop-n : goal.invariant-loop-n
invariant-loop-n l = l.places.items ≡ tabulate (field_place l.tables) l.n
