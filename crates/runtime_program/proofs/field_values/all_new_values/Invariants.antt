use Rattle.std.proofs.Common.{◌≡◌}
use Rattle.link_resolution.specs.Tables.{tabulate}
use Rattle.ref_model.specs.Members.{new_values}
use Rattle.runtime_program.proofs.field_values.all_new_values.Given as goal

abbrev pub invariant-loop-class : goal.invariant-loop-class
invariant-loop-class l = l.all.items ≡ tabulate (new_values l.tables) l.class
