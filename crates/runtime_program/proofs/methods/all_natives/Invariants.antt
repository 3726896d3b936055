use Rattle.std.proofs.Common.{◌≡◌}
use Rattle.link_resolution.specs.Tables.{tabulate}
use Rattle.ref_model.specs.Members.{native_at}
use Rattle.runtime_program.proofs.methods.all_natives.Given as goal

abbrev pub invariant-loop-n : goal.invariant-loop-n
invariant-loop-n l = l.natives.items ≡ tabulate (native_at l.tables) l.n
