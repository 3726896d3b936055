use Rattle.std.proofs.Common.{◌≡◌}
use Rattle.link_resolution.specs.Tables.{tabulate}
use Rattle.invocation.specs.Places.{is_open}
use Rattle.runtime_program.proofs.methods.all_open.Given as goal

abbrev pub invariant-loop-n : goal.invariant-loop-n
invariant-loop-n l = l.flags.items ≡ tabulate (is_open l.tables) l.n
