use Rattle.std.specs.Prelude.{drop}
use Rattle.type_paths.specs.Paths.{Path, IsPath}
use Rattle.type_paths.proofs.paths.Paths.chopped.Given as goal

abbrev pub invariant-loop : goal.invariant-loop
invariant-loop l = (p : Path) → IsPath l.self l.n p → IsPath l.self l.node (drop l.counter p)
