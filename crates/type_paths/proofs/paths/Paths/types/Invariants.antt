use Rattle.std.proofs.Common.{◌≡◌, ◌++◌, length}
use Rattle.std.specs.Prelude.{reverse}
use Rattle.std.specs.Option.{option_map}
use Rattle.type_paths.specs.Paths.{path, types_on}
use Rattle.type_paths.proofs.paths.Paths.types.Given as goal

abbrev pub invariant-loop-top : goal.invariant-loop-top
invariant-loop-top l = option_map (λ ts. ts ++ reverse l.types.items) (types_on (path l.self l.node)) ≡ types_on (path l.self l.n)

abbrev pub decreases-loop-top : goal.decreases-loop-top
decreases-loop-top l = length (path l.self l.node)
