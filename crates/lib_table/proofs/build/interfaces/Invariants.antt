use Rattle.std.proofs.Common.{◌≡◌, [], take}
use Rattle.std.specs.List.{fold}
use Rattle.lib_table.specs.Declarations.{name_of}
use Rattle.lib_table.specs.Build as spec
use Rattle.lib_table.specs.Pool as pools
use Rattle.lib_table.proofs.build.interfaces.Given as goal

abbrev pub invariant-loop-name : goal.invariant-loop-name
invariant-loop-name l = (l.indices.items, l.pool) ≡ fold (λ done x. spec.with_next pools.class done (name_of x)) ([], l.fn.pool) (take l.name-index l.names)
