use Rattle.std.proofs.Common.{◌≡◌, [], take}
use Rattle.std.specs.List.{fold}
use Rattle.lib_table.specs.Declarations.{method_of}
use Rattle.lib_table.specs.Build as spec
use Rattle.lib_table.proofs.build.methods.Given as goal

abbrev pub invariant-loop-declaration : goal.invariant-loop-declaration
invariant-loop-declaration l = (l.methods.items, l.pool) ≡ fold (λ done x. spec.with_next spec.method done (method_of x)) ([], l.fn.pool) (take l.declaration-index l.declarations)
