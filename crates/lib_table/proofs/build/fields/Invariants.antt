use Rattle.std.proofs.Common.{◌≡◌, [], take}
use Rattle.std.specs.List.{fold}
use Rattle.lib_table.specs.Declarations.{field_of}
use Rattle.lib_table.specs.Build as spec
use Rattle.lib_table.proofs.build.fields.Given as goal

abbrev pub invariant-loop-declaration : goal.invariant-loop-declaration
invariant-loop-declaration l = (l.fields.items, l.pool) ≡ fold (λ done x. spec.with_next spec.field done (field_of x)) ([], l.fn.pool) (take l.declaration-index l.declarations)
