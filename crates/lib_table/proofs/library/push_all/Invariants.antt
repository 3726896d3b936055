use Rattle.std.proofs.Common.{◌≡◌, ◌++◌, map, take}
use Rattle.lib_table.specs.Declarations.{class_of}
use Rattle.lib_table.specs.Build as spec
use Rattle.lib_table.proofs.library.push_all.Given as goal

abbrev pub invariant-loop-declaration : goal.invariant-loop-declaration
invariant-loop-declaration l = l.files.items ≡ l.fn.files.items ++ map spec.class_file (map class_of (take l.declaration-index l.declarations))
