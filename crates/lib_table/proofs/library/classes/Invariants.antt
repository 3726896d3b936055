use Rattle.std.proofs.Common.{◌≡◌, map, take}
use Rattle.std.specs.List.{flat_map}
use Rattle.lib_table.specs.Declarations.{group_of}
use Rattle.lib_table.specs.Build as spec
use Rattle.lib_table.proofs.library.classes.Given as goal

abbrev pub invariant-loop-group : goal.invariant-loop-group
invariant-loop-group l = l.files.items ≡ flat_map (λ g. map spec.class_file (group_of g)) (take l.group-index l.group-items)
