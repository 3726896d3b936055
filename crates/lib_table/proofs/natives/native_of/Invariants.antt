use Rattle.std.proofs.Common.{◌≡◌, drop, map}
use Rattle.lib_table.specs.Declarations.{group_of}
use Rattle.lib_table.specs.Table.{groups}
use Rattle.items.specs.First.{first_in}
use Rattle.lib_table.specs.Natives.{native_of_class}
use Rattle.lib_table.proofs.natives.native_of.Given as goal

abbrev pub invariant-loop-group : goal.invariant-loop-group
invariant-loop-group l =
    first_in (first_in (native_of_class l.class l.name l.descriptor)) groups ≡ first_in (first_in (native_of_class l.class l.name l.descriptor)) (map group_of (drop l.group-index l.group-items))
