use Rattle.std.proofs.Common.{◌≡◌, drop, map}
use Rattle.lib_table.specs.Declarations.{class_of}
use Rattle.items.specs.First.{first_in}
use Rattle.lib_table.specs.Natives.{native_of_class}
use Rattle.lib_table.proofs.natives.first_of_classes.Given as goal

abbrev pub invariant-loop-declaration : goal.invariant-loop-declaration
invariant-loop-declaration l =
    first_in (native_of_class l.class l.name l.descriptor) (map class_of l.declarations) ≡ first_in (native_of_class l.class l.name l.descriptor) (map class_of (drop l.declaration-index l.declarations))
