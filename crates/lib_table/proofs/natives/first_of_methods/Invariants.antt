use Rattle.std.proofs.Common.{◌≡◌, drop, map}
use Rattle.lib_table.specs.Declarations.{method_of}
use Rattle.items.specs.First.{first_in}
use Rattle.lib_table.specs.Natives.{native_of_method}
use Rattle.lib_table.proofs.natives.first_of_methods.Given as goal

abbrev pub invariant-loop-method : goal.invariant-loop-method
invariant-loop-method l =
    first_in (native_of_method l.name l.descriptor) (map method_of l.methods) ≡ first_in (native_of_method l.name l.descriptor) (map method_of (drop l.method-index l.methods))
