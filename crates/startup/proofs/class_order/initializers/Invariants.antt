use Rattle.std.proofs.Common.{◌≡◌, take}
use Rattle.std.specs.Prelude.{filter_map}
use Rattle.ref_model.specs.Opening.{initializer_of}
use Rattle.startup.proofs.class_order.initializers.Given as goal

abbrev pub invariant-loop-class : goal.invariant-loop-class
invariant-loop-class l = l.initializers.items ≡ filter_map (initializer_of l.tables.program) (take l.class-index l.class-items)
