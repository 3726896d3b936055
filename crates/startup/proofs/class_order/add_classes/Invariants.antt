use Rattle.std.proofs.Common.{◌≡◌, drop}
use Rattle.std.specs.List.{fold}
use Rattle.ref_model.specs.Opening.{with_class}
use Rattle.startup.proofs.class_order.add_classes.Given as goal

abbrev pub invariant-loop-class : goal.invariant-loop-class
invariant-loop-class l = fold with_class l.fn.order l.classes ≡ fold with_class l.order (drop l.class-index l.classes)
