use Rattle.std.proofs.Common.{◌≡◌, []}
use Rattle.std.specs.List.{fold, range_with_len}
use Rattle.ref_model.specs.Opening.{with_superclasses}
use Rattle.startup.proofs.class_order.class_order.Given as goal

abbrev pub invariant-loop-class : goal.invariant-loop-class
invariant-loop-class l = l.order ≡ fold (with_superclasses l.hierarchy) [] (range_with_len 0 l.class)
