use Rattle.std.proofs.Common.{◌≡◌, drop}
use Rattle.class_listing.specs.Methods.{with_methods}
use Rattle.class_listing.proofs.method.put_methods.Given as goal

abbrev pub invariant-loop-method : goal.invariant-loop-method
invariant-loop-method l = with_methods l.pool l.methods l.initial.text.items ≡ with_methods l.pool (drop l.method-index l.methods) l.text.items
