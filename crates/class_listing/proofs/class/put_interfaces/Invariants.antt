use Rattle.std.proofs.Common.{◌≡◌, drop}
use Rattle.class_listing.specs.Listing.{with_interfaces}
use Rattle.class_listing.proofs.class.put_interfaces.Given as goal

abbrev pub invariant-loop-index : goal.invariant-loop-index
invariant-loop-index l = with_interfaces l.pool l.indexes l.initial.text.items ≡ with_interfaces l.pool (drop l.index-index l.indexes) l.text.items
