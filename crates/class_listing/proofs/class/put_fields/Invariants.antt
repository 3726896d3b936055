use Rattle.std.proofs.Common.{◌≡◌, drop}
use Rattle.class_listing.specs.Listing.{with_fields}
use Rattle.class_listing.proofs.class.put_fields.Given as goal

abbrev pub invariant-loop-field : goal.invariant-loop-field
invariant-loop-field l = with_fields l.pool l.fields l.initial.text.items ≡ with_fields l.pool (drop l.field-index l.fields) l.text.items
