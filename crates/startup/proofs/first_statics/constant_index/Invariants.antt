use Rattle.std.proofs.Common.{◌≡◌, drop}
use Rattle.items.specs.First.{first_in}
use Rattle.ref_model.specs.Opening.{constant_in}
use Rattle.startup.proofs.first_statics.constant_index.Given as goal

abbrev pub invariant-loop-attribute : goal.invariant-loop-attribute
invariant-loop-attribute l = first_in constant_in l.attributes ≡ first_in constant_in (drop l.attribute-index l.attributes)
