use Rattle.std.proofs.Common.{◌≡◌, drop}
use Rattle.items.specs.First.{first_in}
use Rattle.link_model.specs.Codes.{map_in}
use Rattle.link_numbers.proofs.codes.map_of.Given as goal

abbrev pub invariant-loop-attribute : goal.invariant-loop-attribute
invariant-loop-attribute l = first_in map_in l.body.attributes ≡ first_in map_in (drop l.attribute-index l.body.attributes)
