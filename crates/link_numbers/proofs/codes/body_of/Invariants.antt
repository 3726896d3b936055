use Rattle.std.proofs.Common.{◌≡◌, drop}
use Rattle.items.specs.First.{first_in}
use Rattle.link_model.specs.Codes.{code_in}
use Rattle.link_numbers.proofs.codes.body_of.Given as goal

abbrev pub invariant-loop-attribute : goal.invariant-loop-attribute
invariant-loop-attribute l = first_in code_in l.method.attributes ≡ first_in code_in (drop l.attribute-index l.method.attributes)
