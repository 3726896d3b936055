use Rattle.std.proofs.Common.{◌≡◌, drop}
use Rattle.std.specs.List.{flat_map}
use Rattle.class_grammar.specs.Checks.{left_after, attribute_items, attributes_items}
use Rattle.class_checks.proofs.members.check_attributes.Given as goal

abbrev pub invariant-loop-attribute : goal.invariant-loop-attribute
invariant-loop-attribute l = left_after l.left (flat_map (attribute_items l.pool l.member) (drop l.attribute-index l.attribute-items)) ≡ left_after l.fn.left (attributes_items l.pool l.member)
