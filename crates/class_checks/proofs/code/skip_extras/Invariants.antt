use Rattle.std.proofs.Common.{◌≡◌, drop}
use Rattle.std.specs.List.{flat_map}
use Rattle.class_grammar.specs.Checks.{left_after, extra_items}
use Rattle.class_checks.proofs.code.skip_extras.Given as goal

abbrev pub invariant-loop-attribute : goal.invariant-loop-attribute
invariant-loop-attribute l = left_after l.left (flat_map extra_items (drop l.attribute-index l.attributes)) ≡ left_after l.fn.left (flat_map extra_items l.attributes)
