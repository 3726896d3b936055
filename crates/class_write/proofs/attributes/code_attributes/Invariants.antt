use Rattle.std.proofs.Common.{◌≡◌, ◌++◌, length, take}
use Rattle.std.specs.List.{flat_map}
use Rattle.class_grammar.specs.Layout.{code_attribute, u2}
use Rattle.class_write.proofs.attributes.code_attributes.Given as goal

abbrev pub invariant-loop-attribute : goal.invariant-loop-attribute
invariant-loop-attribute l = l.out.items ≡ l.fn.out.items ++ u2 (length l.attributes) ++ flat_map code_attribute (take l.attribute-index l.attributes)
