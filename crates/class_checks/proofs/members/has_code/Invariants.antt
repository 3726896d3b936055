use Rattle.std.proofs.Common.{◌≡◌, drop}
use Rattle.std.specs.List.{list_any}
use Rattle.class_grammar.specs.Checks.{is_code}
use Rattle.class_checks.proofs.members.has_code.Given as goal

abbrev pub invariant-loop-attribute : goal.invariant-loop-attribute
invariant-loop-attribute l = list_any is_code (drop l.attribute-index l.attributes) ≡ list_any is_code l.attributes
