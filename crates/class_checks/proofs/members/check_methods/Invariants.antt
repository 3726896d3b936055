use Rattle.std.proofs.Common.{◌≡◌, drop}
use Rattle.std.specs.List.{flat_map}
use Rattle.class_grammar.specs.Checks.{left_after, method_items}
use Rattle.class_checks.proofs.members.check_methods.Given as goal

abbrev pub invariant-loop-member : goal.invariant-loop-member
invariant-loop-member l = left_after l.left (flat_map (method_items l.pool) (drop l.member-index l.members)) ≡ left_after l.fn.left (flat_map (method_items l.pool) l.members)
