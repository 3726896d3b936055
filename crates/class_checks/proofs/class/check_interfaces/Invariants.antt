use Rattle.std.proofs.Common.{◌≡◌, drop, map}
use Rattle.class_grammar.specs.Checks.{left_after, u2_item, class_fault}
use Rattle.class_checks.proofs.class.check_interfaces.Given as goal

abbrev pub invariant-loop-index : goal.invariant-loop-index
invariant-loop-index l = left_after l.left (map (λ index. u2_item (class_fault l.pool index)) (drop l.index-index l.indices)) ≡ left_after l.fn.left (map (λ index. u2_item (class_fault l.pool index)) l.indices)
