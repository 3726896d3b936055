use Rattle.std.proofs.Common.{◌≡◌, map, drop}
use Rattle.class_grammar.specs.Checks.{left_after, u2_item}
use Rattle.class_checks.proofs.sizes.check_numbers.Given as goal

abbrev pub invariant-loop-fault : goal.invariant-loop-fault
invariant-loop-fault l = left_after l.left (map u2_item (drop l.fault-index l.faults)) ≡ left_after l.fn.left (map u2_item l.faults)
