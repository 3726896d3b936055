use Rattle.std.proofs.Common.{◌≡◌, ◌-◌, drop, take}
use Rattle.std.specs.List.{flat_map, sum_by}
use Rattle.class_grammar.specs.Checks.{left_after, constant_items}
use Rattle.class_checks.specs.Sizes.{const_size}
use Rattle.class_checks.proofs.constants.check_constants.Given as goal

-- what is left, less the texts so far
abbrev pub invariant-loop-index : goal.invariant-loop-index
invariant-loop-index g l = record {
  left : left_after (l.left - sum_by const_size (take l.index l.constants)) (flat_map (constant_items l.pool) (drop l.index l.constants)) ≡ left_after l.fn.left (flat_map (constant_items l.pool) l.constants);
  spent : l.steps ≡ l.fn.steps;
}
