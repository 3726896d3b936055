use Rattle.std.proofs.Common.{◌≡◌, ◌+◌, ◌-◌, take}
use Rattle.std.specs.List.{sum_by}
use Rattle.class_checks.specs.Costs.{adding}
use Rattle.class_checks.specs.Sizes.{const_size}
use Rattle.class_checks.proofs.sizes.left_behind_text.Given as goal

abbrev pub invariant-loop-constant : goal.invariant-loop-constant
invariant-loop-constant g l = record {
  left : l.left ≡ l.fn.left - sum_by const_size (take l.constant-index l.constants);
  spent : l.steps ≡ l.fn.steps + sum_by adding (take l.constant-index l.constants);
}
