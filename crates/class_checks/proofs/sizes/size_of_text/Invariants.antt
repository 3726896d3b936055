use Rattle.std.proofs.Common.{◌≡◌, ◌+◌, ◌*◌, ◌≤◌, take}
use Rattle.class_checks.specs.Sizes.{text_size}
use Rattle.class_checks.proofs.sizes.size_of_text.Given as goal

abbrev pub invariant-loop-unit : goal.invariant-loop-unit
invariant-loop-unit g l = record {
  sum : l.size ≡ text_size (take l.unit-index l.text);
  small : l.size ≤ 3 * l.unit-index;
  spent : l.steps ≡ l.fn.steps + l.unit-index;
}
