use Rattle.std.proofs.Common.{◌≡◌, ◌-◌, ◌≤◌, Some, drop}
use Rattle.ref_model.specs.Arrays.{ints_popped}
use Rattle.heap_instructions.specs.Operands.{operands}
use Rattle.heap_instructions.proofs.array_making.ints_on_top.Given as goal

abbrev pub invariant-loop-left : goal.invariant-loop-left
invariant-loop-left l = record {
  few : l.left ≤ l.count;
  ints : ints_popped (l.count - l.left) (drop l.left (operands l.mounted)) ≡ Some (l.ints, drop l.count (operands l.mounted));
}

abbrev pub decreases-loop-left : goal.decreases-loop-left
decreases-loop-left l = l.left
