use Rattle.std.proofs.Common.{◌≡◌, take}
use Rattle.class_equality.proofs.same.are_same.Given as goal

abbrev pub invariant-loop-index : goal.invariant-loop-index
invariant-loop-index g l = take l.index l.left ≡ take l.index l.right
