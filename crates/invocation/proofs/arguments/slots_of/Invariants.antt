use Rattle.std.proofs.Common.{◌≡◌, ◌+◌, ◌≤◌, drop, sum_by}
use Rattle.descriptors.specs.Descriptors.{slots}
use Rattle.invocation.proofs.arguments.slots_of.Given as goal

abbrev pub invariant-loop-kind : goal.invariant-loop-kind
invariant-loop-kind l = record {
  few : l.slots ≤ 255;
  sum : l.slots + sum_by slots (drop l.kind-index l.kinds) ≡ sum_by slots l.kinds;
}
