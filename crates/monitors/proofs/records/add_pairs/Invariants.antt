use Rattle.std.proofs.Common.{◌≤◌, vec_len}
use Rattle.monitors.specs.Records.{Grows}
use Rattle.monitors.proofs.records.add_pairs.Given as goal

abbrev pub invariant-loop-i : goal.invariant-loop-i
invariant-loop-i l = record {
  grows : Grows l.fn.vacant l.fn.pairs l.fn.lists l.vacant l.pairs l.lists;
  many : l._i ≤ vec_len l.vacant;
}
