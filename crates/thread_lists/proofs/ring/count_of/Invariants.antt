use Rattle.std.proofs.Common.{◌≡◌, ◌-◌, ◌≤◌, drop, length}
use Rattle.thread_lists.specs.Lists.{list_at}
use Rattle.thread_lists.specs.Ring.{spelled, start_of}
use Rattle.thread_lists.proofs.ring.count_of.Given as goal

abbrev pub invariant-loop-place : goal.invariant-loop-place
invariant-loop-place l = record {
  place : l.place ≡ start_of l.list (drop l.count (list_at (spelled l.heads l.threads) l.list));
  count : l.count ≤ length (list_at (spelled l.heads l.threads) l.list);
}

abbrev pub decreases-loop-place : goal.decreases-loop-place
decreases-loop-place l = length (list_at (spelled l.heads l.threads) l.list) - l.count
