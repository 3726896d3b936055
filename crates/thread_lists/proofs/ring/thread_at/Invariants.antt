use Rattle.std.proofs.Common.{◌≡◌, drop}
use Rattle.thread_lists.specs.Lists.{list_at}
use Rattle.thread_lists.specs.Ring.{spelled, start_of}
use Rattle.thread_lists.proofs.ring.thread_at.Given as goal

abbrev pub invariant-loop-i : goal.invariant-loop-i
invariant-loop-i l = l.place ≡ start_of l.list (drop l._i (list_at (spelled l.heads l.threads) l.list))
