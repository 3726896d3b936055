use Rattle.std.proofs.Common.{◌≡◌, ◌≤◌, max}
use Rattle.thread_lists.proofs.lists.ThreadLists.room.Given as goal

abbrev pub invariant-loop-i : goal.invariant-loop-i
invariant-loop-i l = record {
  value : l.self ≡ record l.fn.self { threads = l._i };
  most : l._i ≤ max l.fn.self.threads l.threads;
}
