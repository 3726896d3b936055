use Rattle.std.proofs.Common.{◌≡◌, ◌≤◌, ◌-◌, ◌++◌, ℕ, List, [], replicate, vec_len}
use Rattle.std.specs.Vec.{vec_capacity}
use Rattle.thread_lists.specs.declared.ring.Link.{Link}
use Rattle.thread_lists.specs.Ring.{Spells}
use Rattle.thread_lists.proofs.ring.add_heads.Given as goal

abbrev pub invariant-loop-list : goal.invariant-loop-list
invariant-loop-list l = record {
  len : vec_len l.heads ≡ l.list;
  room : l.list-end ≤ vec_capacity l.heads;
  spells : (threads : List Link) (lists : List (List ℕ)) → Spells l.fn.heads.items threads lists → Spells l.heads.items threads (lists ++ replicate (l.list - l.first) []);
}
