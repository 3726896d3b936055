use Rattle.std.proofs.Common.{◌≡◌, take}
use Rattle.std.specs.Prelude.{filter}
use Rattle.thread_lists.specs.Lists.{push}
use Rattle.machine.specs.Puts.{is_loose}
use Rattle.machine.proofs.carriers.put_loose.Given as goal

abbrev pub invariant-loop-t : goal.invariant-loop-t
invariant-loop-t l = record {
  lists : l.deques.lists ≡ push l.initial.deques.lists l.c (filter (is_loose l.initial.deques.lists) (take l.t-index l.threads));
  room : l.deques.threads ≡ l.initial.deques.threads;
}
