use Rattle.std.proofs.Common.{◌≡◌, drop, take}
use Rattle.run_deques.specs.Take.{front}
use Rattle.run_deques.proofs.deques.front_between.Given as goal

abbrev pub invariant-loop-k : goal.invariant-loop-k
invariant-loop-k l = front l.from (drop l.from (take l.to l.lists.lists)) ≡ front l.k (drop l.k (take l.to l.lists.lists))
