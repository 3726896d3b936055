use Rattle.std.proofs.Common.{◌≡◌, drop}
use Rattle.items.specs.First.{first_some}
use Rattle.link_checks.proofs.rules.first_why.Given as goal

abbrev pub invariant-loop-fault : goal.invariant-loop-fault
invariant-loop-fault l = first_some l.faults ≡ first_some (drop l.fault-index l.faults)
