use Rattle.std.proofs.Common.{◌≡◌, drop}
use Rattle.std.specs.List.{enumerate_from}
use Rattle.items.specs.First.{first_in}
use Rattle.link_rules.specs.Faults.{link_fault}
use Rattle.link_checks.specs.Firsts.{fault_of_class}
use Rattle.link_checks.proofs.program.link_fault.Given as goal

abbrev pub invariant-loop-index : goal.invariant-loop-index
invariant-loop-index l = link_fault l.world ≡ first_in (fault_of_class l.world) (enumerate_from l.index (drop l.index l.world.classes))
