use Rattle.std.proofs.Common.{◌≡◌, drop}
use Rattle.items.specs.First.{first_in}
use Rattle.link_checks.specs.Firsts.{interface_why}
use Rattle.link_checks.proofs.program.interfaces_fault.Given as goal

abbrev pub invariant-loop-index : goal.invariant-loop-index
invariant-loop-index l = first_in (interface_why l.world l.class l.file) l.file.interfaces ≡ first_in (interface_why l.world l.class l.file) (drop l.index-index l.file.interfaces)
