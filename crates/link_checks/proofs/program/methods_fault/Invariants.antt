use Rattle.std.proofs.Common.{◌≡◌, drop}
use Rattle.std.specs.List.{enumerate_from}
use Rattle.items.specs.First.{first_in}
use Rattle.link_checks.specs.Firsts.{method_why}
use Rattle.link_checks.proofs.program.methods_fault.Given as goal

abbrev pub invariant-loop-index : goal.invariant-loop-index
invariant-loop-index l = first_in (method_why l.world l.class l.file) (enumerate_from 0 l.file.methods) ≡ first_in (method_why l.world l.class l.file) (enumerate_from l.index (drop l.index l.file.methods))
