use Rattle.std.proofs.Common.{◌≡◌, drop}
use Rattle.std.specs.List.{enumerate_from}
use Rattle.items.specs.First.{first_in}
use Rattle.link_checks.specs.Firsts.{field_why}
use Rattle.link_checks.proofs.program.fields_fault.Given as goal

abbrev pub invariant-loop-index : goal.invariant-loop-index
invariant-loop-index l = first_in (field_why l.world l.class l.file) (enumerate_from 0 l.file.fields) ≡ first_in (field_why l.world l.class l.file) (enumerate_from l.index (drop l.index l.file.fields))
