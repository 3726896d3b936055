use Rattle.std.proofs.Common.{◌≡◌, drop}
use Rattle.std.specs.List.{list_any}
use Rattle.ref_model.specs.Ending.{keeps_going}
use Rattle.ref_run.proofs.waiters.any_keeps_going.Given as goal

abbrev pub invariant-loop-row : goal.invariant-loop-row
invariant-loop-row l = list_any keeps_going l.threads ≡ list_any keeps_going (drop l.row-index l.threads)
