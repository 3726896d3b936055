use Rattle.std.proofs.Common.{◌≡◌, drop}
use Rattle.std.specs.List.{list_any}
use Rattle.ref_model.specs.Waiting.{thread_waits_on}
use Rattle.ref_run.proofs.waiters.any_waits_on.Given as goal

abbrev pub invariant-loop-row : goal.invariant-loop-row
invariant-loop-row l =
    list_any (thread_waits_on l.o) l.threads ≡ list_any (thread_waits_on l.o) (drop l.row-index l.threads)
