use Rattle.std.proofs.Common.{◌≡◌}
use Rattle.ref_model.specs.Waiting.{notified_on}
use Rattle.ref_run.proofs.AllLaws.{changed}
use Rattle.ref_run.proofs.waiters.notify_rows.Given as goal

abbrev pub invariant-loop-i : goal.invariant-loop-i
invariant-loop-i l = l.threads ≡ changed (notified_on l.o) l.i l.fn.threads
