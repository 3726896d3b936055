use Rattle.std.proofs.Common.{◌≡◌}
use Rattle.ref_model.specs.Waiting.{thread_at_time}
use Rattle.ref_run.proofs.AllLaws.{changed}
use Rattle.ref_run.proofs.waiters.pass_rows.Given as goal

abbrev pub invariant-loop-i : goal.invariant-loop-i
invariant-loop-i l = l.threads ≡ changed (thread_at_time l.now) l.i l.fn.threads
