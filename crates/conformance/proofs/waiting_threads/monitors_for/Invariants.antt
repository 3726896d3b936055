use Rattle.std.proofs.Common.{◌≡◌, []}
use Rattle.conformance.proofs.waiting_threads.monitors_for.Given as goal

abbrev pub invariant-loop-i : goal.invariant-loop-i
invariant-loop-i l = l.monitors ≡ record { used = []; threads = l._i; spare = 0 }
