use Rattle.std.proofs.Common.{◌≡◌}
use Rattle.machine.specs.Live.{live_below}
use Rattle.machine.proofs.live.live_in.Given as goal

abbrev pub invariant-loop-t : goal.invariant-loop-t
invariant-loop-t l = l.live.items ≡ live_below l.table.threads l.t
