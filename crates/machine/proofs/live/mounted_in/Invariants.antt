use Rattle.std.proofs.Common.{◌≡◌, take}
use Rattle.machine.specs.Live.{mounted_threads}
use Rattle.machine.proofs.live.mounted_in.Given as goal

abbrev pub invariant-loop-thread : goal.invariant-loop-thread
invariant-loop-thread l = l.threads.items ≡ mounted_threads (take l.thread-index l.mounted)
