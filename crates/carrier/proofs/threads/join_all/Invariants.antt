use Rattle.std.proofs.Common.{◌≡◌, ◌+◌, length}
use Rattle.std.specs.Prelude.{All}
use Rattle.carrier.specs.Posts.{HasLeft}
use Rattle.carrier.specs.Shared.{shared_run}
use Rattle.carrier.proofs.threads.join_all.Given as goal

abbrev pub invariant-loop-thread : goal.invariant-loop-thread
invariant-loop-thread g l = record {
  started : All (λ thread. thread.promise.0.now ≡ l.lock) l.started.items;
  seats : All (HasLeft (shared_run g.C.Clock.gives l.lock)) l.seats.items;
  count : length l.seats.items + length l.started.items ≡ length l.fn.seats.items + length l.fn.started.items;
}

abbrev pub decreases-loop-thread : goal.decreases-loop-thread
decreases-loop-thread g l = length l.started.items
