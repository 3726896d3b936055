use Rattle.std.proofs.Common.{◌≡◌}
use Rattle.carrier.specs.Posts.{IsPost}
use Rattle.carrier.specs.Shared.{shared_run}
use Rattle.carrier.proofs.post.run_carrier.Given as goal

abbrev pub invariant-loop : goal.invariant-loop
invariant-loop g l = record {
  post : IsPost (shared_run g.C.Clock.gives l.lock) l.post;
  number : l.post.seat.number ≡ l.fn.post.seat.number;
}
