use Rattle.std.proofs.Common.{◌≡◌, length}
use Rattle.std.specs.Prelude.{All, IsTrue}
use Rattle.carrier.specs.Posts.{IsPost}
use Rattle.carrier.specs.Shared.{shared_run}
use Rattle.carrier.proofs.rounds.run_rounds.Given as goal

abbrev pub invariant-loop : goal.invariant-loop
invariant-loop g l = record {
  posts : All (IsPost (shared_run g.C.Clock.gives l.lock)) l.posts;
  count : length l.posts ≡ length l.fn.posts;
  reading : IsTrue (g.C.Clock.gives l.clock l.reading.now);
}
