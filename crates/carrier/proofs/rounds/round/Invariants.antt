use Rattle.std.proofs.Common.{◌≡◌, length}
use Rattle.std.specs.Prelude.{All}
use Rattle.carrier.specs.Posts.{IsPost}
use Rattle.carrier.specs.Shared.{shared_run}
use Rattle.carrier.proofs.rounds.round.Given as goal

abbrev pub invariant-loop-post : goal.invariant-loop-post
invariant-loop-post g l = record {
  posts : All (IsPost (shared_run g.C.Clock.gives l.lock)) l.posts;
  count : length l.posts ≡ length l.fn.posts;
}
