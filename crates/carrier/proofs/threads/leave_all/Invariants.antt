use Rattle.std.proofs.Common.{◌≡◌, ◌+◌, length}
use Rattle.std.specs.Prelude.{All}
use Rattle.carrier.specs.Posts.{HasLeft, IsPost}
use Rattle.carrier.specs.Shared.{shared_run}
use Rattle.carrier.proofs.threads.leave_all.Given as goal

abbrev pub invariant-loop-post : goal.invariant-loop-post
invariant-loop-post g l = record {
  posts : All (IsPost (shared_run g.C.Clock.gives l.lock)) l.posts.items;
  seats : All (HasLeft (shared_run g.C.Clock.gives l.lock)) l.seats.items;
  count : length l.seats.items + length l.posts.items ≡ length l.fn.seats.items + length l.fn.posts.items;
}

abbrev pub decreases-loop-post : goal.decreases-loop-post
decreases-loop-post g l = length l.posts.items
