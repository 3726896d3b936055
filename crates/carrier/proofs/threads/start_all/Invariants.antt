use Rattle.std.proofs.Common.{◌≡◌, ◌+◌, ◌≤◌, length}
use Rattle.std.specs.Prelude.{All, vec_capacity}
use Rattle.carrier.specs.Posts.{IsPost}
use Rattle.carrier.specs.Shared.{shared_run}
use Rattle.carrier.proofs.threads.start_all.Given as goal

abbrev pub invariant-loop-post : goal.invariant-loop-post
invariant-loop-post g l = record {
  posts : All (IsPost (shared_run g.C.Clock.gives l.lock)) l.posts.items;
  own : All (IsPost (shared_run g.C.Clock.gives l.lock)) l.own.items;
  started : All (λ thread. thread.promise.0.now ≡ l.lock) l.started.items;
  count : length l.started.items + (length l.own.items + length l.posts.items) ≡ length l.fn.posts.items;
  room : length l.fn.posts.items ≤ vec_capacity l.started;
  place : length l.fn.posts.items ≤ vec_capacity l.own;
}

abbrev pub decreases-loop-post : goal.decreases-loop-post
decreases-loop-post g l = length l.posts.items
