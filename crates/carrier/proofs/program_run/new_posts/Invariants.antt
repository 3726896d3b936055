use Rattle.std.proofs.Common.{◌≡◌, ◌+◌, length}
use Rattle.std.specs.Prelude.{All}
use Rattle.carrier.specs.Posts.{IsNewSeat, IsPost}
use Rattle.carrier.specs.Shared.{shared_run}
use Rattle.carrier.proofs.program_run.new_posts.Given as goal

abbrev pub invariant-loop-seat : goal.invariant-loop-seat
invariant-loop-seat g l = record {
  posts : All (IsPost (shared_run g.C.Clock.gives l.lock)) l.posts.items;
  seats : All (IsNewSeat l.lock.id l.lock.initial.machine.carriers) l.seats.items;
  count : length l.posts.items + length l.seats.items ≡ length l.fn.seats.items;
}

abbrev pub decreases-loop-seat : goal.decreases-loop-seat
decreases-loop-seat g l = length l.seats.items
