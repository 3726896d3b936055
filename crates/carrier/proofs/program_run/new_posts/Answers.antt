use Rattle.std.proofs.Common.{[], ◌∷◌, ◌++◌, length}
use Rattle.std.proofs.lemmas.List.Elements.{All-pop, All-push, All-same}
use Rattle.carrier.specs.Posts.{IsNewSeat, IsPost}
use Rattle.carrier.specs.Shared.{shared_run}
use Rattle.carrier.proofs.ThreadLaws.{one_moved}
use Rattle.carrier.proofs.program_run.new_posts.Goals as goal

pub loop-seat-preserved : goal.loop-seat-preserved
loop-seat-preserved g c =
    let was = c.loop-seat.invariant in
    let lock = c.args.lock.now in
    record {
      posts = All-same (IsPost (shared_run g.C.Clock.gives lock)) c.push.new.self.items (c.loop-seat.posts.items ++ c.in_ok-new.field-0 ∷ []) c.in_ok-push.ensures.items
          (All-push (IsPost (shared_run g.C.Clock.gives lock)) c.loop-seat.posts.items c.in_ok-new.field-0 was.posts c.in_ok-new.ensures);
      seats = (All-pop (IsNewSeat lock.id lock.initial.machine.carriers) c.loop-seat.seats.items c.pop.new.self.items c.pop.result c.pop.ensures.items was.seats).0;
      count = one_moved c.loop-seat.posts.items c.push.new.self.items c.in_ok-new.field-0 c.loop-seat.seats.items c.pop.new.self.items c.in-Some.seat (length c.args.seats.items) c.in_ok-push.ensures.items
          c.in-Some.ensures.items was.count;
    }
