use Rattle.std.proofs.Common.{◌+◌, length}
use Rattle.carrier.specs.Posts.{HasLeft, IsPost}
use Rattle.carrier.specs.Shared.{shared_run}
use Rattle.carrier.proofs.ThreadLaws.{one_moved, popped, pushed}
use Rattle.carrier.proofs.threads.leave_all.Goals as goal

pub run_to_end-requires-clause-post : goal.run_to_end-requires-clause-post
run_to_end-requires-clause-post g c =
    (popped (IsPost (shared_run g.C.Clock.gives c.args.lock.now)) c.loop-post.posts.items c.pop.new.self.items c.in-Some.post c.in-Some.ensures.items c.loop-post.invariant.posts).1

pub loop-post-preserved : goal.loop-post-preserved
loop-post-preserved g c =
    let run = shared_run g.C.Clock.gives c.args.lock.now in
    let was = c.loop-post.invariant in
    record {
      posts = (popped (IsPost run) c.loop-post.posts.items c.pop.new.self.items c.in-Some.post c.in-Some.ensures.items was.posts).0;
      seats = pushed (HasLeft run) c.loop-post.seats.items c.push.new.self.items _ c.in_ok-push.ensures.items was.seats c.run_to_end.ensures;
      count = one_moved c.loop-post.seats.items c.push.new.self.items _ c.loop-post.posts.items c.pop.new.self.items c.in-Some.post (length c.args.seats.now.items + length c.args.posts.items)
          c.in_ok-push.ensures.items c.in-Some.ensures.items was.count;
    }
