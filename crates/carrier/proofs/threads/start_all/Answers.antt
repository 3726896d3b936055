use Rattle.std.proofs.Common.{◌≡◌, length, sym, subst, ◌≤◌}
use Rattle.carrier.specs.Posts.{IsPost}
use Rattle.carrier.specs.Shared.{shared_run}
use Rattle.carrier.proofs.ThreadLaws.{first_grows, popped, pushed, second_grows}
use Rattle.carrier.proofs.threads.start_all.Goals as goal

pub start-requires-clause-post : goal.start-requires-clause-post
start-requires-clause-post g c κs within =
    (popped (IsPost (shared_run g.C.Clock.gives c.args.lock.now)) c.loop-post.posts.items c.pop.new.self.items c.in-Some.post c.in-Some.ensures.items c.loop-post.invariant.posts).1

pub loop-post-preserved-then-is_empty : goal.loop-post-preserved-then-is_empty
loop-post-preserved-then-is_empty g c =
    let run = shared_run g.C.Clock.gives c.args.lock.now in
    let was = c.loop-post.invariant in
    let parts = popped (IsPost run) c.loop-post.posts.items c.pop.new.self.items c.in-Some.post c.in-Some.ensures.items was.posts in
    record {
      posts = parts.0;
      own = pushed (IsPost run) c.loop-post.own.items c.push_reserved.new.self.items c.in-Some.post c.push_reserved.ensures.items was.own parts.1;
      started = was.started;
      count = second_grows c.loop-post.started.items c.loop-post.own.items c.push_reserved.new.self.items c.in-Some.post c.loop-post.posts.items c.pop.new.self.items c.in-Some.post (length c.args.posts.items)
          c.push_reserved.ensures.items c.in-Some.ensures.items was.count;
      room = was.room;
      place = subst (λ n. length c.args.posts.items ≤ n) (sym c.push_reserved.ensures.capacity) was.place;
    }

pub loop-post-preserved-in-Ok : goal.loop-post-preserved-in-Ok
loop-post-preserved-in-Ok g c =
    let run = shared_run g.C.Clock.gives c.args.lock.now in
    let was = c.loop-post.invariant in
    record {
      posts = (popped (IsPost run) c.loop-post.posts.items c.pop.new.self.items c.in-Some.post c.in-Some.ensures.items was.posts).0;
      own = was.own;
      started = pushed (λ thread. thread.promise.0.now ≡ c.args.lock.now) c.loop-post.started.items c.push_reserved-in-Ok.new.self.items c.in-Ok.thread c.push_reserved-in-Ok.ensures.items was.started
          c.in-Ok.ensures.started;
      count = first_grows c.loop-post.started.items c.push_reserved-in-Ok.new.self.items c.in-Ok.thread c.loop-post.own.items c.loop-post.posts.items c.pop.new.self.items c.in-Some.post
          (length c.args.posts.items) c.push_reserved-in-Ok.ensures.items c.in-Some.ensures.items was.count;
      room = subst (λ n. length c.args.posts.items ≤ n) (sym c.push_reserved-in-Ok.ensures.capacity) was.room;
      place = was.place;
    }

pub loop-post-preserved : goal.loop-post-preserved
loop-post-preserved g c =
    let run = shared_run g.C.Clock.gives c.args.lock.now in
    let was = c.loop-post.invariant in
    record {
      posts = (popped (IsPost run) c.loop-post.posts.items c.pop.new.self.items c.in-Some.post c.in-Some.ensures.items was.posts).0;
      own = pushed (IsPost run) c.loop-post.own.items c.push_reserved-in-Err.new.self.items c.in-Err.post c.push_reserved-in-Err.ensures.items was.own c.in-Err.ensures.refused;
      started = was.started;
      count = second_grows c.loop-post.started.items c.loop-post.own.items c.push_reserved-in-Err.new.self.items c.in-Err.post c.loop-post.posts.items c.pop.new.self.items c.in-Some.post
          (length c.args.posts.items) c.push_reserved-in-Err.ensures.items c.in-Some.ensures.items was.count;
      room = was.room;
      place = subst (λ n. length c.args.posts.items ≤ n) (sym c.push_reserved-in-Err.ensures.capacity) was.place;
    }
