use Rattle.std.proofs.Common.{◌≡◌, ◌+◌, length}
use Rattle.carrier.specs.Posts.{HasLeft}
use Rattle.carrier.specs.Shared.{shared_run}
use Rattle.carrier.proofs.ThreadLaws.{one_moved, popped, pushed}
use Rattle.carrier.proofs.threads.join_all.Goals as goal

pub loop-thread-preserved : goal.loop-thread-preserved
loop-thread-preserved g c =
    let run = shared_run g.C.Clock.gives c.args.lock.now in
    let was = c.loop-thread.invariant in
    record {
      started = (popped (λ thread. thread.promise.0.now ≡ c.args.lock.now) c.loop-thread.started.items c.pop.new.self.items c.in-Some.thread c.in-Some.ensures.items was.started).0;
      seats = pushed (HasLeft run) c.loop-thread.seats.items c.push.new.self.items _ c.in_ok-push.ensures.items was.seats c.run_to_end.ensures;
      count = one_moved c.loop-thread.seats.items c.push.new.self.items _ c.loop-thread.started.items c.pop.new.self.items c.in-Some.thread (length c.args.seats.now.items + length c.args.started.items)
          c.in_ok-push.ensures.items c.in-Some.ensures.items was.count;
    }
