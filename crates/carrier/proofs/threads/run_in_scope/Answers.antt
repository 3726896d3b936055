use Rattle.std.proofs.Common.{◌∙◌}
use Rattle.carrier.specs.Posts.{IsPost}
use Rattle.carrier.specs.Shared.{shared_run}
use Rattle.carrier.proofs.ThreadLaws.{written}
use Rattle.carrier.proofs.threads.run_in_scope.Goals as goal

pub leave_all-requires-clause-posts : goal.leave_all-requires-clause-posts
leave_all-requires-clause-posts g c =
    written (IsPost (shared_run g.C.Clock.gives c.args.lock.now)) c.run_rounds.new.posts _ _ (c.run_rounds.ensures.count ∙ c.deref_mut.ensures.len) c.run_rounds.ensures.posts
