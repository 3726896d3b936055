use Rattle.std.proofs.Common.{◌∙◌}
use Rattle.std.proofs.lemmas.List.Elements.{All-set}
use Rattle.std.proofs.Math.ListN.{length-set}
use Rattle.carrier.specs.Posts.{IsPost}
use Rattle.carrier.specs.Shared.{shared_run}
use Rattle.carrier.proofs.rounds.round.Goals as goal

pub loop-post-preserved : goal.loop-post-preserved
loop-post-preserved g c = record {
  posts = All-set (IsPost (shared_run g.C.Clock.gives c.args.lock.now)) c.loop-post.posts c.loop-post.post-index c.make_turns-answer.new.post c.make_turns-answer.ensures.post c.loop-post.invariant.posts;
  count = length-set c.loop-post.posts c.loop-post.post-index c.make_turns-answer.new.post ∙ c.loop-post.invariant.count;
}
