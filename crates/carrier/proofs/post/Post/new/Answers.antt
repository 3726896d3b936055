use Rattle.std.proofs.Common.{refl}
use Rattle.carrier.specs.Shared.{shared_run}
use Rattle.carrier.proofs.PostLaws.{first_post}
use Rattle.carrier.proofs.post.Post.new.Goals as goal

pub returns : goal.returns
returns g c = first_post (shared_run g.C.Clock.gives c.args.lock.now) _ c.requires.begins c.requires.seat refl c.in_ok-hand.ensures.fits c.in_ok-hand.ensures.done
