use Rattle.carrier.specs.Shared.{shared_run}
use Rattle.carrier.proofs.PostLaws.{has_left}
use Rattle.carrier.proofs.threads.run_to_end.Goals as goal

pub returns : goal.returns
returns g c = has_left (shared_run g.C.Clock.gives c.args.lock.now) _ c.run_carrier.ensures.post c.run_carrier.ensures.over
