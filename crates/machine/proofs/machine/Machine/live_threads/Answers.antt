use Rattle.machine.proofs.LeavingLaws.{if_ok, lists_live}
use Rattle.machine.proofs.machine.Machine.live_threads.Goals as goal

pub returns : goal.returns
returns c =
    if_ok c.live_in.result _ _ (λ live is. lists_live c.self.inside c.args.self.now live.items c.self.view_is c.self.invariant c.requires is) c.live_in.ensures
