use Rattle.machine.proofs.LeavingLaws.{in_deque_given}
use Rattle.machine.proofs.machine.Machine.is_in_deque.Goals as goal

pub returns : goal.returns
returns c = in_deque_given c.self.inside c.args.self.now c.args.t c.holds.result c.self.view_is c.self.invariant c.requires.works c.holds.ensures
