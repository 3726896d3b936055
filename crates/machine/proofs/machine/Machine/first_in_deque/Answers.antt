use Rattle.machine.proofs.LeavingLaws.{deque_there, first_given}
use Rattle.machine.proofs.machine.Machine.first_in_deque.Goals as goal

pub first-requires : goal.first-requires
first-requires c = deque_there c.self.inside c.args.self.now c.args.c c.self.view_is c.self.invariant c.requires.works c.requires.carrier

pub returns : goal.returns
returns c = first_given c.self.inside c.args.self.now c.args.c c.first.result c.self.view_is c.self.invariant c.requires.works c.first.ensures
