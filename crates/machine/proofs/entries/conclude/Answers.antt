use Rattle.machine.specs.Steps.{picked_by, told_of}
use Rattle.machine.proofs.EnterLaws.{concluded_with}
use Rattle.machine.proofs.entries.conclude.Goals as goal

pub returns-in-Ok : goal.returns-in-Ok
returns-in-Ok c =
    concluded_with c.args.program.now c.args.state.now c.args.t c.args.mounted.now.stack.frames c.args.made c.args.c c.args.deques.now c.put_woken.new.deques c.outcome.result
    (picked_by c.picking.result) (told_of c.picking.result) c.in-Ok.ensures.put c.in-Ok.ensures.room c.outcome.ensures.becomes c.picking.ensures
