use Rattle.std.proofs.Common.{ap}
use Rattle.continuation.specs.Continuation.{Continuation}
use Rattle.ref_run.proofs.GoingOnLaws.{went_with}
use Rattle.ref_run.proofs.going_on.go_on_with.Goals as goal

pub returns-in-Done : goal.returns-in-Done
returns-in-Done c =
    went_with c.args.pending c.args.value c.args.mounted.now c.give.new.mounted c.set_pc.new.self.stack.frames c.in-Done.ensures.given c.in-Done.ensures.only c.operands_fit.ensures
    (ap (λ (m : Continuation). m.stack.frames) c.set_pc.ensures)
