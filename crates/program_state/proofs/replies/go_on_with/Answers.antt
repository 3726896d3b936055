use Rattle.std.proofs.Common.{ap}
use Rattle.continuation.specs.Continuation.{Continuation}
use Rattle.program_state.proofs.ReplyLaws.{went_with}
use Rattle.program_state.proofs.replies.go_on_with.Goals as goal

pub returns-in-Done-clause-frames : goal.returns-in-Done-clause-frames
returns-in-Done-clause-frames c =
    went_with c.args.pending c.args.value c.args.mounted.now c.give.new.mounted c.set_pc.new.self.stack.frames c.in-Done.ensures.given c.in-Done.ensures.only c.operands_fit.ensures
    (ap (λ (m : Continuation). m.stack.frames) c.set_pc.ensures)
