use Rattle.std.proofs.Common.{ap}
use Rattle.program_state.specs.declared.state.ProgramState.{ProgramState}
use Rattle.program_state.proofs.StepLaws.{on_ok}
use Rattle.program_state.proofs.ReplyLaws.{is_raised}
use Rattle.monitor_steps.proofs.throwing.throw.Goals as goal

pub returns-clause-raised : goal.returns-clause-raised
returns-clause-raised g c =
    on_ok c.settle_status.result c.settle_status.ensures.settled
    (is_raised (g.W.EventWorld.world c.args.world.now) c.args.exception c.args.t c.args.state.now c.settle_status.new.state c.raise.new.parts c.in_ok-raise.ensures)

pub returns-clause-monitors : goal.returns-clause-monitors
returns-clause-monitors g c =
    on_ok c.settle_status.result c.settle_status.ensures.settled (λ settled. ap (λ (s : ProgramState). s.monitors) settled.state)
