use Rattle.std.proofs.Common.{sym, ◌∙◌}
use Rattle.program_state.proofs.StepLaws.{running_is, settled_same}
use Rattle.program_state.proofs.state.settle_running.Goals as goal

pub returns-then-is_running-clause-settled : goal.returns-then-is_running-clause-settled
returns-then-is_running-clause-settled c = settled_same c.args.state.now c.args.t (running_is c.args.state.now.memory.status (sym c.is_running.ensures ∙ c.if-is_running.true))
