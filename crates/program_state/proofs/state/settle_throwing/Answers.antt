use Rattle.std.proofs.Common.{sym, ◌∙◌}
use Rattle.program_state.proofs.StepLaws.{throwing_is, thrown_same}
use Rattle.program_state.proofs.state.settle_throwing.Goals as goal

pub returns-then-throws-clause-settled : goal.returns-then-throws-clause-settled
returns-then-throws-clause-settled c =
    thrown_same c.args.state.now c.args.t c.args.o (throwing_is c.args.o c.args.state.now.memory.status (sym c.throws.ensures ∙ c.if-throws.true))
