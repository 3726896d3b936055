use Rattle.std.proofs.Common.{true, false, sym, ◌∙◌}
use Rattle.program_state.proofs.WaitLaws.{threads_ended, threads_go_on}
use Rattle.program_state.proofs.endings.threads_ending.Goals as goal

pub returns-then-goes_on : goal.returns-then-goes_on
returns-then-goes_on c r out is = sym (threads_go_on c.args.state.now r out is (sym c.goes_on.ensures ∙ c.if-goes_on.true))

pub returns-then-state : goal.returns-then-state
returns-then-state c r out is = sym (threads_ended c.args.state.now r out true is (sym c.goes_on.ensures ∙ c.if-goes_on.false) c.if-state.true)

pub returns-else-state : goal.returns-else-state
returns-else-state c r out is = sym (threads_ended c.args.state.now r out false is (sym c.goes_on.ensures ∙ c.if-goes_on.false) c.if-state.false)
