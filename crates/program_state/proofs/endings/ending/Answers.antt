use Rattle.std.proofs.Common.{ap, sym, ◌∙◌}
use Rattle.ref_model.specs.Ending.{exit_or, threads_ending}
use Rattle.program_state.proofs.WaitLaws.{ending_is}
use Rattle.program_state.proofs.endings.ending.Goals as goal

pub returns-in-None : goal.returns-in-None
returns-in-None c r out is =
    ending_is c.args.state.now r out c.threads_ending.result is (c.threads_ending.ensures r out is ∙ ap (λ o. exit_or o (threads_ending r)) (sym c.in-None.is))
