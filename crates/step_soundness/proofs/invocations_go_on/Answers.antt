use Rattle.step_soundness.proofs.Invocations.{invocations_go_on}
use Rattle.step_soundness.proofs.invocations_go_on.Goals as goal

pub returns : goal.returns
returns c = invocations_go_on
