use Rattle.step_soundness.proofs.Starts.{runs_are_such}
use Rattle.step_soundness.proofs.runs_are_such.Goals as goal

pub returns : goal.returns
returns c = λ w methods. runs_are_such w methods
