use Rattle.step_soundness.proofs.StateChanges.{time_keeps}
use Rattle.step_soundness.proofs.time_keeps.Goals as goal

pub returns : goal.returns
returns c = λ w r q now typed e. time_keeps w r q now typed e
