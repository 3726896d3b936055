use Rattle.step_soundness.proofs.Steps.{step_keeps}
use Rattle.step_soundness.proofs.steps_keep.Goals as goal

pub returns : goal.returns
returns c = λ p r q t pick linked typed lies e. step_keeps p r q t pick linked typed lies e
