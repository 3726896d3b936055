use Rattle.step_soundness.proofs.Openings.{opening_is_typed}
use Rattle.step_soundness.proofs.openings_are_typed.Goals as goal

pub returns : goal.returns
returns c = λ p r linked facts e. opening_is_typed p r linked facts e
