use Rattle.asm_soundness.proofs.LineLaws.{assembled_is_spelled}
use Rattle.asm_soundness.proofs.laws.assembled_is_spelled.Goals as goal

pub returns : goal.returns
returns c = assembled_is_spelled
