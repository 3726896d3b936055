use Rattle.asm_text.proofs.SpellingLaws.{one_at_most}
use Rattle.asm_text.proofs.laws.one_line.Goals as goal

pub returns : goal.returns
returns c = one_at_most
