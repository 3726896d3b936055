use Rattle.asm_text.proofs.SpellingLaws.{printed}
use Rattle.asm_text.proofs.laws.printed_line.Goals as goal

pub returns : goal.returns
returns c = printed
