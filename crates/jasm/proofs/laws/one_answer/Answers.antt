use Rattle.asm_class.specs.Ends.{start}
use Rattle.jasm.proofs.TextLaws.{one_made}
use Rattle.jasm.proofs.laws.one_answer.Goals as goal

pub returns : goal.returns
returns c = one_made start 1
