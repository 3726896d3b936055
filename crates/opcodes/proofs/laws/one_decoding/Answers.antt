use Rattle.opcodes.proofs.CodeLaws.{one_code}
use Rattle.opcodes.proofs.laws.one_decoding.Goals as goal

pub returns : goal.returns
returns c = λ code is js a b. one_code 0 code is js a b
