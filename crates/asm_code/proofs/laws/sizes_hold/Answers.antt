use Rattle.asm_code.proofs.SizeLaws.{sizes}
use Rattle.asm_code.proofs.laws.sizes_hold.Goals as goal

pub returns : goal.returns
returns c = sizes
