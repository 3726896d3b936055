use Rattle.std.proofs.Common.{refl}
use Rattle.asm_text.specs.Mnemonics.{mnemonics}
use Rattle.asm_text.proofs.mnemonic.mnemonics.Goals as goal

pub returns : goal.returns
unfolding mnemonics
returns c = refl
