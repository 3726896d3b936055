use Rattle.std.proofs.Common.{refl}
use Rattle.std.specs.Fmt.{digits}
use Rattle.asm_text.specs.Mnemonics.{mnemonics, mnemonic_of, opcode_named}
use Rattle.gen_load.proofs.texts.load_back.Goals as goal

pub returns : goal.returns
unfolding mnemonics mnemonic_of opcode_named digits
returns c = refl
