use Rattle.std.proofs.Common.{ap, refl}
use Rattle.asm_text.specs.Mnemonics.{Mnemonic}
use Rattle.asm_text.proofs.TableLaws.{row_in, row_past}
use Rattle.asm_text.proofs.mnemonic.operands_of.Goals as goal

pub returns-then-opcode-rows : goal.returns-then-opcode-rows
returns-then-opcode-rows c =
    ap (λ (m : Mnemonic). m.operands) (row_in c.mnemonics-rows.result.now c.mnemonics-rows.ensures c.args.opcode _ refl)

pub returns-else-opcode-rows : goal.returns-else-opcode-rows
returns-else-opcode-rows c = ap (λ (m : Mnemonic). m.operands) (row_past c.mnemonics-rows.result.now c.mnemonics-rows.ensures c.args.opcode c.if-opcode-rows.false)
