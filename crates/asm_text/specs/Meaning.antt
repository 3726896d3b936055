-- What the rows of the code's table of instructions mean.
use Rattle.std.specs.Prelude.{ℕ, List}
use Rattle.std.specs.Borrow.{Bor}
use Rattle.asm_text.specs.declared.instruction.OperandKind.{OperandKind}
use Rattle.asm_text.specs.Mnemonics.{Mnemonic}

abbrev pub row_of : Bor (List ℕ) × OperandKind → Mnemonic
row_of row = record { name = row.0.now; operands = row.1 }
