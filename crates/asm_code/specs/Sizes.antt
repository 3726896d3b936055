-- How many bytes an instruction has at a pc; for this no label needs a place.
use Rattle.std.specs.Prelude.{ℕ, ◌+◌, ◌*◌, ◌-◌, ◌%◌, length, ◌==◌, nat_lt, nat_le, Option, Some, None, if◌then◌else◌}
use Rattle.asm_text.specs.declared.instruction.Operands.{Operands}
use Rattle.asm_text.specs.declared.instruction.Operands.TheVariants as operands
use Rattle.asm_code.specs.Encoding.{is_small}

abbrev pub padding_size : ℕ → ℕ
padding_size pc = 3 - pc % 4

abbrev pub size_of : ℕ → ℕ → Operands → ℕ
size_of pc opcode operands.Nothing = 1
size_of pc opcode (operands.Byte n) = 2
size_of pc opcode (operands.Short n) = 3
size_of pc opcode (operands.Constant c) = if opcode == 18 then 2 else 3
size_of pc opcode (operands.Local n) = if nat_lt n 256 then 2 else 4
size_of pc opcode (operands.Increment n by) = if is_small n by then 3 else 6
size_of pc opcode (operands.Branch label) = if opcode == 200 then 5 else 3
size_of pc opcode (operands.Table low labels default) = 13 + padding_size pc + 4 * length labels
size_of pc opcode (operands.Lookup cs default) = 9 + padding_size pc + 8 * length cs
size_of pc opcode (operands.Member class name descriptor) = if opcode == 185 then 5 else 3
size_of pc opcode (operands.Class name) = 3
size_of pc opcode (operands.Element e) = 2
size_of pc opcode (operands.Dimensions name n) = 4

-- whether it is short enough for a code
abbrev pub fitting : ℕ → Option ℕ
fitting size = if nat_le size 65535 then Some size else None
