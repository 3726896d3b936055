use Rattle.std.proofs.Common.{refl}
use Rattle.opcodes.specs.declared.formats.TheConstants.{FORMATS}
use Rattle.opcodes.proofs.Table.{format_in, format_past}
use Rattle.opcodes.proofs.formats.format_of.Goals as goal

pub returns-then-opcode-lt202 : goal.returns-then-opcode-lt202
returns-then-opcode-lt202 c = format_in FORMATS c.args.opcode refl

pub returns-else-opcode-lt202 : goal.returns-else-opcode-lt202
returns-else-opcode-lt202 c = format_past c.args.opcode c.if-opcode-lt202.false
