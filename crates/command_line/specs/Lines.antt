-- The bytes of a line.
use Rattle.std.specs.Prelude.{ℕ, List}
use Rattle.command_line.specs.declared.line.Line.{Line}
use Rattle.command_line.specs.declared.line.Line.TheVariants.{Fixed, Made}

-- the bytes of a line
abbrev pub bytes_of : Line → List ℕ
bytes_of (Fixed bytes) = bytes.now
bytes_of (Made bytes) = bytes.items
