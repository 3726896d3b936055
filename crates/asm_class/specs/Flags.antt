-- The bits of flags (JVMS 4.1, 4.5, 4.6).
use Rattle.std.specs.Prelude.{ℕ, List, [], ◌∷◌, bit_or}
use Rattle.asm_text.specs.declared.line.Flag.{Flag}
use Rattle.asm_text.specs.declared.line.Flag.TheVariants as flags

abbrev pub bit_of : Flag → ℕ
bit_of flags.Public = 0x0001
bit_of flags.Private = 0x0002
bit_of flags.Static = 0x0008
bit_of flags.Final = 0x0010
bit_of flags.Super = 0x0020
bit_of flags.Synchronized = 0x0020
bit_of flags.Volatile = 0x0040
bit_of flags.Native = 0x0100
bit_of flags.Interface = 0x0200
bit_of flags.Abstract = 0x0400

-- these bits with those of the flags
abbrev pub bits_with : ℕ → List Flag → ℕ
bits_with bits [] = bits
bits_with bits (f ∷ fs) = bits_with (bit_or bits (bit_of f)) fs

abbrev pub bits_of : List Flag → ℕ
bits_of fs = bits_with 0 fs
