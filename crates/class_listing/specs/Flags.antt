-- The flags of some bits, in the order of the bits (JVMS 4.1, 4.5, 4.6). A bit that isn't here is left out.
use Rattle.std.specs.Prelude.{ℕ, List, [], ◌∷◌, bit_and, ◌==◌, if◌then◌else◌}
use Rattle.asm_text.specs.declared.line.Flag.{Flag}
use Rattle.asm_text.specs.declared.line.Flag.TheVariants as flags

-- the flags of these rows whose bit is set
abbrev pub set_flags : List (ℕ × Flag) → ℕ → List Flag
set_flags [] bits = []
set_flags (row ∷ rows) bits = if bit_and bits row.0 == 0 then set_flags rows bits else row.1 ∷ set_flags rows bits

-- bit 0x20 is `super` of a class, and `synchronized` of a member
abbrev pub rows_with : Flag → List (ℕ × Flag)
rows_with flag =
    (0x0001, flags.Public)
    ∷ (0x0002, flags.Private)
    ∷ (0x0008, flags.Static)
    ∷ (0x0010, flags.Final)
    ∷ (0x0020, flag)
    ∷ (0x0040, flags.Volatile)
    ∷ (0x0100, flags.Native)
    ∷ (0x0200, flags.Interface)
    ∷ (0x0400, flags.Abstract)
    ∷ []

abbrev pub class_flags : ℕ → List Flag
class_flags bits = set_flags (rows_with flags.Super) bits

abbrev pub member_flags : ℕ → List Flag
member_flags bits = set_flags (rows_with flags.Synchronized) bits
