-- Modified UTF-8, the bytes of a text in a class file (JVMS 4.4.7).
use Rattle.std.specs.Prelude.{ℕ, ◌+◌, ◌/◌, ◌%◌, ◌<◌, ◌^◌, List, [], ◌∷◌, nat_lt, ◌==◌, ◌||◌, ◌&&◌, if◌then◌else◌}
use Rattle.std.specs.List.{flat_map, AllByRecursion}

-- The bytes of a unit: one byte for 1 to 127, two for 0 and for 128 to 2047, and three for the others. A surrogate is a
-- unit like any other, so a character beyond 65535 takes six bytes.
abbrev pub unit : ℕ → List ℕ
unit u =
    if u == 0 || (nat_lt 127 u && nat_lt u 2048) then (192 + u / 64) ∷ (128 + u % 64) ∷ []
    else if nat_lt u 128 then u ∷ []
    else (224 + u / 4096) ∷ (128 + u / 64 % 64) ∷ (128 + u % 64) ∷ []

-- the bytes of the units in a row
abbrev pub text : List ℕ → List ℕ
text units = flat_map unit units

-- numbers of 16 bits
abbrev pub AreUnits : List ℕ → Type 0
AreUnits units = AllByRecursion (λ u. u < 2 ^ 16) units
