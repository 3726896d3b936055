-- The units of a text, read from left to right, or the first offset at which no unit begins.
use Rattle.std.specs.Prelude.{ℕ, zero, suc, ◌+◌, ◌-◌, ◌*◌, List, [], ◌∷◌, ◌++◌, length, Bool, Option, Some, None, Result, Ok, Err, nat_lt, ◌==◌, ◌||◌, ◌&&◌, if◌then◌else◌}
use Rattle.std.specs.Int.{is_in_range}

-- a byte after the first one of a unit
abbrev pub is_later : ℕ → Bool
is_later b = is_in_range 128 191 b

-- a byte that is a unit by itself
abbrev pub is_plain : ℕ → Bool
is_plain b = is_in_range 1 127 b

-- the unit of two bytes, of which this is the first, and the bytes after it
abbrev pub two_at : ℕ → List ℕ → Option (ℕ × List ℕ)
two_at a [] = None
two_at a (b ∷ rest) =
    let u = (a - 192) * 64 + (b - 128) in
    if is_later b && (u == 0 || nat_lt 127 u) then Some (u, rest) else None

-- the unit of three bytes, of which this is the first, and the bytes after it
abbrev pub three_at : ℕ → List ℕ → Option (ℕ × List ℕ)
three_at a (b ∷ c ∷ rest) =
    let u = ((a - 224) * 64 + (b - 128)) * 64 + (c - 128) in
    if is_later b && is_later c && nat_lt 2047 u then Some (u, rest) else None
three_at a short = None

-- the unit at the front, and the bytes after it
abbrev pub unit_at : List ℕ → Option (ℕ × List ℕ)
unit_at [] = None
unit_at (a ∷ rest) =
    if is_plain a then Some (a, rest)
    else if is_in_range 192 223 a then two_at a rest
    else if is_in_range 224 239 a then three_at a rest
    else None

abbrev pub with_front : ℕ → Result (List ℕ) ℕ → Result (List ℕ) ℕ
with_front u (Ok units) = Ok (u ∷ units)
with_front u (Err at) = Err at

-- The units of these bytes, the first of which is at this offset, or the first offset at which no unit begins. There are
-- no more than `most` bytes.
abbrev pub units_from : ℕ → ℕ → List ℕ → Result (List ℕ) ℕ
units_from most at [] = Ok []
units_from zero at (b ∷ bytes) = Err at
units_from (suc most) at (b ∷ bytes) =
    elim (unit_at (b ∷ bytes)) [
      | None ↦ Err at
      | Some x ↦ with_front x.0 (units_from most (at + (length (b ∷ bytes) - length x.1)) x.1)
    ]

-- the units that the bytes spell, or the first offset at which no unit begins
unfoldable pub units_of : List ℕ → Result (List ℕ) ℕ
units_of bytes = units_from (length bytes) 0 bytes

-- these units and then the ones that bytes spell, or the first offset at which no unit begins
abbrev pub after : List ℕ → Result (List ℕ) ℕ → Result (List ℕ) ℕ
after front (Ok units) = Ok (front ++ units)
after front (Err at) = Err at
