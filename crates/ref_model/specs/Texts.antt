-- Texts (java.lang.String): units of UTF-16, the bytes of UTF-8 in which they are written, and the texts of numbers.
use Rattle.std.specs.Prelude.{ℕ, ◌+◌, ◌*◌, ◌-◌, ℤ, pos, ◌+ℤ◌, ◌*ℤ◌, Bool, false, List, [], ◌∷◌, ◌++◌, Option, Some, None, codes, encode_utf8, fold, nat_le, ◌&&◌, if◌then◌else◌}
use Rattle.std.specs.Fmt.{signed_decimal, radix_digits}
use Rattle.std.specs.Int.{w32, cast_unsigned, int_wrap}
use Rattle.jvm_words.specs.Words.{is_zero, low_bits}

-- ---- UTF-8 (Unicode 3.9, D92). Two surrogates, a high one and a low one after it, are one character.

abbrev pub is_high : ℕ → Bool
is_high u = nat_le 0xd800 u && nat_le u 0xdbff

abbrev pub is_low : ℕ → Bool
is_low u = nat_le 0xdc00 u && nat_le u 0xdfff

-- the character of two surrogates (Unicode 3.9, D91)
abbrev pub joined : ℕ → ℕ → ℕ
joined high low = 0x10000 + (high - 0xd800) * 0x400 + (low - 0xdc00)

-- a surrogate alone is written as a question mark
abbrev pub question_mark : List ℕ
question_mark = codes "?"

-- the bytes of a unit that is no high surrogate
abbrev pub unit_bytes : ℕ → List ℕ
unit_bytes u = if is_low u then question_mark else encode_utf8 u

-- the bytes of a text after a high surrogate that has no partner yet, if there is one
abbrev pub bytes_behind : Option ℕ → List ℕ → List ℕ
bytes_behind None [] = []
bytes_behind (Some high) [] = question_mark
bytes_behind None (u ∷ us) = if is_high u then bytes_behind (Some u) us else unit_bytes u ++ bytes_behind None us
bytes_behind (Some high) (u ∷ us) =
    if is_low u then encode_utf8 (joined high u) ++ bytes_behind None us
    else if is_high u then question_mark ++ bytes_behind (Some u) us
    else question_mark ++ unit_bytes u ++ bytes_behind None us

-- the bytes of a text
abbrev pub text_bytes : List ℕ → List ℕ
text_bytes units = bytes_behind None units

-- ---- texts of values (String.valueOf)

-- an int or a long in decimal
abbrev pub decimal_text : ℤ → List ℕ
decimal_text n = signed_decimal n

-- a boolean: 0 is false, and every other int true
abbrev pub boolean_text : ℤ → List ℕ
boolean_text n = if is_zero n then codes "false" else codes "true"

-- a char, of which the low 16 bits count: an argument isn't narrowed by a call
abbrev pub char_text : ℤ → List ℕ
char_text n = low_bits 16 n ∷ []

-- an int as an unsigned number in lower-case hexadecimal (Integer.toHexString)
abbrev pub hex_text : ℤ → List ℕ
hex_text n = radix_digits 16 false (cast_unsigned w32 n)

abbrev pub null_text : List ℕ
null_text = codes "null"

-- ---- String.hashCode: the sum of the units times powers of 31, the last by 1

abbrev pub hashed : ℤ → ℕ → ℤ
hashed hash u = int_wrap w32 (pos 31 *ℤ hash +ℤ pos u)

abbrev pub text_hash : List ℕ → ℤ
text_hash units = fold hashed (pos 0) units
