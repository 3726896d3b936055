-- Numbers in decimal, without leading zeros.
use Rattle.std.specs.Prelude.{ℕ, ◌+◌, ◌-◌, ◌*◌, ℤ, pos, negsuc, List, [], ◌∷◌, Bool, Option, Some, None, nat_le, ◌==◌, if◌then◌else◌}
use Rattle.std.specs.Int.{is_in_range}
use Rattle.items.specs.Options.{◌>>=◌}

abbrev pub is_digit : ℕ → Bool
is_digit b = is_in_range 48 57 b

-- the number with one more digit at its end, where it is at most `most`
abbrev pub with_digit : ℕ → ℕ → ℕ → Option ℕ
with_digit most n b = let next = n * 10 + (b - 48) in if nat_le next most then Some next else None

-- the number whose digits go on with these
abbrev pub digits_from : ℕ → ℕ → List ℕ → Option ℕ
digits_from most n [] = Some n
digits_from most n (b ∷ rest) =
    if is_digit b then (with_digit most n b >>= λ next. digits_from most next rest) else None

-- the number that begins with this digit; after a zero comes nothing
abbrev pub number_by : ℕ → ℕ → List ℕ → Option ℕ
number_by most first [] = digits_from most 0 (first ∷ [])
number_by most first (b ∷ rest) = if first == 48 then None else digits_from most 0 (first ∷ b ∷ rest)

-- a number of at most `most`
abbrev pub number_of : ℕ → List ℕ → Option ℕ
number_of most [] = None
number_of most (first ∷ rest) = number_by most first rest

abbrev pub negative : ℕ → Option ℤ
negative n = if n == 0 then None else Some (negsuc (n - 1))

-- a number from -most - 1 to most; a minus sign stands in front of a negative one
abbrev pub int_of : ℕ → List ℕ → Option ℤ
int_of most [] = None
int_of most (first ∷ rest) =
    if first == 45
    then (number_of (most + 1) rest >>= λ n. negative n)
    else (number_of most (first ∷ rest) >>= λ n. Some (pos n))
