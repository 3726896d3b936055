-- The parts of a trace text, each read at the front of the bytes. What is read is answered with the bytes after it.
use Rattle.std.specs.Prelude.{ℕ, ◌+◌, ◌-◌, ◌*◌, List, [], ◌∷◌, length, take, drop, Bool, Option, Some, None, nat_eq, nat_le, ◌==◌, if◌then◌else◌, codes}
use Rattle.std.specs.Int.{is_in_range}
use Rattle.std.specs.Cmp.Lexicographic.{pointwise}
use Rattle.items.specs.Options.{◌>>=◌}
use Rattle.history.specs.declared.entry.Entry.{Entry}
use Rattle.history.specs.declared.entry.What.{What}
use Rattle.history.specs.declared.entry.What.TheVariants.{Mount, Unmount, Step, Clock}

-- these bytes, and no value
abbrev pub after : List ℕ → List ℕ → Option (List ℕ)
after front bytes = if pointwise nat_eq (take (length front) bytes) front then Some (drop (length front) bytes) else None

abbrev pub is_digit : ℕ → Bool
is_digit b = is_in_range 48 57 b

-- the number with one more digit at its end, where it is at most `most`
abbrev pub with_digit : ℕ → ℕ → ℕ → Option ℕ
with_digit most n b = let next = n * 10 + (b - 48) in if nat_le next most then Some next else None

-- the number whose digits go on with those of n
abbrev pub digits_from : ℕ → ℕ → List ℕ → Option (ℕ × List ℕ)
digits_from most n [] = Some (n, [])
digits_from most n (b ∷ rest) =
    if is_digit b then (with_digit most n b >>= λ next. digits_from most next rest) else Some (n, b ∷ rest)

-- a number in decimal without leading zeros, at most `most`
abbrev pub number_at : ℕ → List ℕ → Option (ℕ × List ℕ)
number_at most [] = None
number_at most (b ∷ rest) =
    if b == 48 then Some (0, rest) else if is_digit b then digits_from most 0 (b ∷ rest) else None

abbrev pub most32 : ℕ
most32 = 4294967295

abbrev pub most64 : ℕ
most64 = 18446744073709551615

-- a space and a number
abbrev pub field_at : ℕ → List ℕ → Option (ℕ × List ℕ)
field_at most bytes = do
  rest ← after (codes " ") bytes
  number_at most rest

-- none, where these bytes are left after its mark, or else a thread
abbrev pub pick_by : Option (List ℕ) → List ℕ → Option (Option ℕ × List ℕ)
pick_by (Some rest) bytes = Some (None, rest)
pick_by None bytes = field_at most32 bytes >>= λ t. Some (Some t.0, t.1)

-- a space, and the number of a thread or a minus sign for none
abbrev pub pick_at : List ℕ → Option (Option ℕ × List ℕ)
pick_at bytes = pick_by (after (codes " -") bytes) bytes

-- the fields of a step: the thread, the number of steps, and the pick
abbrev pub step_at : List ℕ → Option (What × List ℕ)
step_at bytes = do
  thread ← field_at most32 bytes
  steps ← field_at most32 thread.1
  pick ← pick_at steps.1
  if steps.0 == 0 then None else Some (Step thread.0 steps.0 pick.0, pick.1)

-- the fields after the carrier, by the entry's letter
abbrev pub what_at : ℕ → List ℕ → Option (What × List ℕ)
what_at letter bytes =
    if letter == 77 then (field_at most32 bytes >>= λ t. Some (Mount t.0, t.1))
    else if letter == 85 then (field_at most32 bytes >>= λ t. Some (Unmount t.0, t.1))
    else if letter == 83 then step_at bytes
    else if letter == 67 then (field_at most64 bytes >>= λ now. Some (Clock now.0, now.1))
    else None

-- an entry's line
abbrev pub entry_at : List ℕ → Option (Entry × List ℕ)
entry_at [] = None
entry_at (letter ∷ bytes) = do
  carrier ← field_at most32 bytes
  what ← what_at letter carrier.1
  rest ← after (codes "\n") what.1
  Some (record { carrier = carrier.0; what = what.0 }, rest)

-- the first line, with the number of carriers
abbrev pub first_line_at : List ℕ → Option (ℕ × List ℕ)
first_line_at bytes = do
  behind ← after (codes "jvt-trace carriers") bytes
  carriers ← field_at most32 behind
  rest ← after (codes "\n") carriers.1
  Some (carriers.0, rest)

-- the last line, with this number of entries
abbrev pub last_line_at : ℕ → List ℕ → Option (List ℕ)
last_line_at count bytes = do
  behind ← after (codes "end") bytes
  number ← field_at most64 behind
  if number.0 == count then after (codes "\n") number.1 else None
