-- The text of a history: a line that names the number of carriers, a line for each entry, and a line with the number of
-- entries. Each line ends with a line feed, and numbers are in decimal without leading zeros.
use Rattle.std.specs.Prelude.{ℕ, ◌^◌, ◌<◌, List, ◌++◌, length, Option, Some, None, codes, decimal}
use Rattle.std.specs.List.{flat_map, AllByRecursion}
use Rattle.history.specs.declared.entry.Entry.{Entry}
use Rattle.history.specs.declared.entry.What.{What}
use Rattle.history.specs.declared.entry.What.TheVariants.{Mount, Unmount, Step, Clock}

-- a space and a number
abbrev pub field : ℕ → List ℕ
field n = codes " " ++ decimal n

abbrev pub newline : List ℕ
newline = codes "\n"

-- the letter of an entry
abbrev pub letter : What → List ℕ
letter (Mount t) = codes "M"
letter (Unmount t) = codes "U"
letter (Step t n pick) = codes "S"
letter (Clock now) = codes "C"

abbrev pub pick_field : Option ℕ → List ℕ
pick_field None = codes " -"
pick_field (Some t) = field t

-- what comes after the carrier
abbrev pub fields : What → List ℕ
fields (Mount t) = field t
fields (Unmount t) = field t
fields (Step t n pick) = field t ++ (field n ++ pick_field pick)
fields (Clock now) = field now

abbrev pub line : Entry → List ℕ
line e = letter e.what ++ (field e.carrier ++ (fields e.what ++ newline))

abbrev pub first_line : ℕ → List ℕ
first_line carriers = codes "jvt-trace carriers" ++ (field carriers ++ newline)

abbrev pub last_line : ℕ → List ℕ
last_line count = codes "end" ++ (field count ++ newline)

-- the text of a history with its number of carriers
abbrev pub trace_text : ℕ → List Entry → List ℕ
trace_text carriers entries = first_line carriers ++ (flat_map line entries ++ last_line (length entries))

-- ---- the numbers that entries have

abbrev pub IsPick : Option ℕ → Type 0
IsPick None = Unit {0}
IsPick (Some t) = t < 2 ^ 32

-- threads and steps are numbers of 32 bits, there is at least one step, and a time is a number of 64 bits
abbrev pub IsWhat : What → Type 0
IsWhat (Mount t) = t < 2 ^ 32
IsWhat (Unmount t) = t < 2 ^ 32
IsWhat (Step t n pick) = (t < 2 ^ 32) × (0 < n) × (n < 2 ^ 32) × IsPick pick
IsWhat (Clock now) = now < 2 ^ 64

pub record IsEntry (e : Entry) : Type 0 where
  pub carrier : e.carrier < 2 ^ 32
  pub what : IsWhat e.what

abbrev pub AreEntries : List Entry → Type 0
AreEntries entries = AllByRecursion IsEntry entries
