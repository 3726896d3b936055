-- What an instruction appends to the code before it (JVMS 6.5), where the pc of each label is known.
use Rattle.std.specs.Prelude.{◌≡◌, ℕ, ◌-◌, ◌%◌, ℤ, pos, negsuc, ◌+ℤ◌, ◌-ℤ◌, int_lt, int_le, Bool, true, false, ◌&&◌, ◌==◌, nat_lt, List, [], ◌∷◌, ◌++◌, length, replicate, Option, Some, None, Result, Ok, Err, if◌then◌else◌}
use Rattle.std.specs.Int.{w8, w16, w32, to_be_bytes, cast_unsigned}
use Rattle.items.specs.Options.{◌>>=◌}
use Rattle.asm_text.specs.declared.error.LineError.{LineError}
use Rattle.asm_text.specs.declared.error.LineError.TheVariants as errors
use Rattle.asm_text.specs.declared.instruction.Operands.{Operands}
use Rattle.asm_text.specs.declared.instruction.Operands.TheVariants as operands
use Rattle.asm_text.specs.declared.instruction.Element.{Element}
use Rattle.asm_text.specs.declared.instruction.Element.TheVariants as elements
use Rattle.asm_text.specs.declared.instruction.Case.{Case}
use Rattle.asm_code.specs.declared.instruction.Mentioned.{Mentioned}

-- the code afterwards, where it is defined
abbrev pub Step : Type 0
Step = List ℕ → Option (List ℕ)

-- the pc of a label, if it has one
abbrev pub Targets : Type 0
Targets = List ℕ → Option ℕ

-- the call did what the step says, unless memory ran out
abbrev pub Puts : Result (Unit {0}) LineError → List ℕ → Option (List ℕ) → Type 0
Puts (Ok done) new step = step ≡ Some new
Puts (Err errors.Bad) new step = step ≡ None
Puts (Err errors.NoMemory) new step = Unit {0}

-- ---- numbers, the highest byte first

abbrev pub u2 : ℕ → List ℕ
u2 n = to_be_bytes w16 n

abbrev pub s1 : ℤ → List ℕ
s1 n = cast_unsigned w8 n ∷ []

abbrev pub s2 : ℤ → List ℕ
s2 n = to_be_bytes w16 (cast_unsigned w16 n)

abbrev pub s4 : ℤ → List ℕ
s4 n = to_be_bytes w32 (cast_unsigned w32 n)

-- ---- offsets

abbrev pub offset : ℕ → ℕ → ℤ
offset pc target = pos target -ℤ pos pc

abbrev pub is_near : ℤ → Bool
is_near n = int_le (negsuc 32767) n && int_le n (pos 32767)

-- the number in two bytes, where it fits
abbrev pub Narrows : Result ℤ LineError → ℤ → Type 0
Narrows (Ok n) z = (n ≡ z) × (is_near z ≡ true)
Narrows (Err errors.Bad) z = is_near z ≡ false
Narrows (Err errors.NoMemory) z = Unit {0}

-- the offset of a label from the pc in two bytes, where it fits, and in four
abbrev pub near : Targets → ℕ → List ℕ → Step
near target pc label code = do
  t ← target label
  if is_near (offset pc t) then Some (code ++ s2 (offset pc t)) else None

abbrev pub far : Targets → ℕ → List ℕ → Step
far target pc label code = do
  t ← target label
  Some (code ++ s4 (offset pc t))

abbrev pub far_all : Targets → ℕ → List (List ℕ) → Step
far_all target pc [] code = Some code
far_all target pc (label ∷ labels) code = do
  next ← far target pc label code
  far_all target pc labels next

-- ---- switches

-- zeros, so that the operands of a switch begin at a multiple of 4
abbrev pub padding : ℕ → List ℕ
padding pc = replicate (3 - pc % 4) 0

-- the highest value of a table of so many labels
abbrev pub highest : ℤ → ℕ → ℤ
highest low count = low +ℤ (pos count -ℤ pos 1)

abbrev pub most32 : ℤ
most32 = pos 2147483647

-- no code has room for more than 65,535 labels
abbrev pub is_table : ℤ → ℕ → Bool
is_table low count = nat_lt 0 count && nat_lt count 65536 && int_le (highest low count) most32

-- the highest value of a table, where there is one
abbrev pub IsHighest : Result ℤ LineError → ℤ → ℕ → Type 0
IsHighest (Ok high) low count = (high ≡ highest low count) × (is_table low count ≡ true)
IsHighest (Err errors.Bad) low count = is_table low count ≡ false
IsHighest (Err errors.NoMemory) low count = Unit {0}

-- behind the default: the lowest and the highest value, and a target for each
abbrev pub table_targets : Targets → ℕ → ℤ → List (List ℕ) → Step
table_targets target pc low labels code =
    far_all target pc labels ((code ++ s4 low) ++ s4 (highest low (length labels)))

abbrev pub table : Targets → ℕ → ℤ → List (List ℕ) → List ℕ → Step
table target pc low labels default code =
    if is_table low (length labels)
    then (far target pc default (code ++ padding pc) >>= λ next. table_targets target pc low labels next)
    else None

-- values above the floor, each above the one before
abbrev pub are_above : ℤ → List Case → Bool
are_above floor [] = true
are_above floor (c ∷ cs) = int_lt floor c.value && are_above c.value cs

abbrev pub are_rising : List Case → Bool
are_rising [] = true
are_rising (c ∷ cs) = are_above c.value cs

abbrev pub case : Targets → ℕ → Case → Step
case target pc c code = far target pc c.label (code ++ s4 c.value)

abbrev pub cases : Targets → ℕ → List Case → Step
cases target pc [] code = Some code
cases target pc (c ∷ cs) code = do
  next ← case target pc c code
  cases target pc cs next

abbrev pub lookup : Targets → ℕ → List Case → List ℕ → Step
lookup target pc cs default code =
    if nat_lt (length cs) 65536 && are_rising cs
    then (far target pc default (code ++ padding pc) >>= λ next. cases target pc cs (next ++ s4 (pos (length cs))))
    else None

-- ---- instructions

-- ldc has one byte for the index
abbrev pub constant : ℕ → ℕ → Step
constant opcode index code =
    if opcode == 18
    then (if nat_lt index 256 then Some (code ++ opcode ∷ index ∷ []) else None)
    else Some (code ++ opcode ∷ u2 index)

-- after wide where the number needs two bytes
abbrev pub local : ℕ → ℕ → Step
local opcode n code =
    if nat_lt n 256 then Some (code ++ opcode ∷ n ∷ []) else Some ((code ++ 196 ∷ opcode ∷ []) ++ u2 n)

abbrev pub is_small : ℕ → ℤ → Bool
is_small n by = nat_lt n 256 && int_le (negsuc 127) by && int_le by (pos 127)

abbrev pub increment : ℕ → ℕ → ℤ → Step
increment opcode n by code =
    if is_small n by
    then Some (code ++ opcode ∷ n ∷ s1 by)
    else Some (((code ++ 196 ∷ opcode ∷ []) ++ u2 n) ++ s2 by)

-- goto_w has four bytes for the offset
abbrev pub branch : Targets → ℕ → ℕ → List ℕ → Step
branch target pc opcode label code =
    if opcode == 200
    then far target pc label (code ++ opcode ∷ [])
    else near target pc label (code ++ opcode ∷ [])

-- invokeinterface has the number of argument slots behind the index, and a zero
abbrev pub member : ℕ → Mentioned → Step
member opcode m code =
    if opcode == 185
    then Some (((code ++ opcode ∷ []) ++ u2 m.index) ++ m.slots ∷ 0 ∷ [])
    else Some (code ++ opcode ∷ u2 m.index)

abbrev pub element_code : Element → ℕ
element_code elements.Boolean = 4
element_code elements.Char = 5
element_code elements.Byte = 8
element_code elements.Short = 9
element_code elements.Int = 10
element_code elements.Long = 11

-- at least one dimension is made
abbrev pub dimensions : ℕ → ℕ → ℕ → Step
dimensions opcode index n code =
    if n == 0 then None else Some ((code ++ opcode ∷ u2 index) ++ n ∷ [])

-- the code with the instruction at the pc behind it
abbrev pub with_instruction : Targets → ℕ → ℕ → Mentioned → Operands → Step
with_instruction target pc opcode m operands.Nothing code = Some (code ++ opcode ∷ [])
with_instruction target pc opcode m (operands.Byte n) code = Some (code ++ opcode ∷ s1 n)
with_instruction target pc opcode m (operands.Short n) code = Some (code ++ opcode ∷ s2 n)
with_instruction target pc opcode m (operands.Constant c) code = constant opcode m.index code
with_instruction target pc opcode m (operands.Local n) code = local opcode n code
with_instruction target pc opcode m (operands.Increment n by) code = increment opcode n by code
with_instruction target pc opcode m (operands.Branch label) code = branch target pc opcode label code
with_instruction target pc opcode m (operands.Table low labels default) code =
    table target pc low labels default (code ++ opcode ∷ [])
with_instruction target pc opcode m (operands.Lookup cs default) code =
    lookup target pc cs default (code ++ opcode ∷ [])
with_instruction target pc opcode m (operands.Member class name descriptor) code = member opcode m code
with_instruction target pc opcode m (operands.Class name) code = Some (code ++ opcode ∷ u2 m.index)
with_instruction target pc opcode m (operands.Element e) code = Some (code ++ opcode ∷ element_code e ∷ [])
with_instruction target pc opcode m (operands.Dimensions name n) code = dimensions opcode m.index n code
