-- Numbers at the front of bytes, the highest byte first, with the bytes after them.
use Rattle.std.specs.Prelude.{◌≡◌, ℕ, zero, suc, ℤ, List, [], ◌∷◌, length, drop, Option, Some, None, Result, Ok, Err, nat_lt, if◌then◌else◌}
use Rattle.std.specs.Borrow.{Bor}
use Rattle.std.specs.Int.{w8, w16, w32, cast_signed}
use Rattle.byteorder.specs.Endian.{big_number}
use Rattle.items.specs.Options.{◌>>=◌}
use Rattle.asm_text.specs.declared.error.LineError.{LineError}
use Rattle.asm_text.specs.declared.error.LineError.TheVariants as line_errors

abbrev pub Reader : Type 0 → Type 0
Reader A = List ℕ → Option (A × List ℕ)

-- the call stopped where there is nothing, or memory ran out
abbrev pub Stops : {Y : Type 0} → LineError → Option Y → Type 0
Stops line_errors.Bad made = made ≡ None
Stops line_errors.NoMemory made = Unit {0}

-- the call gave this value, seen by view, unless memory ran out
abbrev pub GivesBy : {X Y : Type 0} → (X → Y) → Result X LineError → Option Y → Type 0
GivesBy view (Ok x) made = made ≡ Some (view x)
GivesBy view (Err e) made = Stops e made

abbrev pub Gives : {X : Type 0} → Result X LineError → Option X → Type 0
Gives result made = GivesBy (λ x. x) result made

-- of a value and the bytes after it
abbrev pub Reads : {A : Type 0} → Result (A × Bor (List ℕ)) LineError → Option (A × List ℕ) → Type 0
Reads result read = GivesBy (λ x. (x.0, x.1.now)) result read

abbrev pub number_at : ℕ → Reader ℕ
number_at size bytes = if nat_lt (length bytes) size then None else Some (big_number size bytes, drop size bytes)

abbrev pub u1_at : Reader ℕ
u1_at [] = None
u1_at (b ∷ bs) = Some (b, bs)

abbrev pub u2_at : Reader ℕ
u2_at bytes = number_at 2 bytes

abbrev pub u4_at : Reader ℕ
u4_at bytes = number_at 4 bytes

abbrev pub s1_at : Reader ℤ
s1_at bytes = do
  n ← u1_at bytes
  Some (cast_signed w8 n.0, n.1)

abbrev pub s2_at : Reader ℤ
s2_at bytes = do
  n ← u2_at bytes
  Some (cast_signed w16 n.0, n.1)

abbrev pub s4_at : Reader ℤ
s4_at bytes = do
  n ← u4_at bytes
  Some (cast_signed w32 n.0, n.1)

-- the bytes behind so many
abbrev pub skip : ℕ → List ℕ → Option (List ℕ)
skip count bytes = if nat_lt (length bytes) count then None else Some (drop count bytes)

-- ---- so many steps, one after the other

-- a step from a state, which takes some bytes
abbrev pub StepOn : Type 0 → Type 0
StepOn S = S → List ℕ → Option (S × List ℕ)

abbrev pub repeat : {S : Type 0} → StepOn S → ℕ → StepOn S
repeat step zero s bytes = Some (s, bytes)
repeat step (suc n) s bytes = do
  x ← step s bytes
  repeat step n x.0 x.1

-- the call led to this state, and left these bytes, unless memory ran out
abbrev pub GoesOn : {S : Type 0} → Result (Bor (List ℕ)) LineError → S → Option (S × List ℕ) → Type 0
GoesOn (Ok rest) new made = made ≡ Some (new, rest.now)
GoesOn (Err e) new made = Stops e made
