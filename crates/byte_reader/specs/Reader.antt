-- Readers of bytes. A reader goes from left to right, and gives a value and the bytes after it, or the first fault that
-- it meets. A fault says how many bytes were left in front of it, so that a reader needs no offset.
use Rattle.std.specs.Prelude.{◌≡◌, ℕ, zero, suc, ◌-◌, ℤ, List, [], ◌∷◌, length, take, drop, Bool, Result, Ok, Err, nat_lt, if◌then◌else◌}
use Rattle.std.specs.Borrow.{Bor}
use Rattle.std.specs.Int.{Width, byte_len, cast_signed}
use Rattle.byteorder.specs.Endian.{big_number}
use Rattle.byte_reader.specs.declared.fault.Fault.{Fault}
use Rattle.byte_reader.specs.declared.fault.Stop.{Stop}
use Rattle.byte_reader.specs.declared.fault.Stop.TheVariants as stops

abbrev pub Reader : Type 0 → Type 0 → Type 0
Reader W A = List ℕ → Result (A × List ℕ) (Fault W)

infixl 10 ◌>>=◌
abbrev pub ◌>>=◌ : {W A B : Type 0} → Result A (Fault W) → (A → Result B (Fault W)) → Result B (Fault W)
(Ok x) >>= f = f x
(Err e) >>= f = Err e

-- ---- faults

-- what is wrong at the front of these bytes
abbrev pub fault_at : {W : Type 0} → List ℕ → W → Fault W
fault_at bytes why = record { left = length bytes; why = why }

-- the offset of a fault in an input of this size
abbrev pub offset_of : {W : Type 0} → ℕ → Fault W → ℕ
offset_of size fault = size - fault.left

-- ---- what a function of the code gives

-- it stopped where the reader does, or memory ran out
abbrev pub Stops : {W Y : Type 0} → Stop W → Result Y (Fault W) → Type 0
Stops stops.NoMemory read = Unit {0}
Stops (stops.Fault f) read = read ≡ Err f

-- The result, seen by view, is what the reader gives, unless memory ran out.
abbrev pub GivesBy : {W X Y : Type 0} → (X → Y) → Result X (Stop W) → Result Y (Fault W) → Type 0
GivesBy view (Ok x) read = read ≡ Ok (view x)
GivesBy view (Err stop) read = Stops stop read

-- The same of a value by itself.
abbrev pub Gives : {W X : Type 0} → Result X (Stop W) → Result X (Fault W) → Type 0
Gives result read = GivesBy (λ x. x) result read

-- The same of a value and the bytes after it.
abbrev pub Reads : {W A : Type 0} → Result (A × Bor (List ℕ)) (Stop W) → Result (A × List ℕ) (Fault W) → Type 0
Reads result read = GivesBy (λ x. (x.0, x.1.now)) result read

-- The same of a run of bytes and the bytes after it.
abbrev pub ReadsBytes : {W A : Type 0} → Result (Bor A × Bor (List ℕ)) (Stop W) → Result (A × List ℕ) (Fault W) → Type 0
ReadsBytes result read = GivesBy (λ x. (x.0.now, x.1.now)) result read

-- ---- numbers and runs of bytes; `short` is the reason where the bytes end too soon

-- a number in this many bytes, the highest first
abbrev pub number_at : {W : Type 0} → W → ℕ → Reader W ℕ
number_at short size bytes = if nat_lt (length bytes) size then Err (fault_at bytes short) else Ok (big_number size bytes, drop size bytes)

-- that many bytes
abbrev pub bytes_at : {W : Type 0} → W → ℕ → Reader W (List ℕ)
bytes_at short count bytes = if nat_lt (length bytes) count then Err (fault_at bytes short) else Ok (take count bytes, drop count bytes)

-- ---- ways to make a reader of readers

-- the value that f makes of the one that is read
abbrev pub map_value : {W A B : Type 0} → (A → B) → Reader W A → Reader W B
map_value f reader bytes = do
  x ← reader bytes
  Ok (f x.0, x.1)

-- a number of this width with a sign
abbrev pub signed_at : {W : Type 0} → W → Width → Reader W ℤ
signed_at short width bytes = map_value (cast_signed width) (number_at short (byte_len width)) bytes

-- one value and then another
abbrev pub both : {W A B : Type 0} → Reader W A → Reader W B → Reader W (A × B)
both first second bytes = do
  x ← first bytes
  y ← second x.1
  Ok ((x.0, y.0), y.1)

-- a value that passes the test; one that fails it is wrong where it begins
abbrev pub verify : {W A : Type 0} → (A → Bool) → W → Reader W A → Reader W A
verify test why reader bytes = do
  x ← reader bytes
  if test x.0 then Ok x else Err (fault_at bytes why)

-- a number in this many bytes, and what it is the count of
abbrev pub count_then : {W A : Type 0} → W → ℕ → (ℕ → Reader W A) → Reader W A
count_then short size reader bytes = do
  n ← number_at short size bytes
  reader n.0 n.1

-- That many values. How one is read depends on a state, which each value changes, and on how many follow it.
abbrev pub list_by : {W S A : Type 0} → (S → ℕ → Reader W A) → (S → A → S) → S → ℕ → Reader W (List A)
list_by step next state zero bytes = Ok ([], bytes)
list_by step next state (suc n) bytes = do
  first ← step state n bytes
  others ← list_by step next (next state first.0) n first.1
  Ok (first.0 ∷ others.0, others.1)

abbrev pub keep : {A : Type 0} → Unit {0} → A → Unit {0}
keep state x = state

-- that many values, each read alike
abbrev pub many : {W A : Type 0} → Reader W A → ℕ → Reader W (List A)
many reader n bytes = list_by (λ (state : Unit {0}) (more : ℕ). reader) keep tt n bytes
