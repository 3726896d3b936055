-- So many steps, one after the other, as a loop makes them.
use Rattle.std.proofs.Common.{◌≡◌, ℕ, suc, ◌-◌, ◌+◌, ◌≤◌, ◌<◌, List, Option, Some, None, refl, sym, ◌∙◌, arith}
use Rattle.asm_text.specs.declared.error.LineError.{LineError}
use Rattle.asm_text.specs.declared.error.LineError.TheVariants as line_errors
use Rattle.asm_listing.specs.Numbers.{StepOn, repeat, Stops}

-- Some steps have been made, and so many are left.
pub record GoesOnBy {S : Type 0} (step : StepOn S) (s : S) (left : ℕ) (bytes : List ℕ) (all : Option (S × List ℕ)) : Type 0 where
  pub gives : repeat step left s bytes ≡ all

pub begins : {S : Type 0} (step : StepOn S) (s : S) (count : ℕ) (bytes : List ℕ) → GoesOnBy step s (count - 0) bytes (repeat step count s bytes)
begins step s count bytes =
    let all : count - 0 ≡ count = omega arith in
    rw all (record { gives = refl })

pub goes_on : {S : Type 0} (step : StepOn S) (s t : S) (count i : ℕ) (bytes rest : List ℕ) (all : Option (S × List ℕ)) → i < count
    → GoesOnBy step s (count - i) bytes all → step s bytes ≡ Some (t, rest) → GoesOnBy step t (count - (i + 1)) rest all
goes_on step s t count i bytes rest all lt so_far h =
    let k : count - i ≡ suc (count - (i + 1)) = omega arith in
    let one : repeat step (count - i) s bytes ≡ repeat step (count - (i + 1)) t rest = rw (k, h) refl in
    record { gives = sym one ∙ so_far.gives }

pub stops : {S : Type 0} (step : StepOn S) (s : S) (count i : ℕ) (bytes : List ℕ) (all : Option (S × List ℕ)) → i < count
    → GoesOnBy step s (count - i) bytes all → step s bytes ≡ None → all ≡ None
stops step s count i bytes all lt so_far h =
    let k : count - i ≡ suc (count - (i + 1)) = omega arith in
    let one : repeat step (count - i) s bytes ≡ None = rw (k, h) refl in
    sym so_far.gives ∙ one

pub is_done : {S : Type 0} (step : StepOn S) (s : S) (count i : ℕ) (bytes : List ℕ) (all : Option (S × List ℕ)) → count ≤ i
    → GoesOnBy step s (count - i) bytes all → all ≡ Some (s, bytes)
is_done step s count i bytes all le so_far =
    let k : count - i ≡ 0 = omega arith in
    let one : repeat step (count - i) s bytes ≡ Some (s, bytes) = rw k refl in
    sym so_far.gives ∙ one

-- a step that stops ends the loop
pub stops_with : {S : Type 0} (e : LineError) (step : StepOn S) (s : S) (count i : ℕ) (bytes : List ℕ) (all : Option (S × List ℕ)) → i < count
    → GoesOnBy step s (count - i) bytes all → Stops e (step s bytes) → Stops e all
stops_with line_errors.Bad step s count i bytes all lt so_far h = stops step s count i bytes all lt so_far h
stops_with line_errors.NoMemory step s count i bytes all lt so_far h = tt
