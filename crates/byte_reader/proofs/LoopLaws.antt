-- Reading items one after the other, as a loop does.
use Rattle.std.proofs.Common.{◌≡◌, ℕ, suc, ◌-◌, ◌+◌, ◌≤◌, ◌<◌, List, [], ◌∷◌, ◌++◌, Result, Ok, Err, refl, sym, ap, ◌∙◌, append_assoc, arith}
use Rattle.std.proofs.lemmas.List.{append-nil}
use Rattle.byte_reader.specs.declared.fault.Fault.{Fault}
use Rattle.byte_reader.specs.declared.fault.Stop.{Stop}
use Rattle.byte_reader.specs.declared.fault.Stop.TheVariants as stops
use Rattle.byte_reader.specs.Reader.{◌>>=◌, Reader, Stops, list_by}

-- what was read before, and what is still read
abbrev pub with_front : {W A : Type 0} → List A → Result (List A × List ℕ) (Fault W) → Result (List A × List ℕ) (Fault W)
with_front front read = read >>= λ more. Ok (front ++ more.0, more.1)

-- Where these items were read, so many more are to be read, and in all reading gives `total`.
pub record ReadsOn {W S A : Type 0} (step : S → ℕ → Reader W A) (next : S → A → S) (front : List A) (state : S) (left : ℕ) (bytes : List ℕ) (total : Result (List A × List ℕ) (Fault W)) : Type 0 where
  pub gives : with_front front (list_by step next state left bytes) ≡ total

front-none : {W A : Type 0} (read : Result (List A × List ℕ) (Fault W)) → with_front [] read ≡ read
front-none (Ok more) = refl
front-none (Err f) = refl

regroup : {W A : Type 0} (front : List A) (x : A) (read : Result (List A × List ℕ) (Fault W)) → with_front front (read >>= λ more. Ok (x ∷ more.0, more.1)) ≡ with_front (front ++ x ∷ []) read
regroup front x (Ok more) = ap (λ xs. Ok (xs, more.1)) (sym (append_assoc front (x ∷ []) more.0))
regroup front x (Err f) = refl

pub begins_behind : {W S A : Type 0} (front : List A) (step : S → ℕ → Reader W A) (next : S → A → S) (state : S) (count : ℕ) (bytes : List ℕ) → ReadsOn step next front state (count - 0) bytes (with_front front (list_by step next state count bytes))
begins_behind front step next state count bytes =
    let all : count - 0 ≡ count = omega arith in
    rw all (record { gives = refl })

pub begins : {W S A : Type 0} (step : S → ℕ → Reader W A) (next : S → A → S) (state : S) (count : ℕ) (bytes : List ℕ) → ReadsOn step next [] state (count - 0) bytes (list_by step next state count bytes)
begins step next state count bytes = rw front-none at (begins_behind [] step next state count bytes)

pub goes_on : {W S A : Type 0} {step : S → ℕ → Reader W A} {next : S → A → S} {front : List A} {state : S} {bytes : List ℕ} {total : Result (List A × List ℕ) (Fault W)} (count i : ℕ) (x : A) (behind : List ℕ) → i < count
    → ReadsOn step next front state (count - i) bytes total → step state (count - (i + 1)) bytes ≡ Ok (x, behind) → ReadsOn step next (front ++ x ∷ []) (next state x) (count - (i + 1)) behind total
goes_on {step = step} {next = next} {front = front} {state = state} {bytes = bytes} count i x behind lt so_far h =
    let k : count - i ≡ suc (count - (i + 1)) = omega arith in
    let one : with_front front (list_by step next state (count - i) bytes) ≡ with_front (front ++ x ∷ []) (list_by step next (next state x) (count - (i + 1)) behind) =
    rw (k, h) (regroup front x (list_by step next (next state x) (count - (i + 1)) behind)) in
    record { gives = sym one ∙ so_far.gives }

pub stops_at : {W S A : Type 0} {step : S → ℕ → Reader W A} {next : S → A → S} {front : List A} {state : S} {bytes : List ℕ} {total : Result (List A × List ℕ) (Fault W)} (count i : ℕ) (e : Stop W) → i < count
    → ReadsOn step next front state (count - i) bytes total → Stops e (step state (count - (i + 1)) bytes) → Stops e total
stops_at count i stops.NoMemory lt so_far h = tt
stops_at {step = step} {next = next} {front = front} {state = state} {bytes = bytes} count i (stops.Fault f) lt so_far h =
    let k : count - i ≡ suc (count - (i + 1)) = omega arith in
    let one : with_front front (list_by step next state (count - i) bytes) ≡ Err f = rw (k, h) refl in
    sym so_far.gives ∙ one

pub is_done : {W S A : Type 0} {step : S → ℕ → Reader W A} {next : S → A → S} {front : List A} {state : S} {bytes : List ℕ} {total : Result (List A × List ℕ) (Fault W)} (count i : ℕ) → count ≤ i
    → ReadsOn step next front state (count - i) bytes total → total ≡ Ok (front, bytes)
is_done {A = A} {step = step} {next = next} {front = front} {state = state} {bytes = bytes} count i le so_far =
    let k : count - i ≡ 0 = omega arith in
    let one : with_front front (list_by step next state (count - i) bytes) ≡ Ok (front, bytes) = rw k (ap (λ (xs : List A). Ok (xs, bytes)) (append-nil front)) in
    sym so_far.gives ∙ one
