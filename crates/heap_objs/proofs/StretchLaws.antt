-- Stretches of a row: reads, writes and rows that grow.
use Rattle.std.proofs.Common.{ℕ, zero, suc, ◌≡◌, ◌+◌, ◌-◌, ◌<◌, ◌≤◌, List, [], ◌∷◌, ◌++◌, length, take, drop, Some, refl, ap, sym, ◌∙◌, arith, get_or}
use Rattle.std.proofs.lemmas.List.{drop-append-le, take-append-le, length-drop, drop-set-add, take-set-le, drop_at, take_all}
use Rattle.std.specs.Prelude.{slice_get, slice_set}

pub cons_is : {A : Type 0} {x y : A} {xs ys : List A} → x ≡ y → xs ≡ ys → x ∷ xs ≡ y ∷ ys
cons_is p q = λ i. p i ∷ q i

-- a row that has the stretches of another
pub record Grows {A : Type 0} (xs ys : List A) : Type 0 where
  pub same : (start len : ℕ) → start + len ≤ length xs → take len (drop start ys) ≡ take len (drop start xs)

pub grows_not : {A : Type 0} (xs : List A) → Grows xs xs
grows_not xs = record { same = λ start len h. refl }

pub grows_by : {A : Type 0} (xs more : List A) → Grows xs (xs ++ more)
grows_by xs more = record {
  same = λ start len h.
      let d = length-drop start xs in
      ap (take len) (drop-append-le start xs more (omega arith)) ∙ take-append-le len (drop start xs) more (omega arith);
}

-- what was added
pub added : {A : Type 0} (xs more : List A) (start len : ℕ) → length xs ≡ start → length more ≡ len → take len (drop start (xs ++ more)) ≡ more
added xs more start len at long = ap (take len) (drop_at xs more start at) ∙ take_all len more (omega arith)

pub get_taken : {A : Type 0} (len : ℕ) (xs : List A) (i : ℕ) → i < len → slice_get (take len xs) i ≡ slice_get xs i
get_taken zero xs i h = absurd (omega arith)
get_taken (suc len) [] i h = refl
get_taken (suc len) (x ∷ xs) zero h = refl
get_taken (suc len) (x ∷ xs) (suc i) h = get_taken len xs i (omega arith)

pub get_dropped : {A : Type 0} (start : ℕ) (xs : List A) (i at : ℕ) → at ≡ start + i → slice_get (drop start xs) i ≡ slice_get xs at
get_dropped zero xs i at e = let is : i ≡ at = omega arith in ap (slice_get xs) is
get_dropped (suc start) [] i at e = refl
get_dropped (suc start) (x ∷ xs) i zero e = absurd (omega arith)
get_dropped (suc start) (x ∷ xs) i (suc at) e = get_dropped start xs i at (omega arith)

pub get_read : {A : Type 0} (xs : List A) (i : ℕ) (x : A) → i < length xs → x ≡ get_or xs i x → slice_get xs i ≡ Some x
get_read [] i x h e = absurd (omega arith)
get_read (y ∷ ys) zero x h e = ap Some (sym e)
get_read (y ∷ ys) (suc i) x h e = get_read ys i x (omega arith) e

pub take_set : {A : Type 0} (len : ℕ) (xs : List A) (i : ℕ) (x : A) → take len (slice_set xs i x) ≡ slice_set (take len xs) i x
take_set zero xs i x = refl
take_set (suc len) [] i x = refl
take_set (suc len) (y ∷ ys) zero x = refl
take_set (suc len) (y ∷ ys) (suc i) x = cons_is refl (take_set len ys i x)

pub set_behind : {A : Type 0} (start len at : ℕ) (xs : List A) (x : A) → start + len ≤ at → take len (drop start (slice_set xs at x)) ≡ take len (drop start xs)
set_behind start len at xs x h =
    let is : at ≡ start + (at - start) = omega arith in
    ap (λ n. take len (drop start (slice_set xs n x))) is
    ∙ ap (take len) (drop-set-add start xs (at - start) x) ∙ take-set-le len (drop start xs) (at - start) x (omega arith)

pub set_inside : {A : Type 0} (start len i : ℕ) (xs : List A) (x : A) → take len (drop start (slice_set xs (start + i) x)) ≡ slice_set (take len (drop start xs)) i x
set_inside start len i xs x = ap (take len) (drop-set-add start xs i x) ∙ take_set len (drop start xs) i x
