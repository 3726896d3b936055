-- Lists of which the first so many items were changed.
use Rattle.std.proofs.Common.{◌≡◌, ◌<◌, ◌≤◌, ℕ, zero, suc, List, [], ◌∷◌, length, Some, refl, ap, ◌∙◌, arith}
use Rattle.std.specs.Prelude.{map, slice_get, slice_set}

-- the first so many items are changed
abbrev pub changed : {A : Type 0} → (A → A) → ℕ → List A → List A
changed f zero xs = xs
changed f (suc n) [] = []
changed f (suc n) (x ∷ xs) = f x ∷ changed f n xs

pub none_changed : {A : Type 0} (f : A → A) (xs : List A) → changed f 0 xs ≡ xs
none_changed f xs = refl

pub all_changed : {A : Type 0} (f : A → A) (n : ℕ) (xs : List A) → length xs ≤ n → changed f n xs ≡ map f xs
all_changed f zero [] h = refl
all_changed f zero (x ∷ xs) h = absurd (omega arith)
all_changed f (suc n) [] h = refl
all_changed f (suc n) (x ∷ xs) h = ap (λ ys. f x ∷ ys) (all_changed f n xs (omega arith))

pub changed_length : {A : Type 0} (f : A → A) (n : ℕ) (xs : List A) → length (changed f n xs) ≡ length xs
changed_length f zero xs = refl
changed_length f (suc n) [] = refl
changed_length f (suc n) (x ∷ xs) = ap suc (changed_length f n xs)

-- the next one isn't changed yet
next_same : {A : Type 0} (f : A → A) (n : ℕ) (xs : List A) → slice_get (changed f n xs) n ≡ slice_get xs n
next_same f zero xs = refl
next_same f (suc n) [] = refl
next_same f (suc n) (x ∷ xs) = next_same f n xs

there : {A : Type 0} (xs : List A) (n : ℕ) → n < length xs → (x : A) × (slice_get xs n ≡ Some x)
there [] n h = absurd (omega arith)
there (x ∷ xs) zero h = (x, refl)
there (x ∷ xs) (suc n) h = there xs n (omega arith)

set_next : {A : Type 0} (f : A → A) (n : ℕ) (xs : List A) (x : A) → slice_get xs n ≡ Some x → slice_set (changed f n xs) n (f x) ≡ changed f (suc n) xs
set_next f zero [] x at = absurd cc
set_next f zero (y ∷ xs) x at = let same : x ≡ y = cc in ap (λ z. f z ∷ xs) same
set_next f (suc n) [] x at = absurd cc
set_next f (suc n) (y ∷ xs) x at = ap (λ ys. f y ∷ ys) (set_next f n xs x at)

-- one more is changed
pub change_next : {A : Type 0} (f : A → A) (n : ℕ) (xs now then : List A) → n < length xs → now ≡ changed f n xs
    → ((x : A) → slice_get now n ≡ Some x → then ≡ slice_set now n (f x)) → then ≡ changed f (suc n) xs
change_next f n xs now then h was step =
    let x = there xs n h in
    step x.0 (ap (λ ys. slice_get ys n) was ∙ next_same f n xs ∙ x.1) ∙ ap (λ ys. slice_set ys n (f x.0)) was ∙ set_next f n xs x.0 x.1
