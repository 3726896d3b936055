-- A number is read from just its decimal digits.
use Rattle.std.proofs.Common.{◌≡◌, ◌≢◌, ℕ, ◌+◌, ◌-◌, ◌*◌, ◌/◌, ◌%◌, ◌^◌, ◌<◌, ◌≤◌, true, false, cond, List, [], ◌∷◌, ◌++◌, Some, None, refl, sym, ap, subst, ◌∙◌, append_assoc, arith, inl, inr, eqb, leb}
use Rattle.std.specs.Prelude.{decimal}
use Rattle.std.proofs.lemmas.Bool.{leb-true, le-leb, eqb-true, eqb-false}
use Rattle.std.proofs.lemmas.Bool.Decides.{nat_tests}
use Rattle.std.proofs.lemmas.Fmt.{decimal_digit, decimal_step, decimal_by_steps}
use Rattle.items.specs.Options.{◌>>=◌}
use Rattle.history.specs.Parsing.{is_digit, with_digit, digits_from, number_at}
use Rattle.items.proofs.Binds.{some_is}
use Rattle.history.proofs.Tests.{bool_cases, cond_some, some, some_same}

digit_range : (b : ℕ) → is_digit b ≡ true → (48 ≤ b) × (b ≤ 57)
digit_range b h = grind (arith, nat_tests)

digit_test : (b : ℕ) → 48 ≤ b → b ≤ 57 → is_digit b ≡ true
digit_test b low high = let p : leb 48 b ≡ true = le-leb _ _ low in let q : leb b 57 ≡ true = le-leb _ _ high in rw (p, q) refl

-- one more digit at the end
digit_added : (n b : ℕ) → 0 < n → 48 ≤ b → b ≤ 57 → n * 10 + (b - 48) < 2 ^ 64 → decimal (n * 10 + (b - 48)) ≡ decimal n ++ (b ∷ [])
digit_added n b some low high big =
    let front : (n * 10 + (b - 48)) / 10 ≡ n = omega arith in
    let last : 48 + (n * 10 + (b - 48)) % 10 ≡ b = omega arith in
    decimal_step (n * 10 + (b - 48)) (omega arith) big ∙ rw (front, last) refl

with_digit_is : (most n b x : ℕ) → with_digit most n b ≡ Some x → (x ≡ n * 10 + (b - 48)) × (x ≤ most)
with_digit_is most n b x e =
    let t = cond_some (leb (n * 10 + (b - 48)) most) (Some (n * 10 + (b - 48))) x e in
    let same : n * 10 + (b - 48) ≡ x = some_same _ _ t.1 in
    (sym same, subst (λ (k : ℕ). k ≤ most) same (leb-true _ _ t.0))

digits_take : (most n : ℕ) (bytes : List ℕ) (x : ℕ × List ℕ) → most < 2 ^ 64 → 0 < n → n ≤ most → digits_from most n bytes ≡ Some x
    → (decimal n ++ bytes ≡ decimal x.0 ++ x.1) × (x.0 ≤ most)
digits_take most n [] x big more low e =
    subst (λ (y : ℕ × List ℕ). (decimal n ++ [] ≡ decimal y.0 ++ y.1) × (y.0 ≤ most)) (some_same (n, []) x e) (refl, low)
digits_take most n (b ∷ bytes) x big more low e =
    elim (bool_cases (is_digit b)) [
      | inl h ↦
          let f : (with_digit most n b >>= λ next. digits_from most next bytes) ≡ Some x = rw h at e in
          let step = some_is (with_digit most n b) (λ next. digits_from most next bytes) x f in
          let next = with_digit_is most n b step.0 step.1 in
          let range = digit_range b h in
          let rest = digits_take most step.0 bytes x big (omega (arith, next.0)) next.1 step.2 in
          let bound : n * 10 + (b - 48) < 2 ^ 64 = omega (arith, next.0, next.1) in
          let added : decimal step.0 ≡ decimal n ++ (b ∷ []) = ap decimal next.0 ∙ digit_added n b more range.0 range.1 bound in
          (sym (append_assoc (decimal n) (b ∷ []) bytes) ∙ ap (λ (t : List ℕ). t ++ bytes) (sym added) ∙ rest.0, rest.1)
      | inr h ↦
          let f : some (n, b ∷ bytes) ≡ Some x = rw h at e in
          subst (λ (y : ℕ × List ℕ). (decimal n ++ (b ∷ bytes) ≡ decimal y.0 ++ y.1) × (y.0 ≤ most)) (some_same (n, b ∷ bytes) x f) (refl, low)
    ]

-- what is read is the decimal of a number that is small enough
pub number_takes : (most : ℕ) (bytes : List ℕ) (x : ℕ × List ℕ) → most < 2 ^ 64 → number_at most bytes ≡ Some x → (bytes ≡ decimal x.0 ++ x.1) × (x.0 ≤ most)
number_takes most [] x big e = absurd cc
number_takes most (b ∷ bytes) x big e =
    elim (bool_cases (eqb b 48)) [
      | inl zero ↦
          let f : some (0, bytes) ≡ Some x = rw zero at e in
          let front : (b ∷ bytes) ≡ decimal 0 ++ bytes = rw (decimal_digit 0 (omega arith), eqb-true _ _ zero) refl in
          subst (λ (y : ℕ × List ℕ). ((b ∷ bytes) ≡ decimal y.0 ++ y.1) × (y.0 ≤ most)) (some_same (0, bytes) x f) (front, omega arith)
      | inr other ↦
          let f : cond (is_digit b) (digits_from most 0 (b ∷ bytes)) None ≡ Some x = rw other at e in
          let t = cond_some (is_digit b) (digits_from most 0 (b ∷ bytes)) x f in
          let range = digit_range b t.0 in
          let g : (with_digit most 0 b >>= λ next. digits_from most next bytes) ≡ Some x = rw t.0 at t.1 in
          let step = some_is (with_digit most 0 b) (λ next. digits_from most next bytes) x g in
          let next = with_digit_is most 0 b step.0 step.1 in
          let not_zero : b ≢ 48 = eqb-false _ _ other in
          let first : 48 + step.0 ≡ b = omega (arith, next.0) in
          let rest = digits_take most step.0 bytes x big (omega (arith, next.0)) next.1 step.2 in
          let front : decimal step.0 ≡ b ∷ [] = decimal_digit step.0 (omega (arith, next.0)) ∙ ap (λ (c : ℕ). c ∷ []) first in
          (ap (λ (t : List ℕ). t ++ bytes) (sym front) ∙ rest.0, rest.1)
    ]

-- reading the digits of a number leads on with the number
digits_again : (most n : ℕ) → n < 2 ^ 64 → 0 < n → n ≤ most → (rest : List ℕ) → number_at most (decimal n ++ rest) ≡ digits_from most n rest
digits_again most n big = decimal_by_steps (λ m ds. 0 < m → m ≤ most → (rest : List ℕ) → number_at most (ds ++ rest) ≡ digits_from most m rest) one more n big
  where
    one : (m : ℕ) → m < 10 → 0 < m → m ≤ most → (rest : List ℕ) → number_at most ((48 + m) ∷ rest) ≡ digits_from most m rest
    one m small positive low rest =
        let other : eqb (48 + m) 48 ≡ false = grind (arith, nat_tests) in
        let digit : is_digit (48 + m) ≡ true = digit_test (48 + m) (omega arith) (omega arith) in
        let value : 0 * 10 + (48 + m - 48) ≡ m = omega arith in
        let fits : leb m most ≡ true = le-leb _ _ low in
        rw (other, digit, value, fits) refl

    more : (m : ℕ) (ds : List ℕ) → 10 ≤ m → (0 < m / 10 → m / 10 ≤ most → (rest : List ℕ) → number_at most (ds ++ rest) ≡ digits_from most (m / 10) rest)
        → 0 < m → m ≤ most → (rest : List ℕ) → number_at most ((ds ++ ((48 + m % 10) ∷ [])) ++ rest) ≡ digits_from most m rest
    more m ds large before positive low rest =
        let digit : is_digit (48 + m % 10) ≡ true = digit_test (48 + m % 10) (omega arith) (omega arith) in
        let value : m / 10 * 10 + (48 + m % 10 - 48) ≡ m = omega arith in
        let fits : leb m most ≡ true = le-leb _ _ low in
        ap (number_at most) (append_assoc ds ((48 + m % 10) ∷ []) rest) ∙ before (omega arith) (omega arith) ((48 + m % 10) ∷ rest)
        ∙ rw (digit, value, fits) refl

-- bytes that don't go on with a number
abbrev pub Stops : List ℕ → Type 0
Stops [] = Unit {0}
Stops (b ∷ bytes) = is_digit b ≡ false

digits_stop : (most n : ℕ) (rest : List ℕ) → Stops rest → digits_from most n rest ≡ Some (n, rest)
digits_stop most n [] stop = refl
digits_stop most n (b ∷ rest) stop = rw stop refl

-- and each is read again
pub number_again : (most n : ℕ) (rest : List ℕ) → most < 2 ^ 64 → n ≤ most → Stops rest → number_at most (decimal n ++ rest) ≡ Some (n, rest)
number_again most n rest big low stop =
    elim (bool_cases (eqb n 0)) [
      | inl zero ↦
          let is : n ≡ 0 = eqb-true _ _ zero in
          subst (λ (k : ℕ). number_at most (decimal k ++ rest) ≡ Some (k, rest)) (sym is)
          (ap (λ (t : List ℕ). number_at most (t ++ rest)) (decimal_digit 0 (omega arith)))
      | inr other ↦
          let not_zero : n ≢ 0 = eqb-false _ _ other in
          digits_again most n (omega arith) (omega arith) low rest ∙ digits_stop most n rest stop
    ]
