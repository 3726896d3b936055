-- A number is read from just its decimal digits.
use Rattle.std.proofs.Common.{◌≡◌, ◌≢◌, ℕ, suc, ◌+◌, ◌-◌, ◌*◌, ◌/◌, ◌%◌, ◌^◌, ◌<◌, ◌≤◌, ℤ, pos, negsuc, true, false, List, [], ◌∷◌, ◌++◌, Some, refl, sym, ap, subst, ◌∙◌, append_assoc, append-nil, arith, inl, inr, eqb, leb}
use mir.Val.{hbits}
use Rattle.std.specs.Prelude.{decimal, FitsSigned}
use Rattle.std.specs.Int.{Width}
use Rattle.std.specs.Fmt.{signed_decimal}
use Rattle.std.proofs.lemmas.Bool.{leb-true, le-leb, eqb-true, eqb-false}
use Rattle.std.proofs.lemmas.Bool.Decides.{nat_tests}
use Rattle.std.proofs.lemmas.Fmt.{decimal_digit, decimal_step, decimal_by_steps}
use Rattle.items.specs.Options.{◌>>=◌}
use Rattle.items.proofs.Binds.{some_is, bind_is}
use Rattle.asm_text.specs.Numbers.{is_digit, with_digit, digits_from, number_of, negative, int_of}
use Rattle.asm_text.proofs.Tests.{bool_cases, cond_some, cond_none, some, some_same}

digit_range : (b : ℕ) → is_digit b ≡ true → (48 ≤ b) × (b ≤ 57)
digit_range b h = grind (arith, nat_tests)

digit_test : (b : ℕ) → 48 ≤ b → b ≤ 57 → is_digit b ≡ true
digit_test b low high = let p : leb 48 b ≡ true = le-leb _ _ low in let q : leb b 57 ≡ true = le-leb _ _ high in rw (p, q) refl

-- one more digit at the end
digit_added : (n b : ℕ) → 0 < n → 48 ≤ b → b ≤ 57 → n * 10 + (b - 48) < 2 ^ 64 → decimal (n * 10 + (b - 48)) ≡ decimal n ++ (b ∷ [])
digit_added n b some low high big =
    let front : (n * 10 + (b - 48)) / 10 ≡ n = omega arith in
    let last : 48 + (n * 10 + (b - 48)) % 10 ≡ b = omega arith in
    decimal_step (n * 10 + (b - 48)) (omega arith) big ∙ rw (front, last) refl

with_digit_is : (most n b x : ℕ) → with_digit most n b ≡ Some x → (x ≡ n * 10 + (b - 48)) × (x ≤ most)
with_digit_is most n b x e =
    let t = cond_some (leb (n * 10 + (b - 48)) most) (Some (n * 10 + (b - 48))) x e in
    let same : n * 10 + (b - 48) ≡ x = some_same _ _ t.1 in
    (sym same, subst (λ (k : ℕ). k ≤ most) same (leb-true _ _ t.0))

digits_take : (most n : ℕ) (bytes : List ℕ) (x : ℕ) → most < 2 ^ 64 → 0 < n → n ≤ most → digits_from most n bytes ≡ Some x
    → (decimal n ++ bytes ≡ decimal x) × (x ≤ most)
digits_take most n [] x big more low e =
    let same : n ≡ x = some_same _ _ e in
    (append-nil (decimal n) ∙ ap decimal same, subst (λ (k : ℕ). k ≤ most) same low)
digits_take most n (b ∷ bytes) x big more low e =
    let t = cond_some (is_digit b) (with_digit most n b >>= λ next. digits_from most next bytes) x e in
    let step = some_is (with_digit most n b) (λ next. digits_from most next bytes) x t.1 in
    let next = with_digit_is most n b step.0 step.1 in
    let range = digit_range b t.0 in
    let rest = digits_take most step.0 bytes x big (omega (arith, next.0)) next.1 step.2 in
    let bound : n * 10 + (b - 48) < 2 ^ 64 = omega (arith, next.0, next.1) in
    let added : decimal step.0 ≡ decimal n ++ (b ∷ []) = ap decimal next.0 ∙ digit_added n b more range.0 range.1 bound in
    (sym (append_assoc (decimal n) (b ∷ []) bytes) ∙ ap (λ (t : List ℕ). t ++ bytes) (sym added) ∙ rest.0, rest.1)

-- a single digit
one_digit : (most b x : ℕ) → digits_from most 0 (b ∷ []) ≡ Some x → (decimal x ≡ b ∷ []) × (x ≤ most)
one_digit most b x e =
    let t = cond_some (is_digit b) (with_digit most 0 b >>= λ next. digits_from most next []) x e in
    let step = some_is (with_digit most 0 b) (λ next. digits_from most next []) x t.1 in
    let next = with_digit_is most 0 b step.0 step.1 in
    let range = digit_range b t.0 in
    let same : step.0 ≡ x = some_same _ _ step.2 in
    let first : 48 + x ≡ b = omega (arith, next.0, same) in
    (decimal_digit x (omega (arith, first)) ∙ ap (λ (c : ℕ). c ∷ []) first, subst (λ (k : ℕ). k ≤ most) same next.1)

more_digits : (most b c x : ℕ) (bytes : List ℕ) → most < 2 ^ 64 → b ≢ 48 → digits_from most 0 (b ∷ c ∷ bytes) ≡ Some x → (decimal x ≡ b ∷ c ∷ bytes) × (x ≤ most)
more_digits most b c x bytes big not_zero e =
    let t = cond_some (is_digit b) (with_digit most 0 b >>= λ next. digits_from most next (c ∷ bytes)) x e in
    let step = some_is (with_digit most 0 b) (λ next. digits_from most next (c ∷ bytes)) x t.1 in
    let next = with_digit_is most 0 b step.0 step.1 in
    let range = digit_range b t.0 in
    let first : 48 + step.0 ≡ b = omega (arith, next.0) in
    let rest = digits_take most step.0 (c ∷ bytes) x big (omega (arith, next.0)) next.1 step.2 in
    let front : decimal step.0 ≡ b ∷ [] = decimal_digit step.0 (omega (arith, next.0)) ∙ ap (λ (d : ℕ). d ∷ []) first in
    (sym rest.0 ∙ ap (λ (t : List ℕ). t ++ (c ∷ bytes)) front, rest.1)

-- what is read is the decimal of a number that is small enough
pub number_takes : (most : ℕ) (w : List ℕ) (x : ℕ) → most < 2 ^ 64 → number_of most w ≡ Some x → (w ≡ decimal x) × (x ≤ most)
number_takes most [] x big e = absurd cc
number_takes most (b ∷ []) x big e = let t = one_digit most b x e in (sym t.0, t.1)
number_takes most (b ∷ c ∷ bytes) x big e =
    let t = cond_none (eqb b 48) (digits_from most 0 (b ∷ c ∷ bytes)) x e in
    let r = more_digits most b c x bytes big (eqb-false _ _ t.0) t.1 in
    (sym r.0, r.1)

-- ---- and each is read again

-- reading the digits of a number leads on with the number
digits_again : (most n : ℕ) → n < 2 ^ 64 → 0 < n → n ≤ most → (rest : List ℕ) → digits_from most 0 (decimal n ++ rest) ≡ digits_from most n rest
digits_again most n big = decimal_by_steps (λ m ds. 0 < m → m ≤ most → (rest : List ℕ) → digits_from most 0 (ds ++ rest) ≡ digits_from most m rest) one more n big
  where
    one : (m : ℕ) → m < 10 → 0 < m → m ≤ most → (rest : List ℕ) → digits_from most 0 ((48 + m) ∷ rest) ≡ digits_from most m rest
    one m small positive low rest =
        let digit : is_digit (48 + m) ≡ true = digit_test (48 + m) (omega arith) (omega arith) in
        let value : 0 * 10 + (48 + m - 48) ≡ m = omega arith in
        let fits : leb m most ≡ true = le-leb _ _ low in
        rw (digit, value, fits) refl

    more : (m : ℕ) (ds : List ℕ) → 10 ≤ m → (0 < m / 10 → m / 10 ≤ most → (rest : List ℕ) → digits_from most 0 (ds ++ rest) ≡ digits_from most (m / 10) rest)
        → 0 < m → m ≤ most → (rest : List ℕ) → digits_from most 0 ((ds ++ ((48 + m % 10) ∷ [])) ++ rest) ≡ digits_from most m rest
    more m ds large before positive low rest =
        let digit : is_digit (48 + m % 10) ≡ true = digit_test (48 + m % 10) (omega arith) (omega arith) in
        let value : m / 10 * 10 + (48 + m % 10 - 48) ≡ m = omega arith in
        let fits : leb m most ≡ true = le-leb _ _ low in
        ap (digits_from most 0) (append_assoc ds ((48 + m % 10) ∷ []) rest) ∙ before (omega arith) (omega arith) ((48 + m % 10) ∷ rest)
        ∙ rw (digit, value, fits) refl

-- the first digit of a number that isn't zero is no zero
abbrev FirstIsNoZero : List ℕ → Type 0
FirstIsNoZero [] = ⊥
FirstIsNoZero (b ∷ bs) = (b ≡ 48 → ⊥) × (b ≡ 45 → ⊥) × (b ≤ 57) × (48 ≤ b)

first_stays : (ds rest : List ℕ) → FirstIsNoZero ds → FirstIsNoZero (ds ++ rest)
first_stays [] rest h = absurd h
first_stays (b ∷ ds) rest h = h

first_digit : (n : ℕ) → n < 2 ^ 64 → 0 < n → FirstIsNoZero (decimal n)
first_digit n big = decimal_by_steps (λ m ds. 0 < m → FirstIsNoZero ds) (λ m small more. (λ e. absurd (omega arith), λ e. absurd (omega arith), omega arith, omega arith)) (λ m ds large before more. first_stays ds ((48 + m % 10) ∷ []) (before (omega arith))) n big

number_by_digits : (most : ℕ) (ds : List ℕ) → FirstIsNoZero ds → number_of most ds ≡ digits_from most 0 ds
number_by_digits most [] h = absurd h
number_by_digits most (b ∷ []) h = refl
number_by_digits most (b ∷ c ∷ ds) h = let other : eqb b 48 ≡ false = grind (arith, nat_tests) in rw other refl

pub number_again : (most n : ℕ) → most < 2 ^ 64 → n ≤ most → number_of most (decimal n) ≡ Some n
number_again most n big low =
    elim (bool_cases (eqb n 0)) [
      | inl zero ↦
          let is : n ≡ 0 = eqb-true _ _ zero in
          let fits : leb 0 most ≡ true = le-leb _ _ (omega arith) in
          subst (λ (k : ℕ). number_of most (decimal k) ≡ Some k) (sym is) (ap (number_of most) (decimal_digit 0 (omega arith)) ∙ rw fits refl)
      | inr other ↦
          let not_zero : n ≢ 0 = eqb-false _ _ other in
          number_by_digits most (decimal n) (first_digit n (omega arith) (omega arith))
          ∙ ap (digits_from most 0) (sym (append-nil (decimal n))) ∙ digits_again most n (omega arith) (omega arith) low []
    ]

-- ---- numbers with a sign

-- from -most - 1 to most
abbrev pub IsInt : ℕ → ℤ → Type 0
IsInt most (pos n) = n ≤ most
IsInt most (negsuc n) = n ≤ most

negative_takes : (n : ℕ) (z : ℤ) (most : ℕ) → n ≤ most + 1 → negative n ≡ Some z → (45 ∷ decimal n ≡ signed_decimal z) × IsInt most z
negative_takes n z most low e =
    let t = cond_none (eqb n 0) (Some (negsuc (n - 1))) z e in
    let same : negsuc (n - 1) ≡ z = some_same _ _ t.1 in
    let not_zero : n ≢ 0 = eqb-false _ _ t.0 in
    let again : suc (n - 1) ≡ n = omega arith in
    (ap (λ (k : ℕ). 45 ∷ decimal k) (sym again) ∙ ap signed_decimal same, subst (IsInt most) same (omega arith))

pub int_takes : (most : ℕ) (w : List ℕ) (z : ℤ) → most + 1 < 2 ^ 64 → int_of most w ≡ Some z → (w ≡ signed_decimal z) × IsInt most z
int_takes most [] z big e = absurd cc
int_takes most (b ∷ rest) z big e =
    elim (bool_cases (eqb b 45)) [
      | inl minus ↦
          let f : (number_of (most + 1) rest >>= λ n. negative n) ≡ Some z = rw minus at e in
          let s = some_is (number_of (most + 1) rest) (λ n. negative n) z f in
          let n = number_takes (most + 1) rest s.0 big s.1 in
          let r = negative_takes s.0 z most n.1 s.2 in
          let first : b ≡ 45 = eqb-true _ _ minus in
          ((λ i. first i ∷ n.0 i) ∙ r.0, r.1)
      | inr plain ↦
          let f : (number_of most (b ∷ rest) >>= λ n. Some (pos n)) ≡ Some z = rw plain at e in
          let s = some_is (number_of most (b ∷ rest)) (λ n. Some (pos n)) z f in
          let n = number_takes most (b ∷ rest) s.0 (omega arith) s.1 in
          let same : pos s.0 ≡ z = some_same _ _ s.2 in
          (n.0 ∙ ap signed_decimal same, subst (IsInt most) same n.1)
    ]

plain_by : (most : ℕ) (w : List ℕ) (n : ℕ) → number_of most w ≡ Some n → (b : ℕ) (bs : List ℕ) → w ≡ b ∷ bs → eqb b 45 ≡ false → int_of most w ≡ Some (pos n)
plain_by most w n e b bs is plain =
    let read : (number_of most (b ∷ bs) >>= λ n. Some (pos n)) ≡ Some (pos n) = bind_is (number_of most (b ∷ bs)) (λ n. Some (pos n)) n (Some (pos n)) (ap (number_of most) (sym is) ∙ e) refl in
    ap (int_of most) is ∙ rw plain read

-- what decimals begin with
abbrev IsPlain : List ℕ → Type 0
IsPlain [] = ⊥
IsPlain (b ∷ bs) = eqb b 45 ≡ false

plain_digits : (n : ℕ) → n < 2 ^ 64 → IsPlain (decimal n)
plain_digits n big = decimal_by_steps (λ m ds. IsPlain ds) (λ m small. let e : eqb (48 + m) 45 ≡ false = grind (arith, nat_tests) in e) (λ m ds large before. plain_stays ds ((48 + m % 10) ∷ []) before) n big
  where
    plain_stays : (ds rest : List ℕ) → IsPlain ds → IsPlain (ds ++ rest)
    plain_stays [] rest h = absurd h
    plain_stays (b ∷ ds) rest h = h

plain_again : (most : ℕ) (w : List ℕ) (n : ℕ) → IsPlain w → number_of most w ≡ Some n → int_of most w ≡ Some (pos n)
plain_again most [] n plain e = absurd plain
plain_again most (b ∷ bs) n plain e = plain_by most (b ∷ bs) n e b bs refl plain

pub int_again : (most : ℕ) (z : ℤ) → most + 1 < 2 ^ 64 → IsInt most z → int_of most (signed_decimal z) ≡ Some z
int_again most (pos n) big low = plain_again most (decimal n) n (plain_digits n (omega arith)) (number_again most n (omega arith) low)
int_again most (negsuc n) big low =
    let not_zero : eqb (suc n) 0 ≡ false = grind (arith, nat_tests) in
    let value : suc n - 1 ≡ n = omega arith in
    let bound : suc n ≤ most + 1 = omega arith in
    bind_is (number_of (most + 1) (decimal (suc n))) (λ k. negative k) (suc n) (Some (negsuc n)) (number_again (most + 1) (suc n) big bound) (rw not_zero (ap (λ (k : ℕ). some (negsuc k)) value))

-- ---- numbers of some widths

pub fits_of : (w : Width) (most : ℕ) (z : ℤ) → most < 2 ^ hbits w → IsInt most z → FitsSigned w z
fits_of w most (pos n) bound is = record { sfits = omega arith }
fits_of w most (negsuc n) bound is = record { sfits = omega arith }

pub int_of_fits : (w : Width) (most : ℕ) (z : ℤ) → 2 ^ hbits w ≤ most + 1 → FitsSigned w z → IsInt most z
int_of_fits w most (pos n) bound fits = omega (arith, fits.sfits)
int_of_fits w most (negsuc n) bound fits = omega (arith, fits.sfits)
