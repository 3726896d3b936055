-- A unit has one spelling, and no spelling is the front of another.
use Rattle.std.proofs.Common.{◌≡◌, ℕ, zero, suc, ◌+◌, ◌-◌, ◌*◌, ◌^◌, ◌<◌, ◌≤◌, Bool, true, false, cond, List, [], ◌∷◌, ◌++◌, length, Option, Some, None, refl, sym, ap, subst, arith, ◌⊎◌, inl, inr, eqb, ltb}
use Rattle.std.specs.Int.{is_in_range}
use Rattle.std.specs.Prelude.{◌&&◌, ◌||◌}
use Rattle.std.proofs.lemmas.Bool.Decides.{nat_tests}
use Rattle.std.proofs.lemmas.Bool.{cases_lt}
use Rattle.std.proofs.lemmas.Option.{same_Some}
use Rattle.jvm_utf8.specs.Text.{unit}
use Rattle.jvm_utf8.specs.Units.{is_later, two_at, three_at, unit_at}

one_again : (u : ℕ) (rest : List ℕ) → 1 ≤ u → u ≤ 127 → unit_at (unit u ++ rest) ≡ Some (u, rest)
one_again u rest low high = grind (arith, nat_tests)

two_again : (u : ℕ) (rest : List ℕ) → 128 ≤ u → u ≤ 2047 → unit_at (unit u ++ rest) ≡ Some (u, rest)
two_again u rest low high = grind (arith, nat_tests)

three_again : (u : ℕ) (rest : List ℕ) → 2048 ≤ u → u < 2 ^ 16 → unit_at (unit u ++ rest) ≡ Some (u, rest)
three_again u rest low high = grind (arith, nat_tests)

-- a unit and the bytes after it
pub record Takes (bytes : List ℕ) (x : ℕ × List ℕ) : Type 0 where
  pub parts : bytes ≡ unit x.0 ++ x.1
  pub is_unit : x.0 < 2 ^ 16

chosen : {A : Type 0} (b : Bool) (x y z : Option A) → cond b x y ≡ z → ((b ≡ true) × (x ≡ z)) ⊎ ((b ≡ false) × (y ≡ z))
chosen true x y z e = inl (refl, e)
chosen false x y z e = inr (refl, e)

made : (bytes : List ℕ) (u : ℕ) (rest : List ℕ) (x : ℕ × List ℕ) → (let y : Option (ℕ × List ℕ) = Some (u, rest) in y ≡ Some x) → bytes ≡ unit u ++ rest → u < 2 ^ 16 → Takes bytes x
made bytes u rest x e parts fits = subst (λ (y : ℕ × List ℕ). Takes bytes y) (same_Some (u, rest) x e) (record { parts = parts; is_unit = fits })

one_unit : (u : ℕ) → is_in_range 1 127 u ≡ true → (unit u ≡ u ∷ []) × (u < 2 ^ 16)
one_unit u test = (grind (arith, nat_tests), grind (arith, nat_tests))

two_fit : (a b : ℕ) → is_in_range 192 223 a ≡ true → (let u = (a - 192) * 64 + (b - 128) in (is_later b && (eqb u 0 || ltb 127 u)) ≡ true → (unit u ≡ a ∷ b ∷ []) × (u < 2 ^ 16))
two_fit a b first test = (grind (arith, nat_tests), grind (arith, nat_tests))

three_fit : (a b c : ℕ) → is_in_range 224 239 a ≡ true → (let u = ((a - 224) * 64 + (b - 128)) * 64 + (c - 128) in (is_later b && is_later c && ltb 2047 u) ≡ true → (unit u ≡ a ∷ b ∷ c ∷ []) × (u < 2 ^ 16))
three_fit a b c first test = (grind (arith, nat_tests), grind (arith, nat_tests))

two_takes : (a : ℕ) (rest : List ℕ) (x : ℕ × List ℕ) → is_in_range 192 223 a ≡ true → two_at a rest ≡ Some x → Takes (a ∷ rest) x
two_takes a [] x first e = absurd cc
two_takes a (b ∷ rest) x first e =
    let u = (a - 192) * 64 + (b - 128) in
    elim (chosen (is_later b && (eqb u 0 || ltb 127 u)) (Some (u, rest)) None (Some x) e) [
      | inl p ↦ let f = two_fit a b first p.0 in made (a ∷ b ∷ rest) u rest x p.1 (sym (ap (λ (y : List ℕ). y ++ rest) f.0)) f.1
      | inr p ↦ absurd cc
    ]

three_takes : (a : ℕ) (rest : List ℕ) (x : ℕ × List ℕ) → is_in_range 224 239 a ≡ true → three_at a rest ≡ Some x → Takes (a ∷ rest) x
three_takes a [] x first e = absurd cc
three_takes a (b ∷ []) x first e = absurd cc
three_takes a (b ∷ c ∷ rest) x first e =
    let u = ((a - 224) * 64 + (b - 128)) * 64 + (c - 128) in
    elim (chosen (is_later b && is_later c && ltb 2047 u) (Some (u, rest)) None (Some x) e) [
      | inl p ↦ let f = three_fit a b c first p.0 in made (a ∷ b ∷ c ∷ rest) u rest x p.1 (sym (ap (λ (y : List ℕ). y ++ rest) f.0)) f.1
      | inr p ↦ absurd cc
    ]

-- the unit that is found at the front is there
pub unit_takes : (bytes : List ℕ) (x : ℕ × List ℕ) → unit_at bytes ≡ Some x → Takes bytes x
unit_takes [] x e = absurd cc
unit_takes (a ∷ rest) x e =
    elim (chosen (is_in_range 1 127 a) (Some (a, rest)) _ (Some x) e) [
      | inl p ↦ let f = one_unit a p.0 in made (a ∷ rest) a rest x p.1 (sym (ap (λ (y : List ℕ). y ++ rest) f.0)) f.1
      | inr p ↦ elim (chosen (is_in_range 192 223 a) (two_at a rest) _ (Some x) p.1) [
        | inl q ↦ two_takes a rest x q.0 q.1
        | inr q ↦ elim (chosen (is_in_range 224 239 a) (three_at a rest) None (Some x) q.1) [
          | inl r ↦ three_takes a rest x r.0 r.1
          | inr r ↦ absurd cc
        ]
      ]
    ]

-- the unit at the front is found there
pub unit_again : (u : ℕ) (rest : List ℕ) → u < 2 ^ 16 → unit_at (unit u ++ rest) ≡ Some (u, rest)
unit_again zero rest fit = refl
unit_again (suc n) rest fit =
    elim (cases_lt (suc n) 128) [
      | inl h ↦ one_again (suc n) rest (omega arith) (omega arith)
      | inr h ↦ elim (cases_lt (suc n) 2048) [
        | inl i ↦ two_again (suc n) rest h (omega arith)
        | inr i ↦ three_again (suc n) rest i fit
      ]
    ]

pub some_bytes : (u : ℕ) → 1 ≤ length (unit u)
some_bytes zero = omega arith
some_bytes (suc n) =
    elim (cases_lt (suc n) 128) [
      | inl h ↦ grind (arith, nat_tests)
      | inr h ↦ elim (cases_lt (suc n) 2048) [
        | inl i ↦ grind (arith, nat_tests)
        | inr i ↦ grind (arith, nat_tests)
      ]
    ]
