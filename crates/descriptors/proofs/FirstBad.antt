-- The first bad unit of a text, and that it is one.
use Rattle.std.proofs.Common.{◌≡◌, ℕ, suc, ◌+◌, ◌<◌, ◌≤◌, List, ◌∷◌, ◌++◌, take, drop, sym, ap, subst, ◌∙◌, append_assoc, arith, inl, inr}
use Rattle.std.proofs.lemmas.Bool.{cases_lt}
use Rattle.std.proofs.lemmas.List.{take-append-drop, take-take}
use Rattle.std.proofs.Math.Nat.{eq-or-lt_of_le}
use Rattle.descriptors.specs.Refusal.{Begins, IsFirstBad}

-- with one unit more in front
pub first_bad_cons : (P Q : List ℕ → Type 0) (u : ℕ) (us : List ℕ) (k : ℕ) → ((t : List ℕ) → Q t → P (u ∷ t)) → ((t : List ℕ) → P (u ∷ t) → Q t) → IsFirstBad Q us k → IsFirstBad P (u ∷ us) (suc k)
first_bad_cons P Q u us k to from bad = record {
  inside = omega (arith, bad.inside);
  begins = (bad.begins.0, to (take k us ++ bad.begins.0) bad.begins.1);
  stops = λ lt b.
      let one : suc k + 1 ≡ suc (k + 1) = omega arith in
      let whole : P (u ∷ (take (k + 1) us ++ b.0)) = subst (λ (n : ℕ). P (take n (u ∷ us) ++ b.0)) one b.1 in
      bad.stops (omega (arith, lt)) (b.0, from (take (k + 1) us ++ b.0) whole);
  no_end = λ same p. bad.no_end (omega (arith, same)) (from us p);
}

-- of the same texts
pub first_bad_same : (P Q : List ℕ → Type 0) (us : List ℕ) (k : ℕ) → ((t : List ℕ) → P t → Q t) → ((t : List ℕ) → Q t → P t) → IsFirstBad P us k → IsFirstBad Q us k
first_bad_same P Q us k to from bad = record {
  inside = bad.inside;
  begins = (bad.begins.0, to _ bad.begins.1);
  stops = λ lt b. bad.stops lt (b.0, from _ b.1);
  no_end = λ same q. bad.no_end same (from us q);
}

-- what has a first bad unit isn't in P
pub no_member : (P : List ℕ → Type 0) (units : List ℕ) (at : ℕ) → IsFirstBad P units at → P units → ⊥
no_member P units at bad member =
    elim (eq-or-lt_of_le bad.inside) [
      | inl same ↦ bad.no_end same member
      | inr less ↦ bad.stops less (drop (at + 1) units, subst P (sym (take-append-drop (at + 1) units)) member)
    ]

shorter : (P : List ℕ → Type 0) (units : List ℕ) (a b : ℕ) → a ≤ b → Begins P (take b units) → Begins P (take a units)
shorter P units a b h begins =
    let parts : take a (take b units) ++ drop a (take b units) ≡ take b units = take-append-drop a (take b units) in
    let front : take a (take b units) ≡ take a units = take-take a b units h in (
      drop a (take b units) ++ begins.0,
      subst P (
          ap (λ (x : List ℕ). x ++ begins.0) (sym parts) ∙ append_assoc (take a (take b units)) (drop a (take b units)) begins.0
          ∙ ap (λ (x : List ℕ). x ++ (drop a (take b units) ++ begins.0)) front) begins.1,
    )

not_before : (P : List ℕ → Type 0) (units : List ℕ) (a b : ℕ) → IsFirstBad P units a → IsFirstBad P units b → a < b → ⊥
not_before P units a b bad_a bad_b less = bad_a.stops (omega (arith, less, bad_b.inside)) (shorter P units (a + 1) b (omega (arith, less)) bad_b.begins)

pub one_offset : (P : List ℕ → Type 0) (units : List ℕ) (a b : ℕ) → IsFirstBad P units a → IsFirstBad P units b → a ≡ b
one_offset P units a b bad_a bad_b =
    elim (cases_lt a b) [
      | inl less ↦ absurd (not_before P units a b bad_a bad_b less)
      | inr most ↦ elim (cases_lt b a) [
        | inl less ↦ absurd (not_before P units b a bad_b bad_a less)
        | inr least ↦ omega (arith, most, least)
      ]
    ]
