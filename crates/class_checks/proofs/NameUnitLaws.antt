-- Which units stand in a text, part by part.
use Rattle.std.proofs.Common.{◌≡◌, ℕ, zero, suc, ◌+◌, ◌≤◌, Bool, true, false, List, [], ◌∷◌, length, take, drop, refl, sym, ap, ◌∙◌, arith}
use Rattle.std.proofs.lemmas.List.{length-drop, drop-drop}
use Rattle.std.specs.Prelude.{◌||◌}
use Rattle.class_checks.specs.declared.name_units.NameUnits.{NameUnits}
use Rattle.class_checks.specs.NameUnits.{any_pair, name_units_of, either}

or_assoc : (a b c : Bool) → (a || (b || c)) ≡ ((a || b) || c)
or_assoc true b c = refl
or_assoc false b c = refl

or_comm : (a b : Bool) → (a || b) ≡ (b || a)
or_comm true true = refl
or_comm true false = refl
or_comm false true = refl
or_comm false false = refl

or_each : (b x y : Bool) → (x || y) ≡ y → ((b || x) || (b || y)) ≡ (b || y)
or_each true x y e = refl
or_each false x y e = e

module _ (test : ℕ → ℕ → Bool) where
  no_second : (us : List ℕ) → any_pair test us [] ≡ false
  no_second [] = refl
  no_second (u ∷ us) = refl

  no_first_part : (n : ℕ) (vs : List ℕ) → any_pair test (take n []) vs ≡ false
  no_first_part zero vs = refl
  no_first_part (suc n) vs = refl

  no_second_part : (n : ℕ) (us : List ℕ) → any_pair test us (take n []) ≡ false
  no_second_part zero us = no_second us
  no_second_part (suc n) us = no_second us

  -- a part in front says nothing new of the whole
  absorbs : (k : ℕ) (us vs : List ℕ) → (any_pair test (take k us) (take k vs) || any_pair test us vs) ≡ any_pair test us vs
  absorbs zero us vs = refl
  absorbs (suc k) [] vs = refl
  absorbs (suc k) (u ∷ us) [] = refl
  absorbs (suc k) (u ∷ us) (v ∷ vs) = or_each (test u v) _ _ (absorbs k us vs)

  -- a part in front, and one at the end that may begin before the other ends
  covered : (k j : ℕ) (us vs : List ℕ) → j ≤ k → (any_pair test (take k us) (take k vs) || any_pair test (drop j us) (drop j vs)) ≡ any_pair test us vs
  covered k zero us vs h = absorbs k us vs
  covered zero (suc j) us vs h = absurd (omega arith)
  covered (suc k) (suc j) [] vs h = refl
  covered (suc k) (suc j) (u ∷ us) [] h = no_second (drop j us)
  covered (suc k) (suc j) (u ∷ us) (v ∷ vs) h = sym (or_assoc (test u v) _ _) ∙ ap (λ b. test u v || b) (covered k j us vs (omega arith))

  -- some more in front
  more : (k n m : ℕ) (us vs : List ℕ) → m ≡ k + n → any_pair test (take m us) (take m vs) ≡ (any_pair test (take k us) (take k vs) || any_pair test (take n (drop k us)) (take n (drop k vs)))
  more zero n m us vs e = ap (λ (m : ℕ). any_pair test (take m us) (take m vs)) (let same : m ≡ n = omega arith in same)
  more (suc k) n zero us vs e = absurd (omega arith)
  more (suc k) n (suc m) [] vs e = sym (no_first_part n _)
  more (suc k) n (suc m) (u ∷ us) [] e = sym (no_second_part n _)
  more (suc k) n (suc m) (u ∷ us) (v ∷ vs) e = ap (λ b. test u v || b) (more k n m us vs (omega arith)) ∙ or_assoc (test u v) _ _

  -- no more of the first are looked at than there are of the second
  short : (n : ℕ) (us vs : List ℕ) → length vs ≤ n → any_pair test (take n us) (take n vs) ≡ any_pair test us vs
  short zero us [] h = sym (no_second us)
  short zero us (v ∷ vs) h = absurd (omega arith)
  short (suc n) [] vs h = refl
  short (suc n) (u ∷ us) [] h = refl
  short (suc n) (u ∷ us) (v ∷ vs) h = ap (λ b. test u v || b) (short n us vs (omega arith))

  ends_with : (k j n : ℕ) (us vs : List ℕ) → j ≤ k → length vs ≤ j + n → (any_pair test (take n (drop j us)) (take n (drop j vs)) || any_pair test (take k us) (take k vs)) ≡ any_pair test us vs
  ends_with k j n us vs le h =
      ap (λ b. b || any_pair test (take k us) (take k vs)) (short n (drop j us) (drop j vs) (omega (arith, length-drop j vs)))
      ∙ or_comm (any_pair test (drop j us) (drop j vs)) (any_pair test (take k us) (take k vs)) ∙ covered k j us vs le

-- ---- the four tests together

pub same_units : (a b c d p q r s : Bool) → a ≡ p → b ≡ q → c ≡ r → d ≡ s
    → ◌≡◌ {A = NameUnits} (record { stop = a; slash = b; angle = c; empty_part = d }) (record { stop = p; slash = q; angle = r; empty_part = s })
same_units a b c d p q r s e f g h = rw (e, f, g, h) refl

either_assoc : (a b c : NameUnits) → either (either a b) c ≡ either a (either b c)
either_assoc a b c =
    same_units _ _ _ _ _ _ _ _ (sym (or_assoc a.stop b.stop c.stop)) (sym (or_assoc a.slash b.slash c.slash)) (sym (or_assoc a.angle b.angle c.angle)) (sym (or_assoc a.empty_part b.empty_part c.empty_part))

units_more : (at : ℕ) (us vs : List ℕ) → either (name_units_of (take at us) (take at vs)) (name_units_of (take 8 (drop at us)) (take 8 (drop at vs))) ≡ name_units_of (take (at + 8) us) (take (at + 8) vs)
units_more at us vs =
    let part : (test : ℕ → ℕ → Bool) → (any_pair test (take at us) (take at vs) || any_pair test (take 8 (drop at us)) (take 8 (drop at vs))) ≡ any_pair test (take (at + 8) us) (take (at + 8) vs) = λ test. sym (more test at 8 (at + 8) us vs refl) in
    same_units _ _ _ _ _ _ _ _ (part _) (part _) (part _) (part _)

behind : (at : ℕ) (units : List ℕ) → drop (at + 1) units ≡ drop at (drop 1 units)
behind at units = ap (λ (n : ℕ). drop n units) (let e : at + 1 ≡ 1 + at = omega arith in e) ∙ sym (drop-drop at 1 units)

-- eight units more were looked at
pub units_on : (at : ℕ) (units : List ℕ) (end now chunk new : NameUnits) → now ≡ either end (name_units_of (take at units) (take at (drop 1 units)))
    → chunk ≡ name_units_of (take 8 (drop at units)) (take 8 (drop (at + 1) units)) → new ≡ either now chunk → new ≡ either end (name_units_of (take (at + 8) units) (take (at + 8) (drop 1 units)))
units_on at units end now chunk new so_far here e =
    let eight : chunk ≡ name_units_of (take 8 (drop at units)) (take 8 (drop at (drop 1 units))) = here ∙ ap (λ (l : List ℕ). name_units_of (take 8 (drop at units)) (take 8 l)) (behind at units) in
    e ∙ ap (λ (s : NameUnits). either s chunk) so_far ∙ either_assoc end (name_units_of (take at units) (take at (drop 1 units))) chunk
    ∙ ap (either end) (ap (either (name_units_of (take at units) (take at (drop 1 units)))) eight ∙ units_more at units (drop 1 units))

-- all were looked at
pub units_whole : (last at : ℕ) (units : List ℕ) (now : NameUnits) → length units ≤ last + 9 → last ≤ at
    → now ≡ either (name_units_of (take 8 (drop last units)) (take 8 (drop (last + 1) units))) (name_units_of (take at units) (take at (drop 1 units))) → now ≡ name_units_of units (drop 1 units)
units_whole last at units now size le e =
    let vs = drop 1 units in
    let part : (test : ℕ → ℕ → Bool) → (any_pair test (take 8 (drop last units)) (take 8 (drop last vs)) || any_pair test (take at units) (take at vs)) ≡ any_pair test units vs = λ test. ends_with test at last 8 units vs le (omega (arith, length-drop 1 units)) in
    e ∙ ap (λ (l : List ℕ). either (name_units_of (take 8 (drop last units)) (take 8 l)) (name_units_of (take at units) (take at vs))) (behind last units)
    ∙ same_units _ _ _ _ _ _ _ _ (part _) (part _) (part _) (part _)
