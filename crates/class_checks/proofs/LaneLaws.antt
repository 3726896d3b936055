-- What the masks of eight units at a time say of the units.
use Rattle.std.proofs.Common.{◌≡◌, ℕ, ◌+◌, ◌*◌, ◌%◌, ◌^◌, Bool, true, false, cond, eqb, List, [], ◌∷◌, map, length, replicate, bit_and, bit_or, refl, sym, ap, ap₂, ◌∙◌, inl, inr, arith}
use Rattle.std.specs.Prelude.{not, ◌&&◌, ◌||◌}
use Rattle.std.proofs.lemmas.Bool.{cases_eq, eq-eqb, ne_eqb}
use Rattle.std.proofs.lemmas.List.{length-map}
use Rattle.std.proofs.lemmas.Simd.{zip2_splat, mask_l-mod, length-zip2}
use lib.Lanes.{zip2, mask_l, top}
use Rattle.class_checks.specs.NameUnits.{any_pair, is_slash, is_stop, is_angle}

-- ---- a mask that is not zero

abbrev any_of : List Bool → Bool
any_of [] = false
any_of (b ∷ bs) = b || any_of bs

twice : (m : ℕ) → not (eqb (0 + 2 * m) 0) ≡ not (eqb m 0)
twice m =
    elim (cases_eq m 0) [
      | inl e ↦ ap not (eq-eqb (0 + 2 * m) 0 (omega arith) ∙ sym (eq-eqb m 0 e))
      | inr n ↦ ap not (ne_eqb (0 + 2 * m) 0 (λ e. n (omega arith)) ∙ sym (ne_eqb m 0 n))
    ]

any_mask : (bs : List Bool) → not (eqb (mask_l bs) 0) ≡ any_of bs
any_mask [] = refl
any_mask (true ∷ bs) = ap not (ne_eqb (1 + 2 * mask_l bs) 0 (λ e. omega arith))
any_mask (false ∷ bs) = twice (mask_l bs) ∙ any_mask bs

-- ---- lanes that are computed from two lists of units

abbrev pub hit : ℕ → ℕ → ℕ
hit a b = cond (eqb a b) 65535 0

abbrev Decides : (ℕ → ℕ → ℕ) → (ℕ → ℕ → Bool) → Type 0
Decides g test = (u v : ℕ) → top 15 (g u v) ≡ test u v

any_zip : (g : ℕ → ℕ → ℕ) (test : ℕ → ℕ → Bool) → Decides g test → (us vs : List ℕ) → any_of (map (top 15) (zip2 g us vs)) ≡ any_pair test us vs
any_zip g test h [] vs = refl
any_zip g test h (u ∷ us) [] = refl
any_zip g test h (u ∷ us) (v ∷ vs) = ap₂ (λ a b. a || b) (h u v) (any_zip g test h us vs)

pub any_lane : (g : ℕ → ℕ → ℕ) (test : ℕ → ℕ → Bool) → Decides g test → (us vs z : List ℕ) → length us ≡ 8 → length vs ≡ 8 → z ≡ zip2 g us vs
    → not (eqb (mask_l (map (top 15) z) % 2 ^ 64) 0) ≡ any_pair test us vs
any_lane g test h us vs z long same e =
    let bits = map (top 15) (zip2 g us vs) in
    ap (λ (z : List ℕ). not (eqb (mask_l (map (top 15) z) % 2 ^ 64) 0)) e
    ∙ ap (λ (m : ℕ). not (eqb m 0)) (mask_l-mod bits 64 (omega (arith, length-map (zip2 g us vs) (top 15), length-zip2 g us vs (long ∙ sym same))))
    ∙ any_mask bits ∙ any_zip g test h us vs

-- what is computed from the second list alone, and from the first alone
pub from_second : (f : ℕ → ℕ) (us vs : List ℕ) → length us ≡ length vs → map f vs ≡ zip2 (λ u v. f v) us vs
from_second f [] [] e = refl
from_second f [] (v ∷ vs) e = absurd (omega arith)
from_second f (u ∷ us) [] e = absurd (omega arith)
from_second f (u ∷ us) (v ∷ vs) e = ap (λ l. f v ∷ l) (from_second f us vs (omega arith))

from_first : (f : ℕ → ℕ) (us vs : List ℕ) → length us ≡ length vs → map f us ≡ zip2 (λ u v. f u) us vs
from_first f [] [] e = refl
from_first f [] (v ∷ vs) e = absurd (omega arith)
from_first f (u ∷ us) [] e = absurd (omega arith)
from_first f (u ∷ us) (v ∷ vs) e = ap (λ l. f u ∷ l) (from_first f us vs (omega arith))

both : (h f g : ℕ → ℕ → ℕ) (us vs : List ℕ) → zip2 h (zip2 f us vs) (zip2 g us vs) ≡ zip2 (λ u v. h (f u v) (g u v)) us vs
both h f g [] vs = refl
both h f g (u ∷ us) [] = refl
both h f g (u ∷ us) (v ∷ vs) = ap (λ l. h (f u v) (g u v) ∷ l) (both h f g us vs)

-- two results of lanes, put together lane by lane
pub joined : (h f g : ℕ → ℕ → ℕ) (us vs : List ℕ) {a b : List ℕ} → a ≡ zip2 f us vs → b ≡ zip2 g us vs → zip2 h a b ≡ zip2 (λ u v. h (f u v) (g u v)) us vs
joined h f g us vs p q = ap₂ (zip2 h) p q ∙ both h f g us vs

-- a unit compared with one in each lane
pub hits_second : (x : ℕ) (us vs : List ℕ) → length us ≡ 8 → length vs ≡ 8 → zip2 hit vs (replicate 8 x) ≡ zip2 (λ u v. hit v x) us vs
hits_second x us vs long same = zip2_splat hit vs 8 x same ∙ from_second (λ v. hit v x) us vs (long ∙ sym same)

pub hits_first : (x : ℕ) (us vs : List ℕ) → length us ≡ 8 → length vs ≡ 8 → zip2 hit us (replicate 8 x) ≡ zip2 (λ u v. hit u x) us vs
hits_first x us vs long same = zip2_splat hit us 8 x long ∙ from_first (λ u. hit u x) us vs (long ∙ sym same)

-- ---- the tests

one : (a : Bool) → top 15 (cond a 65535 0) ≡ a
one true = refl
one false = refl

or_two : (a b : Bool) → top 15 (bit_or (cond a 65535 0) (cond b 65535 0)) ≡ (a || (b || false))
or_two true true = refl
or_two true false = refl
or_two false true = refl
or_two false false = refl

or_three : (a b c : Bool) → top 15 (bit_or (bit_or (cond a 65535 0) (cond b 65535 0)) (cond c 65535 0)) ≡ (a || (b || (c || false)))
or_three true true true = refl
or_three true true false = refl
or_three true false true = refl
or_three true false false = refl
or_three false true true = refl
or_three false true false = refl
or_three false false true = refl
or_three false false false = refl

and_two : (a b : Bool) → top 15 (bit_and (cond a 65535 0) (cond b 65535 0)) ≡ (a && b)
and_two true true = refl
and_two true false = refl
and_two false true = refl
and_two false false = refl

pub slash_decides : Decides (λ u v. hit v 47) (λ u v. is_slash v)
slash_decides u v = one (eqb v 47)

pub stop_decides : Decides (λ u v. bit_or (bit_or (hit v 46) (hit v 59)) (hit v 91)) (λ u v. is_stop v)
stop_decides u v = or_three (eqb v 46) (eqb v 59) (eqb v 91)

pub angle_decides : Decides (λ u v. bit_or (hit v 60) (hit v 62)) (λ u v. is_angle v)
angle_decides u v = or_two (eqb v 60) (eqb v 62)

pub empty_part_decides : Decides (λ u v. bit_and (hit u 47) (hit v 47)) (λ u v. is_slash u && is_slash v)
empty_part_decides u v = and_two (eqb u 47) (eqb v 47)
