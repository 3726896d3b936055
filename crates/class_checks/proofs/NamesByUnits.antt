-- What the units that decide on names say of it as a name.
use Rattle.std.proofs.Common.{◌≡◌, ℕ, zero, suc, ◌-◌, ◌<◌, Bool, true, false, cond, eqb, List, [], ◌∷◌, length, drop, get_or, ◌⊎◌, inl, inr, refl, sym, ap, subst, ◌∙◌, arith}
use Rattle.std.specs.Prelude.{not, ◌&&◌, ◌||◌}
use Rattle.std.specs.List.{list_all}
use Rattle.std.proofs.lemmas.Bool.{eqb-true}
use Rattle.descriptors.specs.Descriptors.{are_parts}
use Rattle.descriptors.specs.Descriptors as chars
use Rattle.class_grammar.specs.Names.{is_name_unit, is_method_unit}
use Rattle.class_checks.specs.declared.names.Names.{Names}
use Rattle.class_checks.specs.declared.name_units.NameUnits.{NameUnits}
use Rattle.class_checks.specs.Names.{names_by}
use Rattle.class_checks.specs.NameUnits.{any_pair, is_slash, is_stop, is_angle, name_units_of, last_of, ends_with_semicolon, nothing, names_from}
use Rattle.class_checks.proofs.NameLaws.{NoName, no_name_behind, has_no_name}

-- ---- a unit that no name has

stop_first : (u : ℕ) (us : List ℕ) → is_stop u ≡ true → NoName (u ∷ us)
stop_first u us h =
    elim (which (eqb u 46) (eqb u 59) (eqb u 91) h) [
      | inl e ↦ subst (λ (n : ℕ). NoName (n ∷ us)) (sym (eqb-true u 46 e)) (record { plain = refl; angled = refl; parts = λ begun. refl })
      | inr (inl e) ↦ subst (λ (n : ℕ). NoName (n ∷ us)) (sym (eqb-true u 59 e)) (record { plain = refl; angled = refl; parts = λ begun. refl })
      | inr (inr e) ↦ subst (λ (n : ℕ). NoName (n ∷ us)) (sym (eqb-true u 91 e)) (record { plain = refl; angled = refl; parts = λ begun. refl })
    ]
  where
    which : (a b c : Bool) → (a || (b || (c || false))) ≡ true → (a ≡ true) ⊎ ((b ≡ true) ⊎ (c ≡ true))
    which true b c h = inl refl
    which false true c h = inr (inl refl)
    which false false true h = inr (inr refl)
    which false false false h = absurd cc

or_cases : (a b : Bool) → (a || b) ≡ true → (a ≡ true) ⊎ (b ≡ true)
or_cases true b h = inl refl
or_cases false b h = inr h

or_neither : (a b : Bool) → (a || b) ≡ false → (a ≡ false) × (b ≡ false)
or_neither true b h = absurd cc
or_neither false b h = (refl, h)

abbrev stop_in : ℕ → List ℕ → Bool
stop_in p us = any_pair (λ u v. is_stop v) (p ∷ us) us

abbrev slash_in : ℕ → List ℕ → Bool
slash_in p us = any_pair (λ u v. is_slash v) (p ∷ us) us

abbrev angle_in : ℕ → List ℕ → Bool
angle_in p us = any_pair (λ u v. is_angle v) (p ∷ us) us

abbrev empty_part_in : ℕ → List ℕ → Bool
empty_part_in p us = any_pair (λ u v. is_slash u && is_slash v) (p ∷ us) us

stop_later : (p : ℕ) (us : List ℕ) → stop_in p us ≡ true → NoName us
stop_later p [] h = absurd cc
stop_later p (u ∷ us) h =
    elim (or_cases (is_stop u) (stop_in u us) h) [
      | inl e ↦ stop_first u us e
      | inr more ↦ no_name_behind u us (stop_later u us more)
    ]

-- ---- where there is none of these

name_unit : (a b c s : Bool) → (a || (b || (c || false))) ≡ false → not (a || (b || (c || (s || false)))) ≡ not s
name_unit true b c s h = absurd cc
name_unit false true c s h = absurd cc
name_unit false false true s h = absurd cc
name_unit false false false true h = refl
name_unit false false false false h = refl

part_unit : (a b c : Bool) → (a || (b || (c || false))) ≡ false → not (a || b || c) ≡ true
part_unit true b c h = absurd cc
part_unit false true c h = absurd cc
part_unit false false true h = absurd cc
part_unit false false false h = refl

field_step : (n s x y : Bool) → n ≡ not s → x ≡ not y → (n && x) ≡ not (s || y)
field_step n true x y p q = rw p refl
field_step n false x y p q = rw p q

method_step : (n s a m y z : Bool) → n ≡ not s → m ≡ (not y && not z) → ((n && not a) && m) ≡ (not (s || y) && not (a || z))
method_step n true a m y z p q = rw p refl
method_step n false true m true z p q = rw p refl
method_step n false true m false z p q = rw p refl
method_step n false false m y z p q = rw p q

class_step : (before s n : Bool) (us : List ℕ) (empty_part last : Bool) → n ≡ true → are_parts (not s) us ≡ not (empty_part || last)
    → cond s (not before && are_parts false us) (n && are_parts true us) ≡ not (((before && s) || empty_part) || last)
class_step true true n us empty_part last p q = refl
class_step false true n us empty_part last p q = q
class_step true false n us empty_part last p q = rw p q
class_step false false n us empty_part last p q = rw p q

-- what the units behind one say
record Behind (p : ℕ) (us : List ℕ) : Type 0 where
  plain : list_all is_name_unit us ≡ not (slash_in p us)
  angled : list_all is_method_unit us ≡ (not (slash_in p us) && not (angle_in p us))
  parts : are_parts (not (is_slash p)) us ≡ not (empty_part_in p us || is_slash (last_of p us))

behind : (p : ℕ) (us : List ℕ) → stop_in p us ≡ false → Behind p us
behind p [] h = record { plain = refl; angled = refl; parts = refl }
behind p (u ∷ us) h =
    let none = or_neither (is_stop u) (stop_in u us) h in
    let r = behind u us none.1 in
    let unit = name_unit (eqb u 46) (eqb u 59) (eqb u 91) (eqb u 47) none.0 in
    record {
      plain = field_step (is_name_unit u) (is_slash u) _ _ unit r.plain;
      angled = method_step (is_name_unit u) (is_slash u) (is_angle u) _ _ _ unit r.angled;
      parts = class_step (is_slash p) (is_slash u) (chars.is_name_unit u) us (empty_part_in u us) (is_slash (last_of u us)) (part_unit (eqb u 46) (eqb u 59) (eqb u 91) none.0) r.parts;
    }

class_first : (s n : Bool) (us : List ℕ) (empty_part last : Bool) → n ≡ true → are_parts (not s) us ≡ not (empty_part || last)
    → cond s (false && are_parts false us) (n && are_parts true us) ≡ not (s || empty_part || last)
class_first true n us empty_part last p q = refl
class_first false n us empty_part last p q = rw p q

same_names : (a b c p q r : Bool) → a ≡ p → b ≡ q → c ≡ r → ◌≡◌ {A = Names} (record { of_field = a; of_method = b; of_class = c }) (record { of_field = p; of_method = q; of_class = r })
same_names a b c p q r e f g = rw (e, f, g) refl

chosen : (b : Bool) (x y z : Names) → (b ≡ true → z ≡ x) → (b ≡ false → z ≡ y) → z ≡ cond b x y
chosen true x y z p q = p refl
chosen false x y z p q = q refl

pub names_of_units : (u : ℕ) (us : List ℕ) → names_by false false false (u ∷ us) ≡ names_from u (last_of u us) (name_units_of (u ∷ us) us)
names_of_units u us =
    chosen (is_stop u || stop_in u us) nothing _ _
    (λ h. has_no_name (u ∷ us) (elim (or_cases (is_stop u) (stop_in u us) h) [ inl e ↦ stop_first u us e | inr more ↦ no_name_behind u us (stop_later u us more) ]))
    (λ h.
    let none = or_neither (is_stop u) (stop_in u us) h in
    let r = behind u us none.1 in
    let unit = name_unit (eqb u 46) (eqb u 59) (eqb u 91) (eqb u 47) none.0 in
    same_names _ _ _ _ _ _
    (field_step (is_name_unit u) (is_slash u) _ _ unit r.plain)
    (method_step (is_name_unit u) (is_slash u) (is_angle u) _ _ _ unit r.angled)
    (class_first (is_slash u) (chars.is_name_unit u) us (empty_part_in u us) (is_slash (last_of u us)) (part_unit (eqb u 46) (eqb u 59) (eqb u 91) none.0) r.parts))

last_at : (u : ℕ) (us : List ℕ) (k : ℕ) → k ≡ length us → get_or (u ∷ us) k 0 ≡ last_of u us
last_at u [] zero e = refl
last_at u [] (suc k) e = absurd (omega arith)
last_at u (v ∷ vs) zero e = absurd (omega arith)
last_at u (v ∷ vs) (suc k) e = last_at v vs k (omega arith)

-- the same of a text, by the units at its ends
pub text_names : (units : List ℕ) (result : Names) (rest : NameUnits) → 0 < length units → result ≡ names_from (get_or units 0 0) (get_or units (length units - 1) 0) rest
    → rest ≡ name_units_of units (drop 1 units) → result ≡ names_by false false false units
text_names [] result rest h e s = absurd (omega arith)
text_names (u ∷ us) result rest h e s =
    e ∙ ap (λ (n : ℕ). names_from u n rest) (last_at u us (length (u ∷ us) - 1) (omega arith)) ∙ ap (names_from u (last_of u us)) s ∙ sym (names_of_units u us)

-- ---- a semicolon at the end

pub ends_by : (units : List ℕ) → 0 < length units → eqb (get_or units (length units - 1) 0) 59 ≡ ends_with_semicolon units
ends_by [] h = absurd (omega arith)
ends_by (u ∷ us) h = ap (λ (n : ℕ). eqb n 59) (last_at u us (length (u ∷ us) - 1) (omega arith))

semicolon_last : (u : ℕ) (us : List ℕ) → last_of u us ≡ 59 → NoName (u ∷ us)
semicolon_last u [] e = stop_first u [] (ap is_stop e)
semicolon_last u (v ∷ vs) e = no_name_behind u (v ∷ vs) (semicolon_last v vs e)

pub no_name_ends : (units : List ℕ) → ends_with_semicolon units ≡ true → nothing ≡ names_by false false false units
no_name_ends [] h = absurd cc
no_name_ends (u ∷ us) h = sym (has_no_name (u ∷ us) (semicolon_last u us (eqb-true (last_of u us) 59 h)))
