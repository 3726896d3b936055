-- What the units of a text say of it as a name and as a descriptor.
use Rattle.std.proofs.Common.{◌≡◌, ℕ, zero, suc, ◌+◌, ◌-◌, ◌≤◌, Bool, true, false, cond, eqb, List, [], ◌∷◌, length, take, drop, ap, Some, None, ◌⊎◌, inl, inr, ◌*◌, refl, sym, subst, ◌∙◌, arith}
use Rattle.std.specs.Prelude.{not, ◌&&◌, ◌||◌}
use Rattle.std.specs.Option.{is_none}
use Rattle.std.specs.List.{list_all}
use Rattle.std.proofs.lemmas.Bool.{eqb-true}
use Rattle.descriptors.specs.Descriptors.{are_parts, is_base}
use Rattle.descriptors.specs.declared.fronts.Turn.{Turn}
use Rattle.descriptors.specs.Descriptors as chars
use Rattle.descriptors.specs.declared.fronts.Front.TheVariants.{Brackets, Name}
use Rattle.descriptors.specs.declared.fronts.Turn.TheVariants.{Ends, GoesOn, Stops}
use Rattle.descriptors.specs.States.{Field, Whole, Args, first_bad, in_field, name_goes_on, is_field, is_method}
use Rattle.class_grammar.specs.Names.{is_name_unit, is_method_unit, begins_with}
use Rattle.class_checks.specs.TextRoles.{is_class_descriptor, is_empty, may_be_field}
use Rattle.class_checks.specs.Names.{names_of, names_by}
use Rattle.class_checks.specs.NameUnits.{ends_with_semicolon, nothing}

-- ---- the first unit of a descriptor

or_none : (b : Bool) → (b || false) ≡ true → b ≡ true
or_none true h = refl
or_none false h = absurd cc

cases_bool : (b : Bool) → (b ≡ true) ⊎ (b ≡ false)
cases_bool true = inl refl
cases_bool false = inr refl

no_parenthesis : (us : List ℕ) (b : Bool) → (b || false) ≡ false → is_none {T = ℕ} (elim (cond b (Some (Args 0 (Brackets 0))) None) [ None ↦ Some 0 | Some state ↦ first_bad state (0 + 1) us ]) ≡ false
no_parenthesis us true h = absurd cc
no_parenthesis us false h = refl

pub no_method : (units : List ℕ) → begins_with (40 ∷ []) units ≡ false → is_method units ≡ false
no_method [] h = refl
no_method (u ∷ us) h = no_parenthesis us _ h

no_whole : (at : ℕ) (us : List ℕ) → is_none (first_bad Whole at us) ≡ true → us ≡ []
no_whole at [] h = refl
no_whole at (u ∷ us) h = absurd cc

ends_or_goes_on : (ends more begun slash : Bool) (at : ℕ) (us : List ℕ)
    → is_none {T = ℕ} (elim (in_field (cond ends (cond begun Ends Stops) (cond more (GoesOn (Name (not slash))) Stops))) [ None ↦ Some at | Some state ↦ first_bad state (at + 1) us ]) ≡ true
    → ((ends ≡ true) × (us ≡ [])) ⊎ (is_none (first_bad (Field (Name (not slash))) (at + 1) us) ≡ true)
ends_or_goes_on true more true slash at us h = inl (refl, no_whole (at + 1) us h)
ends_or_goes_on true more false slash at us h = absurd cc
ends_or_goes_on false true begun slash at us h = inr h
ends_or_goes_on false false begun slash at us h = absurd cc

-- the descriptor of a class ends with a semicolon
class_ends : (begun : Bool) (at : ℕ) (us : List ℕ) → is_none (first_bad (Field (Name begun)) at us) ≡ true → ends_with_semicolon us ≡ true
class_ends begun at [] h = absurd cc
class_ends begun at (u ∷ []) h =
    elim (ends_or_goes_on (eqb u 59) (name_goes_on begun u) begun (eqb u 47) at [] h) [
      | inl p ↦ p.0
      | inr more ↦ absurd (let none = class_ends (not (eqb u 47)) (at + 1) [] more in cc)
    ]
class_ends begun at (u ∷ (v ∷ vs)) h =
    elim (ends_or_goes_on (eqb u 59) (name_goes_on begun u) begun (eqb u 47) at (v ∷ vs) h) [
      | inl p ↦ absurd (let none = p.1 in cc)
      | inr more ↦ class_ends (not (eqb u 47)) (at + 1) (v ∷ vs) more
    ]

unless_true : (b c : Bool) → (b ≡ true → c ≡ true) → c ≡ false → b ≡ false
unless_true true c f h = let t = f refl in absurd cc
unless_true false c f h = refl

no_base : (at : ℕ) (us : List ℕ) → is_empty us ≡ false → is_none (first_bad Whole at us) ≡ false
no_base at [] h = absurd cc
no_base at (u ∷ us) h = refl

no_kind : (us : List ℕ) (base class array : Bool) (more : Turn) → cond array true (cond class (ends_with_semicolon us) (cond base (is_empty us) false)) ≡ false
    → is_none {T = ℕ} (elim (in_field (cond array more (cond class (GoesOn (Name false)) (cond base Ends Stops)))) [ None ↦ Some 0 | Some state ↦ first_bad state (0 + 1) us ]) ≡ false
no_kind us base class true more h = absurd cc
no_kind us base true false more h = unless_true _ _ (class_ends false 1 us) h
no_kind us true false false more h = no_base 1 us h
no_kind us false false false more h = refl

pub no_field : (units : List ℕ) → may_be_field units ≡ false → is_field units ≡ false
no_field [] h = refl
no_field (u ∷ us) h = no_kind us (is_base u) (eqb u 76) (eqb u 91) _ h

-- what begins as a method's descriptor can't be a field's
pub no_parenthesis_first : (units : List ℕ) → begins_with (40 ∷ []) units ≡ true → may_be_field units ≡ false
no_parenthesis_first [] h = refl
no_parenthesis_first (u ∷ us) h = subst (λ (n : ℕ). may_be_field (n ∷ us) ≡ false) (sym (eqb-true u 40 (or_none _ h))) refl

-- ---- the descriptor of a class by its name

last_unit : (e begun : Bool) (more : Bool) (slash : Bool) (at : ℕ) → e ≡ true
    → begun ≡ is_none {T = ℕ} (elim (in_field (cond e (cond begun Ends Stops) (cond more (GoesOn (Name (not slash))) Stops))) [ None ↦ Some at | Some state ↦ first_bad state (at + 1) [] ])
last_unit true true more slash at h = refl
last_unit true false more slash at h = refl
last_unit false begun more slash at h = absurd cc

semicolon_within : (begun : Bool) (at v : ℕ) (vs part : List ℕ) → are_parts begun (59 ∷ part) ≡ is_none (first_bad (Field (Name begun)) at (59 ∷ (v ∷ vs)))
semicolon_within true at v vs part = refl
semicolon_within false at v vs part = refl

unit_within : (e s n begun : Bool) (at : ℕ) (us part : List ℕ) → e ≡ false → are_parts (not s) part ≡ is_none (first_bad (Field (Name (not s))) (at + 1) us)
    → cond s (begun && are_parts false part) (n && are_parts true part)
    ≡ is_none {T = ℕ} (elim (in_field (cond e (cond begun Ends Stops) (cond (cond s begun n) (GoesOn (Name (not s))) Stops))) [ None ↦ Some at | Some state ↦ first_bad state (at + 1) us ])
unit_within true s n begun at us part h r = absurd cc
unit_within false true n true at us part h r = r
unit_within false true n false at us part h r = refl
unit_within false false true begun at us part h r = r
unit_within false false false begun at us part h r = refl

class_part : (begun : Bool) (at : ℕ) (us : List ℕ) (k : ℕ) → suc k ≡ length us → ends_with_semicolon us ≡ true → are_parts begun (take k us) ≡ is_none (first_bad (Field (Name begun)) at us)
class_part begun at [] k size h = absurd cc
class_part begun at (u ∷ []) zero size h = last_unit (eqb u 59) begun (name_goes_on begun u) (eqb u 47) at h
class_part begun at (u ∷ []) (suc k) size h = absurd (omega arith)
class_part begun at (u ∷ (v ∷ vs)) zero size h = absurd (omega arith)
class_part begun at (u ∷ (v ∷ vs)) (suc k) size h =
    elim (cases_bool (eqb u 59)) [
      | inl e ↦ subst (λ (n : ℕ). are_parts begun (n ∷ take k (v ∷ vs)) ≡ is_none (first_bad (Field (Name begun)) at (n ∷ (v ∷ vs)))) (sym (eqb-true u 59 e)) (semicolon_within begun at v vs (take k (v ∷ vs)))
      | inr e ↦ unit_within (eqb u 59) (eqb u 47) (chars.is_name_unit u) begun at (v ∷ vs) (take k (v ∷ vs)) e (class_part (not (eqb u 47)) (at + 1) (v ∷ vs) k (omega arith) h)
    ]

class_behind : (us : List ℕ) (n : ℕ) → n ≡ length us + 1 → ends_with_semicolon us ≡ true → are_parts false (take (n - 1 - 1) us) ≡ is_field (76 ∷ us)
class_behind [] n size h = absurd cc
class_behind (v ∷ vs) n size h = class_part false 1 (v ∷ vs) (n - 1 - 1) (omega arith) h

-- a text that begins and ends as the descriptor of a class is one where the units between are the name of a class
pub class_text : (units : List ℕ) (of_class : Bool) → begins_with (76 ∷ []) units ≡ true → may_be_field units ≡ true → of_class ≡ are_parts false (take (length units - 1 - 1) (drop 1 units)) → of_class ≡ is_field units
class_text [] of_class first may e = absurd cc
class_text (u ∷ us) of_class first may e =
    let is : u ≡ 76 = eqb-true u 76 (or_none _ first) in
    e ∙ class_behind us (length (u ∷ us)) (omega arith) (subst (λ (n : ℕ). may_be_field (n ∷ us) ≡ true) is may) ∙ ap (λ (n : ℕ). is_field (n ∷ us)) (sym is)

-- ---- the descriptor of a class is no name

-- they are no name, nor the rest of one
pub record NoName (us : List ℕ) : Type 0 where
  pub plain : list_all is_name_unit us ≡ false
  pub angled : list_all is_method_unit us ≡ false
  pub parts : (begun : Bool) → are_parts begun us ≡ false

after : (ends more begun slash : Bool) (at : ℕ) (us : List ℕ)
    → is_none {T = ℕ} (elim (in_field (cond ends (cond begun Ends Stops) (cond more (GoesOn (Name (not slash))) Stops))) [ None ↦ Some at | Some state ↦ first_bad state (at + 1) us ]) ≡ true
    → (ends ≡ true) ⊎ (is_none (first_bad (Field (Name (not slash))) (at + 1) us) ≡ true)
after true more begun slash at us h = inl refl
after false true begun slash at us h = inr h
after false false begun slash at us h = absurd cc

and_last : (a b : Bool) → b ≡ false → (a && b) ≡ false
and_last true b e = e
and_last false b e = refl

either_last : (s a b x y : Bool) → x ≡ false → y ≡ false → cond s (a && x) (b && y) ≡ false
either_last true a b x y p q = and_last a x p
either_last false a b x y p q = and_last b y q

pub no_name_behind : (u : ℕ) (us : List ℕ) → NoName us → NoName (u ∷ us)
no_name_behind u us r = record {
  plain = and_last (is_name_unit u) (list_all is_name_unit us) r.plain;
  angled = and_last (is_method_unit u) (list_all is_method_unit us) r.angled;
  parts = λ b. either_last (eqb u 47) b (chars.is_name_unit u) (are_parts false us) (are_parts true us) (r.parts false) (r.parts true);
}

semicolon_first : (us : List ℕ) → NoName (59 ∷ us)
semicolon_first us = record { plain = refl; angled = refl; parts = λ begun. refl }

ended : (begun : Bool) (at : ℕ) (us : List ℕ) → is_none (first_bad (Field (Name begun)) at us) ≡ true → NoName us
ended begun at [] h = absurd cc
ended begun at (u ∷ us) h =
    elim (after (eqb u 59) (name_goes_on begun u) begun (eqb u 47) at us h) [
      | inl e ↦ subst (λ (n : ℕ). NoName (n ∷ us)) (sym (eqb-true u 59 e)) (semicolon_first us)
      | inr more ↦ no_name_behind u us (ended (not (eqb u 47)) (at + 1) us more)
    ]

made : (a b c : Bool) → a ≡ false → b ≡ false → c ≡ false → (record { of_field = a; of_method = b; of_class = c }) ≡ nothing
made a b c p q r = rw (p, q, r) refl

pub has_no_name : (units : List ℕ) → NoName units → names_by false false false units ≡ nothing
has_no_name units r = made _ _ _ r.plain r.angled (r.parts false)

letter_l : (us : List ℕ) → is_field (76 ∷ us) ≡ true → names_of (76 ∷ us) ≡ nothing
letter_l us h =
    let r = ended false 1 us h in
    made (list_all is_name_unit us) (list_all is_method_unit us) (are_parts true us) r.plain r.angled (r.parts true)

pub class_names : (units : List ℕ) → is_field units ≡ true → begins_with (76 ∷ []) units ≡ true → names_of units ≡ nothing
class_names [] field first = absurd cc
class_names (u ∷ us) field first =
    let e : u ≡ 76 = eqb-true u 76 (or_none _ first) in
    subst (λ (n : ℕ). names_of (n ∷ us) ≡ nothing) (sym e) (letter_l us (subst (λ (n : ℕ). is_field (n ∷ us) ≡ true) e field))

both_true : (a b : Bool) → (a && b) ≡ true → (a ≡ true) × (b ≡ true)
both_true true true e = (refl, refl)
both_true true false e = absurd cc
both_true false b e = absurd cc

pub no_name : (is_class : Bool) (units : List ℕ) → is_class ≡ is_class_descriptor units → is_class ≡ true → nothing ≡ names_of units
no_name is_class units e h =
    let p = both_true (is_field units) (begins_with (76 ∷ []) units) (sym e ∙ h) in
    sym (class_names units p.0 p.1)

-- ---- the steps of one text

-- what the four goes over a text take, of which some are left out
pub roles_cost : (n a b c d e : ℕ) (parenthesis is_class : Bool) → b ≤ a + n → (parenthesis ≡ false → b ≡ a) → c ≤ b + n → (parenthesis ≡ true → c ≡ b)
    → d ≤ c + n + 8 → (is_class ≡ true → d ≡ c) → e ≤ d + n → (is_class ≡ false → e ≡ d) → e ≤ a + 2 * n + 8
roles_cost n a b c d e true true m m0 f f0 s s0 t t0 = let p = f0 refl in let q = s0 refl in omega arith
roles_cost n a b c d e true false m m0 f f0 s s0 t t0 = let p = f0 refl in let q = t0 refl in omega arith
roles_cost n a b c d e false true m m0 f f0 s s0 t t0 = let p = m0 refl in let q = s0 refl in omega arith
roles_cost n a b c d e false false m m0 f f0 s s0 t t0 = let p = m0 refl in let q = t0 refl in omega arith
