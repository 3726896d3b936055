-- The parts of a kind whose descriptor is in front.
use Rattle.std.proofs.Common.{◌≡◌, ◌≢◌, ℕ, zero, suc, ◌+◌, ◌<◌, ◌≤◌, Bool, true, false, cond, eqb, ltb, List, [], ◌∷◌, ◌++◌, length, get_or, take, drop, refl, sym, ap, subst, ◌∙◌, append_assoc, arith, inl, inr}
use Rattle.std.specs.Prelude.{Option, Some, None, IsSome, not, position, ◌&&◌}
use Rattle.std.specs.List.{position_or_len, AllByRecursion}
use Rattle.std.proofs.lemmas.Bool.{lt-ltb, eqb-true, ne_eqb, and_parts}
use Rattle.std.proofs.lemmas.Option.{same_Some}
use Rattle.std.proofs.lemmas.List.{append-nil, length-append, take_at, drop_at}
use Rattle.descriptors.specs.declared.kind.ElementType.{ElementType}
use Rattle.descriptors.specs.declared.kind.Kind.{Kind}
use Rattle.descriptors.specs.Descriptors.{brackets, element_spelling, spelling, is_base, is_name_unit, are_parts, IsClassName, IsElement, IsKind, IsResult, result_spelling}
use Rattle.descriptors.specs.Refusal.{IsField, KindInFront, ElementInFront, NameInFront, IsResultText}
use Rattle.descriptors.proofs.KindLaws.{element_text, same_behind, starts}

-- the first that passes is after those that fail
or_len : (p : ℕ → Bool) (a : List ℕ) (u : ℕ) (x : List ℕ) → AllByRecursion (λ v. p v ≡ false) a → p u ≡ true → position_or_len p (a ++ u ∷ x) ≡ length a
or_len p [] u x fail pass = rw pass refl
or_len p (v ∷ a) u x fail pass = rw (fail.0, or_len p a u x fail.1 pass) (omega arith)

first_at : (p : ℕ → Bool) (a : List ℕ) (u : ℕ) (x : List ℕ) → AllByRecursion (λ v. p v ≡ false) a → p u ≡ true → position p (a ++ u ∷ x) ≡ Some (length a)
first_at p a u x fail pass =
    let at = or_len p a u x fail pass in
    let inside : ltb (length a) (length (a ++ u ∷ x)) ≡ true = lt-ltb _ _ (omega (arith, length-append a (u ∷ x))) in
    rw (at, inside) refl

-- ---- brackets

bracket_units : (n : ℕ) → AllByRecursion (λ v. not (eqb v 91) ≡ false) (brackets n)
bracket_units zero = tt
bracket_units (suc n) = (refl, bracket_units n)

pub length-brackets : (n : ℕ) → length (brackets n) ≡ n
length-brackets zero = refl
length-brackets (suc n) = ap suc (length-brackets n)

no_bracket : (u v : ℕ) → is_base u ≡ true → eqb u 91 ≡ false
no_bracket u v is = ne_eqb u 91 (λ same. let h = subst (λ (x : ℕ). is_base x ≡ true) same is in cc)

-- the first unit of a kind that is no array
first_unit : (element : ElementType) (rest : List ℕ) → IsElement element → (u : ℕ) × (x : List ℕ) × (element_spelling element ++ rest ≡ u ∷ x) × (not (eqb u 91) ≡ true)
first_unit element rest fit = elim (element_text element fit) [
  | inl p ↦ (p.0, rest, ap (λ (x : List ℕ). x ++ rest) p.2, ap not (no_bracket p.0 91 p.1))
  | inr p ↦ (76, (p.0 ++ 59 ∷ []) ++ rest, ap (λ (x : List ℕ). x ++ rest) p.2, refl)
]

pub record BracketsAt (units : List ℕ) (n : ℕ) : Type 0 where
  pub few : n ≤ 255
  pub brackets : units ≡ brackets n ++ drop n units
  pub element : ElementInFront (drop n units)
  pub found : position (λ u. not (eqb u 91)) units ≡ Some n

pub brackets_at : (units : List ℕ) → KindInFront units → (n : ℕ) × BracketsAt units n
brackets_at units front =
    let dims = front.kind.dimensions in
    let element = front.kind.element in
    let f = first_unit element front.rest front.fit.element in
    let whole : units ≡ brackets dims ++ (element_spelling element ++ front.rest) = front.parts ∙ append_assoc (brackets dims) (element_spelling element) front.rest in
    let behind : drop dims units ≡ element_spelling element ++ front.rest = ap (drop dims) whole ∙ drop_at (brackets dims) (element_spelling element ++ front.rest) dims (length-brackets dims) in
    let found : position (λ u. not (eqb u 91)) units ≡ Some dims =
    ap (position (λ u. not (eqb u 91))) (whole ∙ ap (λ (x : List ℕ). brackets dims ++ x) f.2)
    ∙ first_at (λ u. not (eqb u 91)) (brackets dims) f.0 f.1 (bracket_units dims) f.3 ∙ ap (λ (n : ℕ). Some n) (length-brackets dims) in (
      dims,
      record {
        few = front.fit.few;
        brackets = whole ∙ ap (λ (x : List ℕ). brackets dims ++ x) (sym behind);
        element = record { element = element; fit = front.fit.element; rest = front.rest; parts = behind };
        found = found;
      },
    )

-- ---- names

abbrev pub NoSemicolon : List ℕ → Type 0
NoSemicolon name = AllByRecursion (λ v. eqb v 59 ≡ false) name

unit_step : (begun slash : Bool) (u : ℕ) (name : List ℕ) → (slash ≡ true → u ≡ 47) → ((b : Bool) → are_parts b name ≡ true → NoSemicolon name) → cond slash (begun && are_parts false name) (is_name_unit u && are_parts true name) ≡ true
    → NoSemicolon (u ∷ name)
unit_step begun true u name at others h =
    let p = and_parts begun (are_parts false name) h in
    (ne_eqb u 59 (λ e. let same : 47 ≡ 59 = sym (at refl) ∙ e in omega (arith, same)), others false p.1)
unit_step begun false u name at others h =
    let p = and_parts (is_name_unit u) (are_parts true name) h in
    (ne_eqb u 59 (λ e. let none = subst (λ (x : ℕ). is_name_unit x ≡ true) e p.0 in cc), others true p.1)

pub name_units : (name : List ℕ) (begun : Bool) → are_parts begun name ≡ true → NoSemicolon name
name_units [] begun is = tt
name_units (u ∷ name) begun is = unit_step begun (eqb u 47) u name (eqb-true u 47) (name_units name) is

pub record NameAt (units : List ℕ) (n : ℕ) : Type 0 where
  pub inside : n < length units
  pub name : IsClassName (take n units)
  pub end : units ≡ take n units ++ 59 ∷ drop (n + 1) units
  pub found : position (λ u. eqb u 59) units ≡ Some n

pub name_at : (units : List ℕ) → NameInFront units → (n : ℕ) × NameAt units n
name_at units front =
    let n = length front.name in
    let front_is : take n units ≡ front.name = ap (take n) front.parts ∙ take_at front.name (59 ∷ front.rest) n refl in
    let regrouped : units ≡ (front.name ++ 59 ∷ []) ++ front.rest = front.parts ∙ sym (append_assoc front.name (59 ∷ []) front.rest) in
    let behind : drop (n + 1) units ≡ front.rest = ap (drop (n + 1)) regrouped ∙ drop_at (front.name ++ 59 ∷ []) front.rest (n + 1) (length-append front.name (59 ∷ [])) in (
      n,
      record {
        inside = omega (arith, ap length front.parts, length-append front.name (59 ∷ front.rest));
        name = subst IsClassName (sym front_is) front.fit;
        end = front.parts ∙ ap (λ (x : List ℕ). x ++ 59 ∷ front.rest) (sym front_is) ∙ ap (λ (x : List ℕ). take n units ++ 59 ∷ x) (sym behind);
        found = ap (position (λ u. eqb u 59)) front.parts ∙ first_at (λ u. eqb u 59) front.name 59 front.rest (name_units front.name false front.fit) refl;
      },
    )

pub some_is : (o : Option ℕ) (n : ℕ) → o ≡ Some n → IsSome o
some_is o n e = subst IsSome (sym e) refl

-- ---- as the code finds them

pub brackets_found : (units : List ℕ) (o : Option ℕ) → KindInFront units → o ≡ position (λ u. not (eqb u 91)) units → (n : ℕ) × (o ≡ Some n) × BracketsAt units n
brackets_found units o front e =
    let at = brackets_at units front in
    (at.0, e ∙ at.1.found, at.1)

pub brackets_here : (units : List ℕ) (o : Option ℕ) (n : ℕ) → KindInFront units → o ≡ position (λ u. not (eqb u 91)) units → o ≡ Some n → BracketsAt units n
brackets_here units o n front e f = let at = brackets_found units o front e in subst (λ (k : ℕ). BracketsAt units k) (same_Some at.0 n (sym at.1 ∙ f)) at.2

pub name_found : (units : List ℕ) (o : Option ℕ) → NameInFront units → o ≡ position (λ u. eqb u 59) units → (n : ℕ) × (o ≡ Some n) × NameAt units n
name_found units o front e =
    let at = name_at units front in
    (at.0, e ∙ at.1.found, at.1)

pub name_here : (units : List ℕ) (o : Option ℕ) (n : ℕ) → NameInFront units → o ≡ position (λ u. eqb u 59) units → o ≡ Some n → NameAt units n
name_here units o n front e f = let at = name_found units o front e in subst (λ (k : ℕ). NameAt units k) (same_Some at.0 n (sym at.1 ∙ f)) at.2

-- ---- the whole units are the descriptor of a kind

pub field_front : (units : List ℕ) → IsField units → KindInFront units
field_front units f = record { kind = f.0; fit = f.1; rest = []; parts = f.2 ∙ sym (append-nil (spelling f.0)) }

pub kind_alone : (units : List ℕ) (kind : Kind) (rest : List ℕ) → IsField units → IsKind kind → units ≡ spelling kind ++ rest → units ≡ spelling kind
kind_alone units kind rest f fit e =
    let none : [] ≡ rest = same_behind f.0 kind [] rest f.1 fit (append-nil (spelling f.0) ∙ sym f.2 ∙ e) in
    e ∙ ap (λ (x : List ℕ). spelling kind ++ x) (sym none) ∙ append-nil (spelling kind)

-- ---- the result of a method

pub void_text : (units : List ℕ) → IsResultText units → get_or units 0 0 ≡ 86 → units ≡ 86 ∷ []
void_text units r first = by_result r.result r.fit r.parts
  where
    by_result : (result : Option Kind) → IsResult result → units ≡ result_spelling result → units ≡ 86 ∷ []
    by_result None fit e = e
    by_result (Some k) fit e =
        let s = starts k [] fit in
        absurd (s.4 (sym (ap (λ (x : List ℕ). get_or x 0 0) (e ∙ sym (append-nil (spelling k)) ∙ s.2)) ∙ first))

pub kind_text : (units : List ℕ) → IsResultText units → get_or units 0 0 ≢ 86 → IsField units
kind_text units r other = by_result r.result r.fit r.parts
  where
    by_result : (result : Option Kind) → IsResult result → units ≡ result_spelling result → IsField units
    by_result None fit e = absurd (other (ap (λ (x : List ℕ). get_or x 0 0) e))
    by_result (Some k) fit e = (k, fit, e)
