-- What each unit does to the texts that complete a descriptor, and so where the first bad unit is.
use Rattle.std.proofs.Common.{◌≡◌, ◌↔◌, ℕ, zero, suc, ◌+◌, ◌<◌, ◌≤◌, Bool, true, false, cond, eqb, ltb, List, [], ◌∷◌, ◌++◌, refl, sym, ap, subst, ◌∙◌, arith, ◌⊎◌, inl, inr}
use Rattle.std.specs.Prelude.{◌&&◌, ◌||◌, not, Option, Some, None}
use Rattle.std.specs.Option.{is_none}
use Rattle.std.specs.List.{flat_map, sum_by, AllByRecursion}
use Rattle.std.proofs.lemmas.Bool.{ne_eqb, eqb-true, ltb-true, ltb-false, lt-ltb, le-ltb, eq-eqb, and_parts, and_from}
use Rattle.std.proofs.lemmas.Bool.Decides.{nat_tests}
use Rattle.std.proofs.lemmas.Option.{same_Some}
use Rattle.std.proofs.lemmas.List.{append-nil}
use Rattle.std.proofs.lemmas.List.Sums.{sum_by-cons}
use Rattle.descriptors.specs.declared.kind.ElementType.{ElementType}
use Rattle.descriptors.specs.declared.kind.ElementType.TheVariants.{Byte, Char, Double, Float, Int, Long, Short, Class}
use Rattle.descriptors.specs.declared.kind.ElementType.TheVariants as elements
use Rattle.descriptors.specs.declared.kind.Kind.{Kind}
use Rattle.descriptors.specs.declared.fronts.Front.{Front}
use Rattle.descriptors.specs.declared.fronts.Front.TheVariants.{Brackets, Name}
use Rattle.descriptors.specs.declared.fronts.Turn.{Turn}
use Rattle.descriptors.specs.declared.fronts.Turn.TheVariants.{Ends, GoesOn, Stops}
use Rattle.descriptors.specs.Descriptors.{brackets, element_spelling, spelling, is_base, is_name_unit, are_parts, IsClassName, IsElement, IsKind, IsResult, result_spelling, slots, unit_slots}
use Rattle.descriptors.specs.Refusal.{IsField, IsMethod, IsFirstBad}
use Rattle.descriptors.specs.States.{State, Field, Method, Args, Result, Whole, name_goes_on, turn, is_start, in_field, in_arg, next, bad_end, first_bad, is_field, is_method}
use Rattle.descriptors.proofs.KindLaws.{element_text, starts, slots_first, regrouped}
use Rattle.descriptors.proofs.FirstBad.{first_bad_cons, first_bad_same}

-- ---- what completes a kind

-- the units of a kind that is no array
abbrev pub IsTail : List ℕ → Type 0
IsTail t = ((u : ℕ) × (is_base u ≡ true) × (t ≡ u ∷ [])) ⊎ ((name : List ℕ) × IsClassName name × (t ≡ 76 ∷ (name ++ 59 ∷ [])))

-- the units that complete a kind of which so much was read
abbrev pub Completes : Front → List ℕ → Type 0
Completes (Brackets n) t = (m : ℕ) × (tail : List ℕ) × (n + m ≤ 255) × IsTail tail × (t ≡ brackets m ++ tail)
Completes (Name begun) t = (name : List ℕ) × (are_parts begun name ≡ true) × (t ≡ name ++ 59 ∷ [])

-- what a unit makes of so many brackets
abbrev BracketTurn : ℕ → ℕ → Turn → Type 0
BracketTurn n u t =
    ((u ≡ 91) × (n < 255) × (t ≡ GoesOn (Brackets (n + 1))))
    ⊎ (((u ≡ 76) × (t ≡ GoesOn (Name false)))
    ⊎ (((is_base u ≡ true) × (t ≡ Ends))
    ⊎ (t ≡ Stops)))

-- one of these it is
bracket_turn : (n u : ℕ) → BracketTurn n u (turn (Brackets n) u)
bracket_turn n u = by_tests (eqb u 91) (ltb n 255) (eqb u 76) (is_base u) (eqb-true u 91) (ltb-true n 255) (eqb-true u 76) (λ e. e)
  where
    by_tests : (a b c d : Bool) → (a ≡ true → u ≡ 91) → (b ≡ true → n < 255) → (c ≡ true → u ≡ 76) → (d ≡ true → is_base u ≡ true)
        → BracketTurn n u (cond a (cond b (GoesOn (Brackets (n + 1))) Stops) (cond c (GoesOn (Name false)) (cond d Ends Stops)))
    by_tests true true c d f g h i = inl (f refl, g refl, refl)
    by_tests true false c d f g h i = inr (inr (inr refl))
    by_tests false b true d f g h i = inr (inl (h refl, refl))
    by_tests false b false true f g h i = inr (inr (inl (i refl, refl)))
    by_tests false b false false f g h i = inr (inr (inr refl))

-- what a unit makes of a name
abbrev NameTurn : Bool → ℕ → Turn → Type 0
NameTurn begun u t =
    ((u ≡ 59) × (begun ≡ true) × (t ≡ Ends))
    ⊎ (((name_goes_on begun u ≡ true) × (t ≡ GoesOn (Name (not (eqb u 47)))))
    ⊎ (t ≡ Stops))

-- one of these it is
name_turn : (begun : Bool) (u : ℕ) → NameTurn begun u (turn (Name begun) u)
name_turn begun u = by_tests (eqb u 59) begun (name_goes_on begun u) (eqb-true u 59) (λ e. e) (λ e. e)
  where
    by_tests : (a b c : Bool) → (a ≡ true → u ≡ 59) → (b ≡ true → begun ≡ true) → (c ≡ true → name_goes_on begun u ≡ true)
        → NameTurn begun u (cond a (cond b Ends Stops) (cond c (GoesOn (Name (not (eqb u 47)))) Stops))
    by_tests true true c f g h = inl (f refl, g refl, refl)
    by_tests true false c f g h = inr (inr refl)
    by_tests false b true f g h = inr (inl (h refl, refl))
    by_tests false b false f g h = inr (inr refl)

-- a unit that goes on with a name asks of the rest what the name asked of both
parts_with : (begun : Bool) (u : ℕ) (name : List ℕ) → name_goes_on begun u ≡ true → are_parts (not (eqb u 47)) name ≡ true → are_parts begun (u ∷ name) ≡ true
parts_with begun u name goes rest = step (eqb u 47) goes rest
  where
    step : (slash : Bool) → cond slash begun (is_name_unit u) ≡ true → are_parts (not slash) name ≡ true → cond slash (begun && are_parts false name) (is_name_unit u && are_parts true name) ≡ true
    step true g r = and_from _ _ g r
    step false g r = and_from _ _ g r

-- the other way round
parts_of : (begun : Bool) (u : ℕ) (name : List ℕ) → are_parts begun (u ∷ name) ≡ true → (name_goes_on begun u ≡ true) × (are_parts (not (eqb u 47)) name ≡ true)
parts_of begun u name e = step (eqb u 47) e
  where
    step : (slash : Bool) → cond slash (begun && are_parts false name) (is_name_unit u && are_parts true name) ≡ true → (cond slash begun (is_name_unit u) ≡ true) × (are_parts (not slash) name ≡ true)
    step true h = let p = and_parts begun _ h in (p.0, p.1)
    step false h = let p = and_parts (is_name_unit u) _ h in (p.0, p.1)

-- ---- one unit of what completes a kind

-- no more brackets than an array can have
abbrev pub HasFew : Front → Type 0
HasFew (Brackets n) = n ≤ 255
HasFew (Name begun) = Unit {0}

-- a unit that goes on leaves no more brackets than an array can have
few_more : (front more : Front) (u : ℕ) → turn front u ≡ GoesOn more → HasFew more
few_more (Brackets n) more u e = elim (bracket_turn n u) [
  | inl p ↦ subst HasFew (let same : Brackets (n + 1) ≡ more = cc in same) (let h = p.1 in omega arith)
  | inr q ↦ elim q [
    | inl p ↦ subst HasFew (let same : Name false ≡ more = cc in same) tt
    | inr r ↦ elim r [ inl p ↦ absurd cc | inr p ↦ absurd cc ]
  ]
]
few_more (Name begun) more u e = elim (name_turn begun u) [
  | inl p ↦ absurd cc
  | inr q ↦ elim q [
    | inl p ↦ subst HasFew (let same : Name (not (eqb u 47)) ≡ more = cc in same) tt
    | inr p ↦ absurd cc
  ]
]

-- the last unit
pub end_completes : (front : Front) (u : ℕ) → HasFew front → turn front u ≡ Ends → Completes front (u ∷ [])
end_completes (Brackets n) u few e = elim (bracket_turn n u) [
  | inl p ↦ absurd cc
  | inr q ↦ elim q [
    | inl p ↦ absurd cc
    | inr r ↦ elim r [
      | inl p ↦ (0, u ∷ [], omega (arith, few), inl (u, p.0, refl), refl)
      | inr p ↦ absurd cc
    ]
  ]
]
end_completes (Name begun) u few e = elim (name_turn begun u) [
  | inl p ↦ ([], p.1, ap (λ (x : ℕ). x ∷ []) p.0)
  | inr q ↦ elim q [ inl p ↦ absurd cc | inr p ↦ absurd cc ]
]

-- a unit before the others
pub more_completes : (front more : Front) (u : ℕ) (t : List ℕ) → HasFew front → turn front u ≡ GoesOn more → Completes more t → Completes front (u ∷ t)
more_completes (Brackets n) more u t few e c = elim (bracket_turn n u) [
  | inl p ↦
      let d = subst (λ (x : Front). Completes x t) (let same : more ≡ Brackets (n + 1) = cc in same) c in
      (suc d.0, d.1, (let h = d.2 in omega arith), d.3, ap (λ (x : List ℕ). u ∷ x) d.4 ∙ ap (λ (x : ℕ). x ∷ (brackets d.0 ++ d.1)) p.0)
  | inr q ↦ elim q [
    | inl p ↦
        let d = subst (λ (x : Front). Completes x t) (let same : more ≡ Name false = cc in same) c in
        (0, u ∷ t, omega (arith, few), inr (d.0, d.1, ap (λ (x : List ℕ). u ∷ x) d.2 ∙ ap (λ (x : ℕ). x ∷ (d.0 ++ 59 ∷ [])) p.0), refl)
    | inr r ↦ elim r [ inl p ↦ absurd cc | inr p ↦ absurd cc ]
  ]
]
more_completes (Name begun) more u t few e c = elim (name_turn begun u) [
  | inl p ↦ absurd cc
  | inr q ↦ elim q [
    | inl p ↦
        let d = subst (λ (x : Front). Completes x t) (let same : more ≡ Name (not (eqb u 47)) = cc in same) c in
        (u ∷ d.0, parts_with begun u d.0 p.0 d.1, ap (λ (x : List ℕ). u ∷ x) d.2)
    | inr p ↦ absurd cc
  ]
]

-- the first unit of what completes a kind
pub record First (front : Front) (t : List ℕ) : Type 0 where
  pub unit : ℕ
  pub behind : List ℕ
  pub parts : t ≡ unit ∷ behind
  pub turns : ((turn front unit ≡ Ends) × (behind ≡ [])) ⊎ ((more : Front) × (turn front unit ≡ GoesOn more) × Completes more behind)

-- a kind of one unit ends there
base_turn : (n u : ℕ) → is_base u ≡ true → turn (Brackets n) u ≡ Ends
base_turn n u e = grind (arith, nat_tests)

-- one bracket more
bracket_goes : (n : ℕ) → n < 255 → turn (Brackets n) 91 ≡ GoesOn (Brackets (n + 1))
bracket_goes n less = ap (λ (b : Bool). cond b (GoesOn (Brackets (n + 1))) Stops) (lt-ltb n 255 less)

-- a semicolon ends a name
name_ends : (begun : Bool) → begun ≡ true → turn (Name begun) 59 ≡ Ends
name_ends begun e = ap (λ (b : Bool). cond b Ends Stops) e

-- a unit of a name goes on with it
name_goes : (begun : Bool) (u : ℕ) → name_goes_on begun u ≡ true → turn (Name begun) u ≡ GoesOn (Name (not (eqb u 47)))
name_goes begun u e = by_tests (eqb u 59) (name_goes_on begun u) (λ h. no_semicolon (eqb-true u 59 h)) e
  where
    no_semicolon : u ≡ 59 → ⊥
    no_semicolon same = let none : name_goes_on begun 59 ≡ true = subst (λ (x : ℕ). name_goes_on begun x ≡ true) same e in cc

    by_tests : (a b : Bool) → (a ≡ true → ⊥) → b ≡ true → cond a (cond begun Ends Stops) (cond b (GoesOn (Name (not (eqb u 47)))) Stops) ≡ GoesOn (Name (not (eqb u 47)))
    by_tests true b f g = absurd (f refl)
    by_tests false true f g = refl
    by_tests false false f g = absurd cc

-- what completes a kind has a first unit
pub first_of_rest : (front : Front) (t : List ℕ) → Completes front t → First front t
first_of_rest (Brackets n) t c = of_brackets c.0 c.1 c.2 c.3 c.4
  where
    of_brackets : (m : ℕ) (tail : List ℕ) → n + m ≤ 255 → IsTail tail → t ≡ brackets m ++ tail → First (Brackets n) t
    of_brackets zero tail few is_tail e = elim is_tail [
      | inl p ↦ record { unit = p.0; behind = []; parts = e ∙ p.2; turns = inl (base_turn n p.0 p.1, refl) }
      | inr p ↦ record { unit = 76; behind = p.0 ++ 59 ∷ []; parts = e ∙ p.2; turns = inr (Name false, refl, (p.0, p.1, refl)) }
    ]
    of_brackets (suc m) tail few is_tail e = record {
      unit = 91;
      behind = brackets m ++ tail;
      parts = e;
      turns = inr (Brackets (n + 1), bracket_goes n (omega arith), (m, tail, omega arith, is_tail, refl));
    }
first_of_rest (Name begun) t c = of_name c.0 c.1 c.2
  where
    of_name : (name : List ℕ) → are_parts begun name ≡ true → t ≡ name ++ 59 ∷ [] → First (Name begun) t
    of_name [] is_name e = record { unit = 59; behind = []; parts = e; turns = inl (name_ends begun is_name, refl) }
    of_name (u ∷ name) is_name e =
        let p = parts_of begun u name is_name in
        record { unit = u; behind = name ++ 59 ∷ []; parts = e; turns = inr (Name (not (eqb u 47)), name_goes begun u p.0, (name, p.1, refl)) }

-- what completes a kind, after its first unit
kind_steps : (front : Front) (u : ℕ) (t : List ℕ) → Completes front (u ∷ t) → ((turn front u ≡ Ends) × (t ≡ [])) ⊎ ((more : Front) × (turn front u ≡ GoesOn more) × Completes more t)
kind_steps front u t c =
    let f = first_of_rest front (u ∷ t) c in
    let same : f.unit ≡ u = let h = f.parts in cc in
    let others : f.behind ≡ t = let h = f.parts in cc in
    elim f.turns [
      | inl p ↦ inl (ap (turn front) (sym same) ∙ p.0, sym others ∙ p.1)
      | inr p ↦ inr (p.0, ap (turn front) (sym same) ∙ p.1, subst (Completes p.0) others p.2)
    ]

not_ended : (front : Front) → Completes front [] → ⊥
not_ended front c = let f = first_of_rest front [] c in let h = f.parts in cc

some_end : (front : Front) → HasFew front → (t : List ℕ) × Completes front t
some_end (Brackets n) few = (73 ∷ [], (0, 73 ∷ [], omega (arith, few), inl (73, refl, refl), refl))
some_end (Name true) few = (59 ∷ [], ([], refl, refl))
some_end (Name false) few = (97 ∷ 59 ∷ [], (97 ∷ [], refl, refl))

-- ---- a kind and its units

-- the type of one unit
base_type : (u : ℕ) → is_base u ≡ true → (k : ElementType) × IsElement k × (element_spelling k ≡ u ∷ [])
base_type u e =
    by_tests (eqb u 66) (eqb u 67) (eqb u 68) (eqb u 70) (eqb u 73) (eqb u 74) (eqb u 83) (eqb u 90)
    (eqb-true u 66) (eqb-true u 67) (eqb-true u 68) (eqb-true u 70) (eqb-true u 73) (eqb-true u 74) (eqb-true u 83) (eqb-true u 90) e
  where
    is_it : (k : ElementType) (v : ℕ) → IsElement k → element_spelling k ≡ v ∷ [] → u ≡ v → (k : ElementType) × IsElement k × (element_spelling k ≡ u ∷ [])
    is_it k v fit spelled same = (k, fit, spelled ∙ ap (λ (x : ℕ). x ∷ []) (sym same))

    by_tests : (a b c d f g h i : Bool) → (a ≡ true → u ≡ 66) → (b ≡ true → u ≡ 67) → (c ≡ true → u ≡ 68) → (d ≡ true → u ≡ 70)
        → (f ≡ true → u ≡ 73) → (g ≡ true → u ≡ 74) → (h ≡ true → u ≡ 83) → (i ≡ true → u ≡ 90)
        → (a || (b || (c || (d || (f || (g || (h || (i || false)))))))) ≡ true → (k : ElementType) × IsElement k × (element_spelling k ≡ u ∷ [])
    by_tests true b c d f g h i p q r s t v w x e = is_it Byte 66 tt refl (p refl)
    by_tests false true c d f g h i p q r s t v w x e = is_it Char 67 tt refl (q refl)
    by_tests false false true d f g h i p q r s t v w x e = is_it Double 68 tt refl (r refl)
    by_tests false false false true f g h i p q r s t v w x e = is_it Float 70 tt refl (s refl)
    by_tests false false false false true g h i p q r s t v w x e = is_it Int 73 tt refl (t refl)
    by_tests false false false false false true h i p q r s t v w x e = is_it Long 74 tt refl (v refl)
    by_tests false false false false false false true i p q r s t v w x e = is_it Short 83 tt refl (w refl)
    by_tests false false false false false false false true p q r s t v w x e = is_it elements.Bool 90 tt refl (x refl)
    by_tests false false false false false false false false p q r s t v w x e = absurd cc

-- the kind whose units were completed
pub kind_of_units : (t : List ℕ) → Completes (Brackets 0) t → (k : Kind) × IsKind k × (t ≡ spelling k)
kind_of_units t c = elim c.3 [
  | inl p ↦ let b = base_type p.0 p.1 in with_element b.0 b.1 (p.2 ∙ sym b.2)
  | inr p ↦ with_element (Class p.0) p.1 p.2
]
  where
    with_element : (element : ElementType) → IsElement element → c.1 ≡ element_spelling element → (k : Kind) × IsKind k × (t ≡ spelling k)
    with_element element fit e = (
      record { dimensions = c.0; element = element },
      record { few = (let few = c.2 in omega arith); element = fit },
      c.4 ∙ ap (λ (x : List ℕ). brackets c.0 ++ x) e,
    )

-- a kind's units complete it from the start
pub units_of_kind : (k : Kind) → IsKind k → Completes (Brackets 0) (spelling k)
units_of_kind k fit = (k.dimensions, element_spelling k.element, (let few = fit.few in omega arith), element_text k.element fit.element, refl)

-- ---- the descriptor of a field

-- ---- the rest of a method's descriptor

-- the rest, where so many slots are used and nothing was read of a kind
pub record IsRest (taken : ℕ) (units : List ℕ) : Type 0 where
  pub args : List Kind
  pub fit : AllByRecursion IsKind args
  pub few : taken + sum_by slots args ≤ 255
  pub result : Option Kind
  pub is_result : IsResult result
  pub parts : units ≡ flat_map spelling args ++ 41 ∷ result_spelling result

-- the rest, where so much was read of a kind, whose slots are used
pub record IsRestWithin (taken : ℕ) (front : Front) (units : List ℕ) : Type 0 where
  pub kind : List ℕ
  pub completes : Completes front kind
  pub behind : List ℕ
  pub parts : units ≡ kind ++ behind
  pub rest : IsRest taken behind

-- the rest, with whether nothing was read of a kind
abbrev pub IsRestAt : Bool → ℕ → Front → List ℕ → Type 0
IsRestAt true taken front units = IsRest taken units
IsRestAt false taken front units = IsRestWithin taken front units

-- at a start no bracket was read
start_is : (front : Front) → is_start front ≡ true → front ≡ Brackets 0
start_is (Brackets n) e = ap (λ (k : ℕ). Brackets k) (eqb-true n 0 e)
start_is (Name begun) e = absurd cc

-- after a unit that goes on something was read
not_start : (front more : Front) (u : ℕ) → turn front u ≡ GoesOn more → is_start more ≡ false
not_start (Brackets n) more u e = elim (bracket_turn n u) [
  | inl p ↦ ap is_start (let same : more ≡ Brackets (n + 1) = cc in same) ∙ (grind (arith, nat_tests))
  | inr q ↦ elim q [
    | inl p ↦ ap is_start (let same : more ≡ Name false = cc in same)
    | inr r ↦ elim r [ inl p ↦ absurd cc | inr p ↦ absurd cc ]
  ]
]
not_start (Name begun) more u e = elim (name_turn begun u) [
  | inl p ↦ absurd cc
  | inr q ↦ elim q [
    | inl p ↦ ap is_start (let same : more ≡ Name (not (eqb u 47)) = cc in same)
    | inr p ↦ absurd cc
  ]
]

-- the kind that a unit begins is the first argument
argument_of : (taken u : ℕ) (us : List ℕ) → IsRestWithin (taken + unit_slots u) (Brackets 0) (u ∷ us) → IsRest taken (u ∷ us)
argument_of taken u us w =
    let k = kind_of_units w.kind w.completes in
    let whole : spelling k.0 ++ w.behind ≡ u ∷ us = ap (λ (x : List ℕ). x ++ w.behind) (sym k.2) ∙ sym w.parts in
    record {
      args = k.0 ∷ w.rest.args;
      fit = (k.1, w.rest.fit);
      few = omega (arith, w.rest.few, sum_by-cons slots k.0 w.rest.args, slots_first k.0 w.behind u us whole);
      result = w.rest.result;
      is_result = w.rest.is_result;
      parts = sym whole ∙ ap (λ (x : List ℕ). spelling k.0 ++ x) w.rest.parts ∙ sym (regrouped k.0 w.rest.args (41 ∷ result_spelling w.rest.result));
    }

-- the other way round
argument_front : (taken u : ℕ) (us : List ℕ) (k : Kind) (ks : List Kind) (r : Option Kind) → AllByRecursion IsKind (k ∷ ks) → taken + sum_by slots (k ∷ ks) ≤ 255 → IsResult r
    → u ∷ us ≡ flat_map spelling (k ∷ ks) ++ 41 ∷ result_spelling r → IsRestWithin (taken + unit_slots u) (Brackets 0) (u ∷ us)
argument_front taken u us k ks r fit few is_r e =
    let whole : u ∷ us ≡ spelling k ++ (flat_map spelling ks ++ 41 ∷ result_spelling r) = e ∙ regrouped k ks (41 ∷ result_spelling r) in
    record {
      kind = spelling k;
      completes = units_of_kind k fit.0;
      behind = flat_map spelling ks ++ 41 ∷ result_spelling r;
      parts = whole;
      rest = record {
        args = ks;
        fit = fit.1;
        few = omega (arith, few, sum_by-cons slots k ks, slots_first k (flat_map spelling ks ++ 41 ∷ result_spelling r) u us (sym whole));
        result = r;
        is_result = is_r;
        parts = refl;
      };
    }

-- the rest isn't empty
some_args_text : (args : List Kind) (x : List ℕ) → AllByRecursion IsKind args → flat_map spelling args ++ 41 ∷ x ≡ [] → ⊥
some_args_text [] x fit e = cc
some_args_text (k ∷ ks) x fit e =
    let s = starts k (flat_map spelling ks ++ 41 ∷ x) fit.0 in
    let none : s.0 ∷ s.1 ≡ [] = sym s.2 ∙ sym (regrouped k ks (41 ∷ x)) ∙ e in
    cc

-- nor is it so within a kind
no_rest : (start : Bool) (taken : ℕ) (front : Front) → IsRestAt start taken front [] → ⊥
no_rest true taken front r = some_args_text r.args (result_spelling r.result) r.fit (sym r.parts)
no_rest false taken front w =
    let f = first_of_rest front w.kind w.completes in
    let none : f.unit ∷ (f.behind ++ w.behind) ≡ [] = sym (w.parts ∙ ap (λ (x : List ℕ). x ++ w.behind) f.parts) in
    cc

-- ---- what completes a descriptor

abbrev Rest : State → List ℕ → Type 0
Rest (Field front) t = Completes front t
Rest Method t = IsMethod t
Rest (Args taken front) t = IsRestAt (is_start front) taken front t
Rest Result t = (r : Option Kind) × IsResult r × (t ≡ result_spelling r)
Rest Whole t = t ≡ []

abbrev IsState : State → Type 0
IsState (Field front) = HasFew front
IsState (Args taken front) = HasFew front × (taken ≤ 255)
IsState state = Unit {0}

-- the state after a unit of an argument
abbrev behind_arg : ℕ → Turn → Option State
behind_arg taken t = elim t [ Ends ↦ Some (Args taken (Brackets 0)) | GoesOn more ↦ Some (Args taken more) | Stops ↦ None ]

-- ---- a unit of what completes it

-- the state after this unit, and what completes that
abbrev StepsOn : Option State → List ℕ → Type 0
StepsOn o t = (more : State) × (o ≡ Some more) × Rest more t

field_steps : (front : Front) (u : ℕ) (t : List ℕ) → Completes front (u ∷ t) → StepsOn (in_field (turn front u)) t
field_steps front u t c = elim (kind_steps front u t c) [
  | inl p ↦ (Whole, ap in_field p.0, p.1)
  | inr p ↦ (Field p.0, ap in_field p.1, p.2)
]

arg_steps : (taken : ℕ) (front : Front) (u : ℕ) (t : List ℕ) → IsRestWithin taken front (u ∷ t) → StepsOn (in_arg taken (turn front u)) t
arg_steps taken front u t w =
    let f = first_of_rest front w.kind w.completes in
    let whole : u ∷ t ≡ f.unit ∷ (f.behind ++ w.behind) = w.parts ∙ ap (λ (x : List ℕ). x ++ w.behind) f.parts in
    let same : f.unit ≡ u = cc in
    let others : t ≡ f.behind ++ w.behind = cc in
    let few = w.rest.few in
    let room : ltb 255 taken ≡ false = le-ltb 255 taken (omega arith) in
    let roomy : in_arg taken (turn front u) ≡ behind_arg taken (turn front u) = ap (λ (b : Bool). cond b None (behind_arg taken (turn front u))) room in
    elim f.turns [
      | inl q ↦
          let all : w.behind ≡ t = sym (others ∙ ap (λ (x : List ℕ). x ++ w.behind) q.1) in
          (Args taken (Brackets 0), roomy ∙ ap (behind_arg taken) (ap (turn front) (sym same) ∙ q.0), subst (λ (x : List ℕ). IsRest taken x) all w.rest)
      | inr q ↦
          let turns : turn front u ≡ GoesOn q.0 = ap (turn front) (sym same) ∙ q.1 in (
            Args taken q.0,
            roomy ∙ ap (behind_arg taken) turns,
            subst (λ (b : Bool). IsRestAt b taken q.0 t) (sym (not_start front q.0 u turns)) (record { kind = f.behind; completes = q.2; behind = w.behind; parts = others; rest = w.rest }),
          )
    ]

args_step : (taken : ℕ) (front : Front) (u : ℕ) (t : List ℕ) (start : Bool) → (start ≡ true → front ≡ Brackets 0) → IsRestAt start taken front (u ∷ t)
    → StepsOn (cond (start && eqb u 41) (Some Result) (in_arg (cond start (taken + unit_slots u) taken) (turn front u))) t
args_step taken front u t false at w = arg_steps taken front u t w
args_step taken front u t true at r = by_args r.args r.fit r.few r.result r.is_result r.parts
  where
    by_args : (args : List Kind) → AllByRecursion IsKind args → taken + sum_by slots args ≤ 255 → (r : Option Kind) → IsResult r → u ∷ t ≡ flat_map spelling args ++ 41 ∷ result_spelling r
        → StepsOn (cond (eqb u 41) (Some Result) (in_arg (taken + unit_slots u) (turn front u))) t
    by_args [] fit few r is_r e =
        let end : u ≡ 41 = cc in
        let rest : t ≡ result_spelling r = cc in
        (Result, rw (eq-eqb u 41 end) refl, (r, is_r, rest))
    by_args (k ∷ ks) fit few r is_r e =
        let s = starts k (flat_map spelling ks ++ 41 ∷ result_spelling r) fit.0 in
        let whole : u ∷ t ≡ s.0 ∷ s.1 = e ∙ regrouped k ks (41 ∷ result_spelling r) ∙ s.2 in
        let same : s.0 ≡ u = cc in
        let other : eqb u 41 ≡ false = ne_eqb u 41 (λ h. s.3 (same ∙ h)) in
        rw other (arg_steps (taken + unit_slots u) front u t (subst (λ (x : Front). IsRestWithin (taken + unit_slots u) x (u ∷ t)) (sym (at refl)) (argument_front taken u t k ks r fit few is_r e)))

result_step : (u : ℕ) (t : List ℕ) (r : Option Kind) → IsResult r → u ∷ t ≡ result_spelling r → StepsOn (next Result u) t
result_step u t None fit e =
    let void : u ≡ 86 = cc in
    let ended : t ≡ [] = cc in
    (Whole, rw (eq-eqb u 86 void) refl, ended)
result_step u t (Some k) fit e =
    let s = starts k [] fit in
    let whole : u ∷ t ≡ s.0 ∷ s.1 = e ∙ sym (append-nil (spelling k)) ∙ s.2 in
    let same : s.0 ≡ u = cc in
    let other : eqb u 86 ≡ false = ne_eqb u 86 (λ h. s.4 (same ∙ h)) in
    rw other (field_steps (Brackets 0) u t (subst (Completes (Brackets 0)) (sym e) (units_of_kind k fit)))

steps_on : (state : State) (u : ℕ) (t : List ℕ) → Rest state (u ∷ t) → StepsOn (next state u) t
steps_on (Field front) u t c = field_steps front u t c
steps_on Method u t m =
    let e = m.2 in
    let first : u ≡ 40 = cc in
    let rest : t ≡ flat_map spelling m.0.args ++ 41 ∷ result_spelling m.0.result = cc in
    let fit = m.1 in
    (Args 0 (Brackets 0), rw (eq-eqb u 40 first) refl, record { args = m.0.args; fit = fit.args; few = omega (arith, fit.slots_fit); result = m.0.result; is_result = fit.result; parts = rest })
steps_on (Args taken front) u t r = args_step taken front u t (is_start front) (start_is front) r
steps_on Result u t r = result_step u t r.0 r.1 r.2
steps_on Whole u t e = absurd cc

-- ---- a unit before what completes the state after it

abbrev StepsBack : State → (List ℕ → Type 0) → ℕ → List ℕ → Type 0
StepsBack more P u t = IsState more × (Rest more t → P (u ∷ t))

given : (o : Option State) (s more : State) (P : List ℕ → Type 0) (u : ℕ) (t : List ℕ) → o ≡ Some s → o ≡ Some more → StepsBack s P u t → StepsBack more P u t
given o s more P u t e f back = subst (λ (x : State). StepsBack x P u t) (same_Some s more (sym e ∙ f)) back

field_back : (front : Front) (u : ℕ) (t : List ℕ) (more : State) (turns : Turn) → HasFew front → turn front u ≡ turns → in_field turns ≡ Some more → StepsBack more (Completes front) u t
field_back front u t more Ends few e f = given (Some Whole) Whole more (Completes front) u t refl f (tt, λ h. subst (λ (x : List ℕ). Completes front (u ∷ x)) (sym h) (end_completes front u few e))
field_back front u t more (GoesOn m) few e f = given (Some (Field m)) (Field m) more (Completes front) u t refl f (few_more front m u e, λ c. more_completes front m u t few e c)
field_back front u t more Stops few e f = absurd cc

arg_back : (taken : ℕ) (front : Front) (u : ℕ) (t : List ℕ) (more : State) (turns : Turn) (full : Bool) → HasFew front → turn front u ≡ turns → (full ≡ false → taken ≤ 255) → cond full None (behind_arg taken turns) ≡ Some more
    → StepsBack more (IsRestWithin taken front) u t
arg_back taken front u t more turns true few e room f = absurd cc
arg_back taken front u t more Ends false few e room f = given (Some (Args taken (Brackets 0))) (Args taken (Brackets 0)) more (IsRestWithin taken front) u t refl f (
  (omega arith, room refl),
  λ r. record { kind = u ∷ []; completes = end_completes front u few e; behind = t; parts = refl; rest = r },
)
arg_back taken front u t more (GoesOn m) false few e room f = given (Some (Args taken m)) (Args taken m) more (IsRestWithin taken front) u t refl f (
  (few_more front m u e, room refl),
  λ r.
      let w : IsRestWithin taken m t = subst (λ (b : Bool). IsRestAt b taken m t) (not_start front m u e) r in
      record { kind = u ∷ w.kind; completes = more_completes front m u w.kind few e w.completes; behind = w.behind; parts = ap (λ (x : List ℕ). u ∷ x) w.parts; rest = w.rest },
)
arg_back taken front u t more Stops false few e room f = absurd cc

args_back : (taken : ℕ) (front : Front) (u : ℕ) (t : List ℕ) (more : State) (start end : Bool) → HasFew front → taken ≤ 255 → (start ≡ true → front ≡ Brackets 0) → (end ≡ true → u ≡ 41)
    → cond (start && end) (Some Result) (in_arg (cond start (taken + unit_slots u) taken) (turn front u)) ≡ Some more → StepsBack more (IsRestAt start taken front) u t
args_back taken front u t more false end few room at ended f = arg_back taken front u t more (turn front u) (ltb 255 taken) few refl (ltb-false 255 taken) f
args_back taken front u t more true true few room at ended f = given (Some Result) Result more (IsRest taken) u t refl f (
  tt,
  λ r. record { args = []; fit = tt; few = omega (arith, room); result = r.0; is_result = r.1; parts = ap (λ (x : List ℕ). u ∷ x) r.2 ∙ ap (λ (x : ℕ). x ∷ result_spelling r.0) (ended refl) },
)
args_back taken front u t more true false few room at ended f =
    let sum = taken + unit_slots u in
    let back = arg_back sum front u t more (turn front u) (ltb 255 sum) few refl (ltb-false 255 sum) f in
    (back.0, λ r. argument_of taken u t (subst (λ (x : Front). IsRestWithin sum x (u ∷ t)) (at refl) (back.1 r)))

method_back : (u : ℕ) (t : List ℕ) (more : State) (opens : Bool) → (opens ≡ true → u ≡ 40) → cond opens (Some (Args 0 (Brackets 0))) None ≡ Some more → StepsBack more IsMethod u t
method_back u t more false is f = absurd cc
method_back u t more true is f = given (Some (Args 0 (Brackets 0))) (Args 0 (Brackets 0)) more IsMethod u t refl f (
  (omega arith, omega arith),
  λ r. (
    record { args = r.args; result = r.result },
    record { args = r.fit; slots_fit = (let few = r.few in omega arith); result = r.is_result },
    ap (λ (x : List ℕ). u ∷ x) r.parts ∙ ap (λ (x : ℕ). x ∷ (flat_map spelling r.args ++ 41 ∷ result_spelling r.result)) (is refl),
  ),
)

result_back : (u : ℕ) (t : List ℕ) (more : State) (void : Bool) → (void ≡ true → u ≡ 86) → cond void (Some Whole) (in_field (turn (Brackets 0) u)) ≡ Some more → StepsBack more (Rest Result) u t
result_back u t more true voids f = given (Some Whole) Whole more (Rest Result) u t refl f (tt, λ h. (None, tt, ap (λ (x : List ℕ). u ∷ x) h ∙ ap (λ (x : ℕ). x ∷ []) (voids refl)))
result_back u t more false voids f =
    let back = field_back (Brackets 0) u t more (turn (Brackets 0) u) (omega arith) refl f in
    (back.0, λ r. let k = kind_of_units (u ∷ t) (back.1 r) in (Some k.0, k.1, k.2))

steps_back : (state : State) (u : ℕ) (t : List ℕ) (more : State) → IsState state → next state u ≡ Some more → StepsBack more (Rest state) u t
steps_back (Field front) u t more is f = field_back front u t more (turn front u) is refl f
steps_back Method u t more is f = method_back u t more (eqb u 40) (eqb-true u 40) f
steps_back (Args taken front) u t more is f = args_back taken front u t more (is_start front) (eqb u 41) is.0 is.1 (start_is front) (eqb-true u 41) f
steps_back Result u t more is f = result_back u t more (eqb u 86) (eqb-true u 86) f
steps_back Whole u t more is f = absurd cc

-- ---- the end of the units

end_is : (state : State) (at : ℕ) → bad_end state at ≡ None → Rest state []
end_is Whole at e = refl
end_is (Field front) at e = absurd cc
end_is Method at e = absurd cc
end_is (Args taken front) at e = absurd cc
end_is Result at e = absurd cc

no_result : (r : Option Kind) → IsResult r → [] ≡ result_spelling r → ⊥
no_result None fit e = cc
no_result (Some k) fit e = let s = starts k [] fit in let none : [] ≡ s.0 ∷ s.1 = e ∙ sym (append-nil (spelling k)) ∙ s.2 in cc

is_end : (state : State) (at : ℕ) → Rest state [] → bad_end state at ≡ None
is_end Whole at r = refl
is_end (Field front) at r = absurd (not_ended front r)
is_end Method at r = let e = r.2 in absurd cc
is_end (Args taken front) at r = absurd (no_rest (is_start front) taken front r)
is_end Result at r = absurd (no_result r.0 r.1 r.2)

some_args : (start : Bool) (taken : ℕ) (front : Front) → HasFew front → taken ≤ 255 → (t : List ℕ) × IsRestAt start taken front t
some_args true taken front few room = (41 ∷ 86 ∷ [], record { args = []; fit = tt; few = omega (arith, room); result = None; is_result = tt; parts = refl })
some_args false taken front few room =
    let t = some_end front few in
    let rest : IsRest taken (41 ∷ 86 ∷ []) = record { args = []; fit = tt; few = omega (arith, room); result = None; is_result = tt; parts = refl } in
    (t.0 ++ 41 ∷ 86 ∷ [], record { kind = t.0; completes = t.1; behind = 41 ∷ 86 ∷ []; parts = refl; rest = rest })

-- each state can be completed
some_rest : (state : State) → IsState state → (t : List ℕ) × Rest state t
some_rest (Field front) is = some_end front is
some_rest Method is = (40 ∷ 41 ∷ 86 ∷ [], (record { args = []; result = None }, record { args = tt; slots_fit = omega arith; result = tt }, refl))
some_rest (Args taken front) is = some_args (is_start front) taken front is.0 is.1
some_rest Result is = (86 ∷ [], (None, tt, refl))
some_rest Whole is = ([], refl)

-- ---- the first bad unit

abbrev bad_behind : ℕ → List ℕ → Option State → Option ℕ
bad_behind at us o = elim o [ None ↦ Some at | Some more ↦ first_bad more (at + 1) us ]

sound : (us : List ℕ) (state : State) (at : ℕ) → IsState state → first_bad state at us ≡ None → Rest state us
sound [] state at is e = end_is state at e
sound (u ∷ us) state at is e = by_next (next state u) refl (sound us) e
  where
    by_next : (o : Option State) → next state u ≡ o → ((more : State) (at : ℕ) → IsState more → first_bad more at us ≡ None → Rest more us) → bad_behind at us o ≡ None → Rest state (u ∷ us)
    by_next None same again h = absurd cc
    by_next (Some more) same again h = let back = steps_back state u us more is same in back.1 (again more (at + 1) back.0 h)

complete : (us : List ℕ) (state : State) (at : ℕ) → Rest state us → first_bad state at us ≡ None
complete [] state at r = is_end state at r
complete (u ∷ us) state at r = let s = steps_on state u us r in ap (bad_behind at us) s.1 ∙ complete us s.0 (at + 1) s.2

-- the unit at that distance is the first bad one
abbrev IsBadFrom : State → List ℕ → ℕ → ℕ → Type 0
IsBadFrom state us at bad = (k : ℕ) × (bad ≡ at + k) × IsFirstBad (Rest state) us k

bad_from : (us : List ℕ) (state : State) (at bad : ℕ) → IsState state → first_bad state at us ≡ Some bad → IsBadFrom state us at bad
bad_from [] state at bad is e = (
  0,
  here state e,
  record {
    inside = omega arith;
    begins = some_rest state is;
    stops = λ lt b. omega (arith, lt);
    no_end = λ same r. let ends = is_end state at r in cc;
  },
)
  where
    here : (s : State) → bad_end s at ≡ Some bad → bad ≡ at + 0
    here (Field front) h = let same : at ≡ bad = cc in omega arith
    here Method h = let same : at ≡ bad = cc in omega arith
    here (Args taken front) h = let same : at ≡ bad = cc in omega arith
    here Result h = let same : at ≡ bad = cc in omega arith
    here Whole h = absurd cc
bad_from (u ∷ us) state at bad is e = by_next (next state u) refl (bad_from us) e
  where
    only : (more : State) (t : List ℕ) → next state u ≡ Some more → Rest state (u ∷ t) → Rest more t
    only more t same r = let s = steps_on state u t r in subst (λ (x : State). Rest x t) (same_Some s.0 more (sym s.1 ∙ same)) s.2

    by_next : (o : Option State) → next state u ≡ o → ((more : State) (at bad : ℕ) → IsState more → first_bad more at us ≡ Some bad → IsBadFrom more us at bad) → bad_behind at us o ≡ Some bad → IsBadFrom state (u ∷ us) at bad
    by_next None same again h = (
      0,
      (let here : at ≡ bad = cc in omega arith),
      record {
        inside = omega arith;
        begins = some_rest state is;
        stops = λ lt b. let s = steps_on state u b.0 b.1 in let some = s.1 in cc;
        no_end = λ none r. omega (arith, none);
      },
    )
    by_next (Some more) same again h =
        let b = again more (at + 1) bad (steps_back state u us more is same).0 h in
        (suc b.0, omega (arith, b.1), first_bad_cons (Rest state) (Rest more) u us b.0 (λ t. (steps_back state u t more is same).1) (λ t. only more t same) b.2)

-- ---- fields and methods

none_of : (o : Option ℕ) → is_none o ≡ true → o ≡ None
none_of None e = refl
none_of (Some n) e = absurd cc

units_of_field : (units : List ℕ) → IsField units → Completes (Brackets 0) units
units_of_field units f = subst (Completes (Brackets 0)) (sym f.2) (units_of_kind f.0 f.1)

pub field_text : (units : List ℕ) → first_bad (Field (Brackets 0)) 0 units ≡ None → IsField units
field_text units e = kind_of_units units (sound units (Field (Brackets 0)) 0 (omega arith) e)

pub method_text : (units : List ℕ) → first_bad Method 0 units ≡ None → IsMethod units
method_text units e = sound units Method 0 tt e

pub field_decides : (units : List ℕ) → (is_field units ≡ true) ↔ IsField units
field_decides units = (λ e. field_text units (none_of _ e), λ f. ap is_none (complete units (Field (Brackets 0)) 0 (units_of_field units f)))

pub method_decides : (units : List ℕ) → (is_method units ≡ true) ↔ IsMethod units
method_decides units = (λ e. method_text units (none_of _ e), λ m. ap is_none (complete units Method 0 m))

pub field_bad : (units : List ℕ) (bad : ℕ) → first_bad (Field (Brackets 0)) 0 units ≡ Some bad → IsFirstBad IsField units bad
field_bad units bad e =
    let b = bad_from units (Field (Brackets 0)) 0 bad (omega arith) e in
    let same : b.0 ≡ bad = omega (arith, b.1) in
    subst (λ (k : ℕ). IsFirstBad IsField units k) same (first_bad_same (Completes (Brackets 0)) IsField units b.0 kind_of_units units_of_field b.2)

pub method_bad : (units : List ℕ) (bad : ℕ) → first_bad Method 0 units ≡ Some bad → IsFirstBad IsMethod units bad
method_bad units bad e =
    let b = bad_from units Method 0 bad tt e in
    let same : b.0 ≡ bad = omega (arith, b.1) in
    subst (λ (k : ℕ). IsFirstBad IsMethod units k) same b.2
