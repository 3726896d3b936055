-- A kind's descriptor is so many brackets and an element, and none is the front of another.
use Rattle.std.proofs.Common.{◌≡◌, ◌≢◌, ℕ, zero, suc, ◌<◌, ◌≤◌, Bool, true, false, cond, eqb, List, [], ◌∷◌, ◌++◌, refl, sym, ap, subst, ◌∙◌, append_assoc, arith, ◌⊎◌, inl, inr}
use Rattle.std.specs.Prelude.{◌&&◌}
use Rattle.std.specs.List.{flat_map}
use Rattle.std.proofs.lemmas.Bool.{ne_eqb}
use Rattle.std.proofs.lemmas.List.Concat.{flat_map-cons}
use Rattle.descriptors.specs.declared.kind.ElementType.{ElementType}
use Rattle.descriptors.specs.declared.kind.ElementType.TheVariants.{Byte, Char, Double, Float, Int, Long, Short, Class}
use Rattle.descriptors.specs.declared.kind.ElementType.TheVariants as elements
use Rattle.descriptors.specs.declared.kind.Kind.{Kind}
use Rattle.descriptors.specs.Descriptors.{brackets, element_spelling, spelling, element_slots, slots, unit_slots, is_base, is_name_unit, are_parts, IsClassName, IsElement, IsKind}

-- ---- a kind is a number of brackets and an element

-- an element is one unit, or a name
abbrev pub ElementText : ElementType → Type 0
ElementText element = ((u : ℕ) × (is_base u ≡ true) × (element_spelling element ≡ u ∷ [])) ⊎ ((name : List ℕ) × IsClassName name × (element_spelling element ≡ 76 ∷ (name ++ 59 ∷ [])))

pub element_text : (element : ElementType) → IsElement element → ElementText element
element_text Byte fit = inl (66, refl, refl)
element_text Char fit = inl (67, refl, refl)
element_text Double fit = inl (68, refl, refl)
element_text Float fit = inl (70, refl, refl)
element_text Int fit = inl (73, refl, refl)
element_text Long fit = inl (74, refl, refl)
element_text Short fit = inl (83, refl, refl)
element_text elements.Bool fit = inl (90, refl, refl)
element_text (Class name) fit = inr (name, fit, refl)

pub differ : (m n a b : ℕ) (x y : List ℕ) → a ≢ 91 → brackets m ++ a ∷ x ≡ brackets n ++ b ∷ y → ((m ≡ n) × (a ∷ x ≡ b ∷ y)) ⊎ ((n < m) × (b ≡ 91))
differ zero zero a b x y ne e = inl (refl, e)
differ zero (suc n) a b x y ne e = let same : a ≡ 91 = cc in absurd (ne same)
differ (suc m) zero a b x y ne e = let same : b ≡ 91 = cc in inr (omega arith, same)
differ (suc m) (suc n) a b x y ne e =
    let rest : brackets m ++ a ∷ x ≡ brackets n ++ b ∷ y = cc in
    elim (differ m n a b x y ne rest) [
      | inl p ↦ inl (ap (λ (k : ℕ). suc k) p.0, p.1)
      | inr p ↦ inr (omega (arith, p.0), p.1)
    ]

base_is : (u v : ℕ) → is_base u ≡ true → u ≡ v → is_base v ≡ true
base_is u v e same = subst (λ (x : ℕ). is_base x ≡ true) same e

-- the first unit after the brackets
pub record FirstUnit (kind : Kind) (tail : List ℕ) : Type 0 where
  pub dims : ℕ
  pub few : dims ≤ 255
  pub first : ℕ
  pub behind : List ℕ
  pub parts : spelling kind ++ tail ≡ brackets dims ++ first ∷ behind
  pub no_bracket : first ≢ 91
  pub front : ((is_base first ≡ true) × (behind ≡ tail)) ⊎ ((first ≡ 76) × (name : List ℕ) × IsClassName name × (behind ≡ name ++ 59 ∷ tail))

pub first_unit : (kind : Kind) (tail : List ℕ) → IsKind kind → FirstUnit kind tail
first_unit kind tail fit =
    let n = kind.dimensions in
    elim (element_text kind.element fit.element) [
      | inl p ↦ record {
        dims = n;
        few = fit.few;
        first = p.0;
        behind = tail;
        parts = ap (λ (x : List ℕ). (brackets n ++ x) ++ tail) p.2 ∙ append_assoc (brackets n) (p.0 ∷ []) tail;
        no_bracket = λ same. let h = base_is p.0 91 p.1 same in cc;
        front = inl (p.1, refl);
      }
      | inr p ↦ record {
        dims = n;
        few = fit.few;
        first = 76;
        behind = p.0 ++ 59 ∷ tail;
        parts = ap (λ (x : List ℕ). (brackets n ++ x) ++ tail) p.2
            ∙ append_assoc (brackets n) (76 ∷ (p.0 ++ 59 ∷ [])) tail
            ∙ ap (λ (x : List ℕ). brackets n ++ 76 ∷ x) (append_assoc p.0 (59 ∷ []) tail);
        no_bracket = λ same. omega (arith, same);
        front = inr (refl, p.0, p.1, refl);
      }
    ]

-- ---- names

-- where two texts first differ, and the first has this unit before its tail
split : (a b : List ℕ) (u v : ℕ) (x y : List ℕ) → a ++ u ∷ x ≡ b ++ v ∷ y
    → ((more : List ℕ) × (a ≡ b ++ v ∷ more)) ⊎ (((a ≡ b) × (u ≡ v) × (x ≡ y)) ⊎ ((more : List ℕ) × (b ≡ a ++ u ∷ more)))
split [] [] u v x y e = inr (inl (refl, cc, cc))
split [] (d ∷ b) u v x y e = let same : u ≡ d = cc in inr (inr (b, ap (λ (k : ℕ). k ∷ b) (sym same)))
split (c ∷ a) [] u v x y e = let same : c ≡ v = cc in inl (a, ap (λ (k : ℕ). k ∷ a) same)
split (c ∷ a) (d ∷ b) u v x y e =
    let same : c ≡ d = cc in
    let rest : a ++ u ∷ x ≡ b ++ v ∷ y = cc in
    elim (split a b u v x y rest) [
      | inl p ↦ inl (p.0, ap (λ (k : ℕ). k ∷ a) same ∙ ap (λ (k : List ℕ). d ∷ k) p.1)
      | inr q ↦ elim q [
        | inl p ↦ inr (inl (ap (λ (k : ℕ). k ∷ a) same ∙ ap (λ (k : List ℕ). d ∷ k) p.0, p.1, p.2))
        | inr p ↦ inr (inr (p.0, ap (λ (k : ℕ). k ∷ b) (sym same) ∙ ap (λ (k : List ℕ). c ∷ k) p.1))
      ]
    ]

and_false : (b : Bool) → (b && false) ≡ false
and_false true = refl
and_false false = refl

both_false : (slash begun named a b : Bool) → a ≡ false → b ≡ false → cond slash (begun && a) (named && b) ≡ false
both_false true begun named a b e f = rw e (and_false begun)
both_false false begun named a b e f = rw f (and_false named)

pub no_semicolon : (begun : Bool) (a x : List ℕ) → are_parts begun (a ++ 59 ∷ x) ≡ false
no_semicolon begun [] x = refl
no_semicolon begun (u ∷ a) x = both_false (eqb u 47) begun (is_name_unit u) _ _ (no_semicolon false a x) (no_semicolon true a x)

-- ---- what is after a kind

one_name : (a b x y : List ℕ) → IsClassName a → IsClassName b → a ++ 59 ∷ x ≡ b ++ 59 ∷ y → (a ≡ b) × (x ≡ y)
one_name a b x y is_a is_b e =
    elim (split a b 59 59 x y e) [
      | inl p ↦ let h = sym is_a ∙ ap (λ (z : List ℕ). are_parts false z) p.1 ∙ no_semicolon false b p.0 in absurd cc
      | inr q ↦ elim q [
        | inl p ↦ (p.0, p.2)
        | inr p ↦ let h = sym is_b ∙ ap (λ (z : List ℕ). are_parts false z) p.1 ∙ no_semicolon false a p.0 in absurd cc
      ]
    ]

-- no descriptor of a kind is the front of another
pub same_behind : (a b : Kind) (x y : List ℕ) → IsKind a → IsKind b → spelling a ++ x ≡ spelling b ++ y → x ≡ y
same_behind a b x y is_a is_b e =
    let s = first_unit a x is_a in
    let t = first_unit b y is_b in
    elim (differ s.dims t.dims s.first t.first s.behind t.behind s.no_bracket (sym s.parts ∙ e ∙ t.parts)) [
      | inl p ↦
          let same : s.first ≡ t.first = cc in
          let others : s.behind ≡ t.behind = cc in
          elim s.front [
            | inl f ↦ elim t.front [
              | inl g ↦ sym f.1 ∙ others ∙ g.1
              | inr g ↦ let h = base_is s.first 76 f.0 (same ∙ g.0) in absurd cc
            ]
            | inr f ↦ elim t.front [
              | inl g ↦ let h = base_is t.first 76 g.0 (sym same ∙ f.0) in absurd cc
              | inr g ↦ (one_name f.1 g.1 x y f.2 g.2 (sym f.3 ∙ others ∙ g.3)).1
            ]
          ]
      | inr p ↦ absurd (t.no_bracket p.1)
    ]

-- ---- how many slots a kind takes

at_base : (u v : ℕ) (r s : List ℕ) (k : ℕ) → u ∷ r ≡ v ∷ s → k ≡ unit_slots u → k ≡ unit_slots v
at_base u v r s k e h = let same : u ≡ v = cc in h ∙ ap unit_slots same

element_slots_first : (element : ElementType) (tail : List ℕ) (u : ℕ) (r : List ℕ) → element_spelling element ++ tail ≡ u ∷ r → element_slots element ≡ unit_slots u
element_slots_first Byte tail u r e = at_base _ u _ r _ e refl
element_slots_first Char tail u r e = at_base _ u _ r _ e refl
element_slots_first Double tail u r e = at_base _ u _ r _ e refl
element_slots_first Float tail u r e = at_base _ u _ r _ e refl
element_slots_first Int tail u r e = at_base _ u _ r _ e refl
element_slots_first Long tail u r e = at_base _ u _ r _ e refl
element_slots_first Short tail u r e = at_base _ u _ r _ e refl
element_slots_first elements.Bool tail u r e = at_base _ u _ r _ e refl
element_slots_first (Class name) tail u r e = at_base _ u _ r _ e refl

pub slots_first : (kind : Kind) (tail : List ℕ) (u : ℕ) (r : List ℕ) → spelling kind ++ tail ≡ u ∷ r → slots kind ≡ unit_slots u
slots_first kind tail u r e = by_dimensions kind.dimensions e
  where
    by_dimensions : (n : ℕ) → (brackets n ++ element_spelling kind.element) ++ tail ≡ u ∷ r → cond (eqb n 0) (element_slots kind.element) 1 ≡ unit_slots u
    by_dimensions zero f = element_slots_first kind.element tail u r f
    by_dimensions (suc n) f = ap (λ (b : Bool). cond b (element_slots kind.element) 1) (ne_eqb (suc n) 0 (λ e. omega (arith, e))) ∙ at_base _ u _ r _ f refl

begins_with : (n a : ℕ) (x : List ℕ) → a ≢ 41 → a ≢ 86 → (u : ℕ) × (r : List ℕ) × (brackets n ++ a ∷ x ≡ u ∷ r) × (u ≢ 41) × (u ≢ 86)
begins_with zero a x no_end no_void = (a, x, refl, no_end, no_void)
begins_with (suc n) a x no_end no_void = (91, brackets n ++ a ∷ x, refl, (λ e. omega (arith, e)), (λ e. omega (arith, e)))

no_first : (kind : Kind) (tail : List ℕ) (b : FirstUnit kind tail) (u : ℕ) → is_base u ≡ false → u ≢ 76 → b.first ≢ u
no_first kind tail b u no_base no_name e =
    elim b.front [
      | inl f ↦ let h = base_is b.first u f.0 e in cc
      | inr f ↦ no_name (sym e ∙ f.0)
    ]

-- the first unit of a kind, which is neither the end of the arguments nor no result
pub starts : (kind : Kind) (tail : List ℕ) → IsKind kind → (u : ℕ) × (r : List ℕ) × (spelling kind ++ tail ≡ u ∷ r) × (u ≢ 41) × (u ≢ 86)
starts kind tail fit =
    let b = first_unit kind tail fit in
    let s = begins_with b.dims b.first b.behind (no_first kind tail b 41 refl (λ h. omega (arith, h))) (no_first kind tail b 86 refl (λ h. omega (arith, h))) in
    (s.0, s.1, b.parts ∙ s.2, s.3, s.4)

pub same_slots : (a b : Kind) (x y : List ℕ) → IsKind a → IsKind b → spelling a ++ x ≡ spelling b ++ y → slots a ≡ slots b
same_slots a b x y is_a is_b e =
    let s = starts b y is_b in
    slots_first a x s.0 s.1 (e ∙ s.2) ∙ sym (slots_first b y s.0 s.1 s.2)

pub regrouped : (k : Kind) (ks : List Kind) (x : List ℕ) → flat_map spelling (k ∷ ks) ++ x ≡ spelling k ++ (flat_map spelling ks ++ x)
regrouped k ks x = ap (λ (y : List ℕ). y ++ x) (flat_map-cons spelling k ks) ∙ append_assoc (spelling k) (flat_map spelling ks) x
