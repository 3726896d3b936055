-- Slots and the types of a path, from their ends on.
use Rattle.std.proofs.Common.{◌≡◌, ℕ, zero, suc, ◌+◌, ◌-◌, ◌<◌, Bool, true, false, eqb, List, [], ◌∷◌, ◌++◌, length, Option, Some, None, refl, ap, sym, ◌∙◌, append_assoc, arith}
use Rattle.std.specs.Prelude.{◌&&◌, drop, take, replicate, MatchOption}
use Rattle.std.specs.Borrow.{Bor}
use Rattle.std.specs.Option.{option_map, option_map_or}
use Rattle.std.proofs.lemmas.Grind.{flat_map-append}
use Rattle.std.proofs.lemmas.Bool.{eq-eqb, ne_eqb, eqb-true, eqb-false}
use Rattle.std.proofs.lemmas.List.{append-nil, take-append-drop}
use Rattle.items.specs.Options.{◌>>=◌}
use Rattle.stack_maps.specs.declared.types.VType.{VType}
use Rattle.stack_maps.specs.declared.types.VType.TheVariants as types
use Rattle.instruction_rows.specs.Contents.{slot_types, types_of}
use Rattle.type_paths.specs.Paths.{Path, types_on}
use Rattle.link_model.specs.World.{World}
use Rattle.verify_types.specs.Assignability.{assignable}
use Rattle.verify_types.specs.TypeStates.{all_assignable, padded}
use Rattle.verify_instructions.proofs.Lists.{last_pair, none_to_more}
use Rattle.verify_frames.specs.PathFits.{fit_path, fit_locals, AreInFront, EndElse}

-- ---- one type

pub one_in_front : (w : World) (slots front : List VType) (last t : VType) → slots ≡ front ++ last ∷ [] → assignable w last t ≡ true → AreInFront w slots front (t ∷ [])
one_in_front w slots front last t e fits = record {
  same = λ others.
      ap (λ (s : List VType). all_assignable w s (others ++ t ∷ [])) e ∙ last_pair (assignable w) front others last t ∙ ap (λ (b : Bool). b && all_assignable w front others) fits;
}

pub one_else : (w : World) (slots front : List VType) (last t : VType) → slots ≡ front ++ last ∷ [] → assignable w last t ≡ false → EndElse w slots (t ∷ [])
one_else w slots front last t e other = record {
  differ = λ others.
      ap (λ (s : List VType). all_assignable w s (others ++ t ∷ [])) e ∙ last_pair (assignable w) front others last t ∙ ap (λ (b : Bool). b && all_assignable w front others) other;
}

pub none_else : (w : World) (slots : List VType) (t : VType) → slots ≡ [] → EndElse w slots (t ∷ [])
none_else w slots t e = record { differ = λ others. ap (λ (s : List VType). all_assignable w s (others ++ t ∷ [])) e ∙ none_to_more (assignable w) others t }

-- ---- a type of two slots

pub two_in_front : (w : World) (slots middle front : List VType) (t u : VType) → AreInFront w slots middle (u ∷ []) → AreInFront w middle front (t ∷ []) → AreInFront w slots front (t ∷ u ∷ [])
two_in_front w slots middle front t u first second = record {
  same = λ others. ap (λ (s : List VType). all_assignable w slots s) (sym (append_assoc others (t ∷ []) (u ∷ []))) ∙ first.same (others ++ t ∷ []) ∙ second.same others;
}

pub two_else : (w : World) (slots middle : List VType) (t u : VType) → AreInFront w slots middle (u ∷ []) → EndElse w middle (t ∷ []) → EndElse w slots (t ∷ u ∷ [])
two_else w slots middle t u first second = record {
  differ = λ others. ap (λ (s : List VType). all_assignable w slots s) (sym (append_assoc others (t ∷ []) (u ∷ []))) ∙ first.same (others ++ t ∷ []) ∙ second.differ others;
}

pub two_else_first : (w : World) (slots : List VType) (t u : VType) → EndElse w slots (u ∷ []) → EndElse w slots (t ∷ u ∷ [])
two_else_first w slots t u first = record {
  differ = λ others. ap (λ (s : List VType). all_assignable w slots s) (sym (append_assoc others (t ∷ []) (u ∷ []))) ∙ first.differ (others ++ t ∷ []);
}

pub two : (w : World) (slots middle : List VType) (t u : VType) (r : Option (Bor (List VType))) → AreInFront w slots middle (u ∷ []) → MatchOption r (EndElse w middle (t ∷ [])) (λ front. AreInFront w middle front.now (t ∷ []))
    → MatchOption r (EndElse w slots (t ∷ u ∷ [])) (λ front. AreInFront w slots front.now (t ∷ u ∷ []))
two w slots middle t u None first second = two_else w slots middle t u first second
two w slots middle t u (Some front) first second = two_in_front w slots middle front.now t u first second

-- ---- a path

abbrev with_last : Option (List VType) → Option VType → Option (List VType)
with_last o item = o >>= λ ts. item >>= λ u. Some (ts ++ u ∷ [])

abbrev fit : World → List VType → Option (List VType) → Bool
fit w slots o = option_map_or (λ ts. all_assignable w slots (slot_types ts)) o false

unknown : (w : World) (slots : List VType) (o : Option (List VType)) → fit w slots (with_last o None) ≡ false
unknown w slots None = refl
unknown w slots (Some ts) = refl

slots_with : (ts : List VType) (u : VType) → slot_types (ts ++ u ∷ []) ≡ slot_types ts ++ types_of u
slots_with ts u = flat_map-append types_of ts (u ∷ []) ∙ ap (λ (s : List VType). slot_types ts ++ s) (append-nil (types_of u))

below : (w : World) (slots front : List VType) (u : VType) (o : Option (List VType)) → AreInFront w slots front (types_of u) → fit w slots (with_last o (Some u)) ≡ fit w front o
below w slots front u None h = refl
below w slots front u (Some ts) h = ap (λ (s : List VType). all_assignable w slots s) (slots_with ts u) ∙ h.same (slot_types ts)

other : (w : World) (slots : List VType) (u : VType) (o : Option (List VType)) → EndElse w slots (types_of u) → fit w slots (with_last o (Some u)) ≡ false
other w slots u None h = refl
other w slots u (Some ts) h = ap (λ (s : List VType). all_assignable w slots s) (slots_with ts u) ∙ h.differ (slot_types ts)

pub fit_below : (w : World) (slots front : List VType) (p q : Path) (item : Option VType) (u : VType) (all : Bool) → p ≡ item ∷ q → item ≡ Some u → AreInFront w slots front (types_of u)
    → fit_path w slots p ≡ all → fit_path w front q ≡ all
fit_below w slots front p q item u all e is h so_far =
    sym (ap (λ (r : Path). fit_path w slots r) e ∙ ap (λ (i : Option VType). fit w slots (with_last (types_on q) i)) is ∙ below w slots front u (types_on q) h) ∙ so_far

pub fit_not : (w : World) (slots : List VType) (p q : Path) (item : Option VType) (u : VType) (all : Bool) → p ≡ item ∷ q → item ≡ Some u → EndElse w slots (types_of u)
    → fit_path w slots p ≡ all → false ≡ all
fit_not w slots p q item u all e is h so_far =
    sym (ap (λ (r : Path). fit_path w slots r) e ∙ ap (λ (i : Option VType). fit w slots (with_last (types_on q) i)) is ∙ other w slots u (types_on q) h) ∙ so_far

pub fit_unknown : (w : World) (slots : List VType) (p q : Path) (item : Option VType) (all : Bool) → p ≡ item ∷ q → item ≡ None → fit_path w slots p ≡ all → false ≡ all
fit_unknown w slots p q item all e is so_far =
    sym (ap (λ (r : Path). fit_path w slots r) e ∙ ap (λ (i : Option VType). fit w slots (with_last (types_on q) i)) is ∙ unknown w slots (types_on q)) ∙ so_far

pub fit_none : (w : World) (slots : List VType) (p : Path) (all : Bool) → p ≡ [] → fit_path w slots p ≡ all → all_assignable w slots [] ≡ all
fit_none w slots p all e so_far = sym (ap (λ (r : Path). fit_path w slots r) e) ∙ so_far

-- ---- unset local variables

pub parted : (n : ℕ) (xs a b : List VType) → a ≡ take n xs → b ≡ drop n xs → xs ≡ a ++ b
parted n xs a b e f = sym (take-append-drop n xs) ∙ ap (λ (ys : List VType). ys ++ drop n xs) (sym e) ∙ ap (λ (zs : List VType). a ++ zs) (sym f)

to_top : (w : World) (t : VType) → assignable w t types.Top ≡ true
to_top w t = refl

same_tests : (a k m n : ℕ) (b : Bool) → eqb a k ≡ b → m ≡ a + 1 → n ≡ k + 1 → b ≡ eqb m n
same_tests a k m n true e p q = let is = eqb-true a k e in sym (eq-eqb m n (omega arith))
same_tests a k m n false e p q = let is = eqb-false a k e in sym (ne_eqb m n (λ s. is (omega arith)))

fit_unset : (w : World) (unset : List VType) (k : ℕ) → all_assignable w unset (replicate k types.Top) ≡ eqb (length unset) k
fit_unset w [] zero = refl
fit_unset w [] (suc k) = sym (ne_eqb 0 (suc k) (λ e. omega arith))
fit_unset w (t ∷ unset) zero = sym (ne_eqb (length (t ∷ unset)) 0 (λ e. omega arith))
fit_unset w (t ∷ unset) (suc k) = fit_unset w unset k ∙ same_tests (length unset) k (length (t ∷ unset)) (suc k) (eqb (length unset) k) refl (omega arith) (omega arith)

pub fit_parts : (w : World) (named unset ss others : List VType) → length named ≡ length ss → all_assignable w (named ++ unset) (ss ++ others) ≡ (all_assignable w named ss && all_assignable w unset others)
fit_parts w [] unset [] others e = refl
fit_parts w [] unset (s ∷ ss) others e = absurd (omega arith)
fit_parts w (n ∷ named) unset [] others e = absurd (omega arith)
fit_parts w (n ∷ named) unset (s ∷ ss) others e =
    ap (λ (b : Bool). assignable w n s && b) (fit_parts w named unset ss others (omega arith)) ∙ sym (grouped (assignable w n s) (all_assignable w named ss) (all_assignable w unset others))
  where
    grouped : (a b c : Bool) → ((a && b) && c) ≡ (a && (b && c))
    grouped true b c = refl
    grouped false b c = refl

too_few : (w : World) (locals ss others : List VType) → length locals < length ss → all_assignable w locals (ss ++ others) ≡ false
too_few w [] [] others e = absurd (omega arith)
too_few w [] (s ∷ ss) others e = refl
too_few w (t ∷ locals) [] others e = absurd (omega arith)
too_few w (t ∷ locals) (s ∷ ss) others e = ap (λ (b : Bool). assignable w t s && b) (too_few w locals ss others (omega arith)) ∙ neither (assignable w t s)
  where
    neither : (a : Bool) → (a && false) ≡ false
    neither true = refl
    neither false = refl

few_locals : (w : World) (max count : ℕ) (locals : List VType) (o : Option (List VType)) → Some count ≡ option_map (λ ts. length (slot_types ts)) o → length locals < count
    → false ≡ option_map_or (λ ts. all_assignable w locals (padded max (slot_types ts))) o true
few_locals w max count locals None e low = absurd cc
few_locals w max count locals (Some ts) e low =
    let same : count ≡ length (slot_types ts) = cc in
    sym (too_few w locals (slot_types ts) (replicate (max - length (slot_types ts)) types.Top) (omega arith))

pub too_few_locals : (w : World) (max count : ℕ) (locals : List VType) (p : Path) → Some count ≡ option_map (λ ts. length (slot_types ts)) (types_on p) → length locals < count → false ≡ fit_locals w max locals p
too_few_locals w max count locals p e low = few_locals w max count locals (types_on p) e low

swap : (a b : Bool) → (a && b) ≡ (b && a)
swap true true = refl
swap true false = refl
swap false true = refl
swap false false = refl

both_parts : (w : World) (max count : ℕ) (locals named unset : List VType) (o : Option (List VType)) → Some count ≡ option_map (λ ts. length (slot_types ts)) o → locals ≡ named ++ unset → length named ≡ count
    → (eqb (length unset) (max - count) && fit w named o) ≡ option_map_or (λ ts. all_assignable w locals (padded max (slot_types ts))) o true
both_parts w max count locals named unset None e parts size = absurd cc
both_parts w max count locals named unset (Some ts) e parts size =
    let same : count ≡ length (slot_types ts) = cc in
    let ss = slot_types ts in
    ap (λ (n : ℕ). eqb (length unset) (max - n) && all_assignable w named ss) same
    ∙ swap (eqb (length unset) (max - length ss)) (all_assignable w named ss)
    ∙ ap (λ (b : Bool). all_assignable w named ss && b) (sym (fit_unset w unset (max - length ss)))
    ∙ sym (fit_parts w named unset ss (replicate (max - length ss) types.Top) (size ∙ same))
    ∙ ap (λ (ls : List VType). all_assignable w ls (padded max ss)) (sym parts)

pub locals_in_parts : (w : World) (max count : ℕ) (locals named unset : List VType) (p : Path) → Some count ≡ option_map (λ ts. length (slot_types ts)) (types_on p) → locals ≡ named ++ unset → length named ≡ count
    → (eqb (length unset) (max - count) && fit_path w named p) ≡ fit_locals w max locals p
locals_in_parts w max count locals named unset p e parts size = both_parts w max count locals named unset (types_on p) e parts size

pub named_locals : (w : World) (max count rest : ℕ) (locals named unset : List VType) (p : Path) → Some count ≡ option_map (λ ts. length (slot_types ts)) (types_on p) → locals ≡ named ++ unset → length named ≡ count
    → length unset ≡ rest → rest ≡ max - count → fit_path w named p ≡ fit_locals w max locals p
named_locals w max count rest locals named unset p e parts size far is =
    ap (λ (b : Bool). b && fit_path w named p) (sym (eq-eqb (length unset) (max - count) (far ∙ is))) ∙ locals_in_parts w max count locals named unset p e parts size

pub other_locals : (w : World) (max count rest : ℕ) (locals named unset : List VType) (p : Path) → Some count ≡ option_map (λ ts. length (slot_types ts)) (types_on p) → locals ≡ named ++ unset → length named ≡ count
    → (length unset ≡ rest → ⊥) → rest ≡ max - count → false ≡ fit_locals w max locals p
other_locals w max count rest locals named unset p e parts size differs is =
    ap (λ (b : Bool). b && fit_path w named p) (sym (ne_eqb (length unset) (max - count) (λ same. differs (same ∙ sym is)))) ∙ locals_in_parts w max count locals named unset p e parts size

not_counted : (w : World) (max : ℕ) (locals : List VType) (o : Option (List VType)) → None ≡ option_map (λ ts. length (slot_types ts)) o → true ≡ option_map_or (λ ts. all_assignable w locals (padded max (slot_types ts))) o true
not_counted w max locals None e = refl
not_counted w max locals (Some ts) e = absurd cc

pub unknown_locals : (w : World) (max : ℕ) (locals : List VType) (p : Path) → None ≡ option_map (λ ts. length (slot_types ts)) (types_on p) → true ≡ fit_locals w max locals p
unknown_locals w max locals p e = not_counted w max locals (types_on p) e
