-- The type of one slot of a path.
use Rattle.std.proofs.Common.{◌≡◌, ℕ, ◌+◌, ◌<◌, ◌≤◌, Bool, true, false, cond, get_or, ltb, List, [], ◌∷◌, ◌++◌, length, Option, Some, None, refl, ap, sym, subst, ◌∙◌, arith}
use Rattle.std.specs.Prelude.{IfSome}
use Rattle.std.proofs.lemmas.Bool.{ltb-false, ltb-true}
use Rattle.std.proofs.lemmas.List.{get_or_append_left, length-append}
use Rattle.std.proofs.Math.Seq.{get_or-append_seam}
use Rattle.instruction_rows.specs.Contents.{is_wide, slot_types, types_of}
use Rattle.stack_maps.specs.declared.types.VType.{VType}
use Rattle.stack_maps.specs.declared.types.VType.TheVariants as types
use Rattle.type_paths.specs.declared.paths.Node.{Node}
use Rattle.type_paths.specs.Paths.{IsAbove, IsTop, Path, count_on, path, types_on}
use Rattle.verify_frames.specs.Overwrites.{type_at}
use Rattle.verify_frames.specs.Skips.{AreSkips, IsInside, IsTypeOf}
use Rattle.verify_frames.proofs.NearLaws.{count_of, front_of, last_of, slots_both, slots_last}
use Rattle.verify_frames.proofs.OverwriteLaws.{type_past}
use Rattle.verify_frames.proofs.WantedLaws.{past_last, seam}

longer : (xs : List VType) (t : VType) (b : Bool) → length xs < length (xs ++ cond b (t ∷ types.Top ∷ []) (t ∷ []))
longer xs t true = omega (arith, length-append xs (t ∷ types.Top ∷ []))
longer xs t false = omega (arith, length-append xs (t ∷ []))

two_longer : (xs : List VType) (t : VType) (b : Bool) → b ≡ true → length xs + 1 < length (xs ++ cond b (t ∷ types.Top ∷ []) (t ∷ []))
two_longer xs t true e = omega (arith, length-append xs (t ∷ types.Top ∷ []))
two_longer xs t false e = absurd cc

pub inside_first : (p : Path) (item : VType) (first : ℕ) → Some first ≡ count_on p → IsInside (Some item ∷ p) first item
inside_first p item first count = record {
  is = λ ts e.
      let l = last_of (Some item ∷ p) p (Some item) item ts refl refl e in
      let n : first ≡ length (slot_types l.under) = count_of p l.under first l.is (sym count) in
      let whole : slot_types ts ≡ slot_types l.under ++ types_of item = ap slot_types l.parts ∙ slots_last l.under item in (
        subst (λ (xs : List VType). first < length xs) (sym whole) (omega (arith, n, longer (slot_types l.under) item (is_wide item))),
        ap (λ (xs : List VType). type_at xs first) whole ∙ seam (slot_types l.under) item first (is_wide item) n,
      );
}

pub inside_second : (p : Path) (item : VType) (first slot : ℕ) → Some first ≡ count_on p → is_wide item ≡ true → slot ≡ first + 1 → IsInside (Some item ∷ p) slot types.Top
inside_second p item first slot count wide next = record {
  is = λ ts e.
      let l = last_of (Some item ∷ p) p (Some item) item ts refl refl e in
      let n : first ≡ length (slot_types l.under) = count_of p l.under first l.is (sym count) in
      let whole : slot_types ts ≡ slot_types l.under ++ types_of item = ap slot_types l.parts ∙ slots_last l.under item in (
        subst (λ (xs : List VType). slot < length xs) (sym whole) (omega (arith, n, next, two_longer (slot_types l.under) item (is_wide item) wide)),
        ap (λ (xs : List VType). type_at xs slot) whole ∙ past_last (slot_types l.under) item slot (is_wide item) (omega (arith, n, next)),
      );
}

-- the skips of the first nodes, and that of the next
pub skip_more : (ps : List Path) (seen skips now : List ℕ) (skip : ℕ) → seen ≡ skips → (AreSkips ps seen → IsAbove ps (length seen) skip) → now ≡ skips ++ skip ∷ [] → AreSkips ps skips → AreSkips ps now
skip_more ps seen skips now skip same next pushed h =
    let here = subst (λ (xs : List ℕ). AreSkips ps xs → IsAbove ps (length xs) skip) same next h in
    subst (λ (xs : List ℕ). AreSkips ps xs) (sym pushed) (record { each = λ k low. by_place here k low (ltb k (length skips)) refl })
  where
    by_place : IsAbove ps (length skips) skip → (k : ℕ) → k < length (skips ++ skip ∷ []) → (b : Bool) → ltb k (length skips) ≡ b → IsAbove ps k (get_or (skips ++ skip ∷ []) k 0)
    by_place here k low true e =
        subst (λ (n : ℕ). IsAbove ps k n) (sym (get_or_append_left skips (skip ∷ []) 0 k (ltb-true k (length skips) e))) (h.each k (ltb-true k (length skips) e))
    by_place here k low false e =
        let last : length skips ≡ k = omega (arith, low, length-append skips (skip ∷ []), ltb-false k (length skips) e) in
        subst (λ (m : ℕ). IsAbove ps m (get_or (skips ++ skip ∷ []) m 0)) last
        (subst (λ (n : ℕ). IsAbove ps (length skips) n) (sym (get_or-append_seam skips skip [] 0)) here)

-- what a node has, all above it have
inside_above : (ps : List Path) (from node slot : ℕ) (t : VType) → IsAbove ps from node → IsInside (path ps node) slot t → IsTypeOf (path ps from) slot t
inside_above ps from node slot t above h = record {
  is = λ ts e.
      let f = front_of above.more (path ps node) ts (ap types_on (sym above.is) ∙ e) in
      let here = h.is f.front f.is in
      ap (λ (xs : List VType). type_at (slot_types xs) slot) f.parts
      ∙ ap (λ (xs : List VType). type_at xs slot) (slots_both f.front f.rest)
      ∙ get_or_append_left (slot_types f.front) (slot_types f.rest) types.Top slot here.0
      ∙ here.1;
}

pub found_in : (ps : List Path) (from node slot first : ℕ) (top : Node) (item : VType) (r : Option VType) → IsAbove ps from node → IsTop ps node top → top.item ≡ Some item → Some first ≡ count_on (path ps top.below)
    → ((p : Path) → Some first ≡ count_on p → IfSome r (IsInside (Some item ∷ p) slot)) → IfSome r (IsTypeOf (path ps from) slot)
found_in ps from node slot first top item None above at is count h = tt
found_in ps from node slot first top item (Some t) above at is count h =
    inside_above ps from node slot t above
    (subst (λ (p : Path). IsInside p slot t) (sym (at.is ∙ ap (λ (i : Option VType). i ∷ path ps top.below) is)) (h (path ps top.below) count))

pub past_all : (p : Path) (count slot : ℕ) → Some count ≡ count_on p → count ≤ slot → IsTypeOf p slot types.Top
past_all p count slot e far = record { is = λ ts is. type_past (slot_types ts) slot (omega (arith, far, count_of p ts count is (sym e))) }
