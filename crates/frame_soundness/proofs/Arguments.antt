-- The arguments of a call: what lies on the caller's operand stack has the kinds of the callee's first local variables.
use Rattle.std.proofs.Common.{◌≡◌, ℕ, ◌+◌, Bool, true, false, List, [], ◌∷◌, ◌++◌, length, Option, Some, None, Ok, refl, ap, sym, subst, ◌∙◌}
use Rattle.std.specs.Prelude.{map, reverse, sum_by, ◌==◌, if◌then◌else◌}
use Rattle.std.specs.List.{flat_map}
use Rattle.std.proofs.lemmas.List.{append_assoc, reverse-append, length-append}
use Rattle.std.proofs.lemmas.List.Sums.{sum_by-cons}
use Rattle.descriptors.specs.declared.kind.ElementType.{ElementType}
use Rattle.descriptors.specs.declared.kind.ElementType.TheVariants as elements
use Rattle.descriptors.specs.declared.kind.Kind.{Kind as FieldType}
use Rattle.descriptors.specs.Descriptors.{slots, element_slots}
use Rattle.opcodes.specs.declared.op.ValueKind.{ValueKind}
use Rattle.opcodes.specs.declared.op.ValueKind.TheVariants as kinds
use Rattle.stack_maps.specs.declared.types.VType.{VType}
use Rattle.stack_maps.specs.declared.types.VType.TheVariants as types
use Rattle.instruction_rows.specs.declared.row_why.RowWhy.TheVariants as whys
use Rattle.instruction_rows.specs.declared.value.Slot.{Slot}
use Rattle.instruction_rows.specs.Results.{◌then◌}
use Rattle.instruction_rows.specs.Kinds.{kind_of_type, is_kind}
use Rattle.instruction_rows.specs.Contents.{is_wide, types_of, slot_types}
use Rattle.instruction_rows.specs.TypeEffect.{only_of, type_popped, type_pushed}
use Rattle.instruction_rows.specs.Soundness.{AreOf}
use Rattle.instruction_rows.proofs.KindLaws.{only_is, holds, is_of, long_is}
use Rattle.instruction_rows.proofs.ListLaws.{append_of}
use Rattle.instruction_rows.proofs.Steps.{ok_is, passed}
use Rattle.link_model.specs.World.{World}
use Rattle.verify_types.specs.Assignability.{assignable}
use Rattle.verify_types.specs.ClassTypes.{type_of_element, type_of_kind}
use Rattle.verify_types.specs.Operands.{only_if, popped_as, wanted, all_wanted}

-- ---- one value on top

-- the slots of a value of this type on top, and what lies below them
pub record OnTop (t : VType) (xs : List Slot) (rest : List VType) : Type 0 where
  pub tops : List Slot
  pub left : List Slot
  pub is : xs ≡ tops ++ left
  pub of : AreOf (type_pushed t []) tops
  pub below : AreOf rest left

narrow_top : (w : World) (t : VType) (k : ValueKind) (u : VType) (us rest : List VType) (xs : List Slot) → is_wide t ≡ false
    → kind_of_type t ≡ Some k
    → (only_of {A = VType × List VType} k u (u, us) then λ x. only_if (assignable w x.0 t) whys.Kind x.1) ≡ Ok rest → AreOf (u ∷ us) xs → OnTop t xs rest
narrow_top w t k u us rest [] narrow kind e of = absurd of
narrow_top w t k u us rest (slot ∷ left) narrow kind e of =
    let parts = ok_is (only_of {A = VType × List VType} k u (u, us)) (λ (x : VType × List VType). only_if (assignable w x.0 t) whys.Kind x.1) rest e in
    let only = only_is k u (u, us) parts.0 parts.1 in
    let low = passed (assignable w parts.0.0 t) parts.0.1 rest whys.Kind parts.2 in
    let same : us ≡ rest = ap (λ (x : VType × List VType). x.1) only.1 ∙ low.1 in
    let here = is_of k t slot kind (holds k u slot only.0 of.0) in
    record {
      tops = slot ∷ [];
      left = left;
      is = refl;
      of = subst (λ (b : Bool). AreOf (if b then types.Top ∷ t ∷ [] else t ∷ []) (slot ∷ [])) (sym narrow) (here, tt);
      below = subst (λ (ts : List VType). AreOf ts left) same of.1;
    }

-- a type of one slot
narrow_kind : (t : VType) (k : ValueKind) → kind_of_type t ≡ Some k → is_kind k (Some kinds.Long) ≡ false → is_wide t ≡ false
narrow_kind types.Top k e one = refl
narrow_kind types.Int k e one = refl
narrow_kind types.Float k e one = refl
narrow_kind types.Double k e one = absurd cc
narrow_kind types.Long k e one = let same : k ≡ kinds.Long = cc in let no_long = ap (λ k. is_kind k (Some kinds.Long)) same in absurd cc
narrow_kind types.Null k e one = refl
narrow_kind types.UninitThis k e one = refl
narrow_kind (types.Object index) k e one = refl
narrow_kind (types.Uninit new) k e one = refl
narrow_kind (types.Named n base) k e one = refl

long_top : (w : World) (ts rest : List VType) (xs : List Slot)
    → (type_popped kinds.Long ts then λ x. only_if (assignable w x.0 types.Long) whys.Kind x.1) ≡ Ok rest → AreOf ts xs
    → OnTop types.Long xs rest
long_top w [] rest xs e of = absurd cc
long_top w (types.Top ∷ types.Long ∷ us) rest [] e of = absurd of
long_top w (types.Top ∷ types.Long ∷ us) rest (upper ∷ []) e of = absurd of.1
long_top w (types.Top ∷ types.Long ∷ us) rest (upper ∷ slot ∷ left) e of =
    let same : us ≡ rest = cc in
    record {
      tops = upper ∷ slot ∷ [];
      left = left;
      is = refl;
      of = (tt, (of.1.0, tt));
      below = subst (λ (ts : List VType). AreOf ts left) same of.1.1;
    }
long_top w ts rest xs e of = absurd cc

top_of_kind : (w : World) (t : VType) (o : Option ValueKind) → kind_of_type t ≡ o → (ts rest : List VType) (xs : List Slot)
    → (popped_as o ts then λ x. only_if (assignable w x.0 t) whys.Kind x.1) ≡ Ok rest → AreOf ts xs → OnTop t xs rest
top_of_kind w t None kind ts rest xs e of = absurd cc
top_of_kind w t (Some kinds.Int) kind [] rest xs e of = absurd cc
top_of_kind w t (Some kinds.Int) kind (u ∷ us) rest xs e of = narrow_top w t kinds.Int u us rest xs (narrow_kind t kinds.Int kind refl) kind e of
top_of_kind w t (Some kinds.Reference) kind [] rest xs e of = absurd cc
top_of_kind w t (Some kinds.Reference) kind (u ∷ us) rest xs e of =
    narrow_top w t kinds.Reference u us rest xs (narrow_kind t kinds.Reference kind refl) kind e of
top_of_kind w t (Some kinds.Long) kind ts rest xs e of =
    let same : t ≡ types.Long = long_is t kind in
    let here : (type_popped kinds.Long ts then λ x. only_if (assignable w x.0 types.Long) whys.Kind x.1) ≡ Ok rest =
    subst (λ (u : VType). (type_popped kinds.Long ts then λ x. only_if (assignable w x.0 u) whys.Kind x.1) ≡ Ok rest) same e in
    subst (λ (u : VType). OnTop u xs rest) (sym same) (long_top w ts rest xs here of)

pub on_top : (w : World) (t : VType) (ts rest : List VType) (xs : List Slot) → wanted w t ts ≡ Ok rest → AreOf ts xs → OnTop t xs rest
on_top w t ts rest xs e of = top_of_kind w t (kind_of_type t) refl ts rest xs e of

-- ---- several values, the topmost first

-- their types as they lie on the stack
abbrev pub stacked : List VType → List VType
stacked ts = flat_map (λ t. type_pushed t []) ts

pub record AllOnTop (ts : List VType) (xs : List Slot) (rest : List VType) : Type 0 where
  pub tops : List Slot
  pub left : List Slot
  pub is : xs ≡ tops ++ left
  pub of : AreOf (stacked ts) tops
  pub below : AreOf rest left

pub all_on_top : (w : World) (wants ts rest : List VType) (xs : List Slot) → all_wanted w wants ts ≡ Ok rest → AreOf ts xs
    → AllOnTop wants xs rest
all_on_top w [] ts rest xs e of =
    let same : ts ≡ rest = cc in
    record { tops = []; left = xs; is = refl; of = tt; below = subst (λ (us : List VType). AreOf us xs) same of }
all_on_top w (t ∷ wants) ts rest xs e of =
    let parts = ok_is (wanted w t ts) (λ us. all_wanted w wants us) rest e in
    let first = on_top w t ts parts.0 xs parts.1 of in
    let more = all_on_top w wants parts.0 rest first.left parts.2 first.below in
    record {
      tops = first.tops ++ more.tops;
      left = more.left;
      is = first.is ∙ ap (λ ys. first.tops ++ ys) more.is ∙ sym (append_assoc first.tops more.tops more.left);
      of = append_of (type_pushed t []) (stacked wants) first.tops more.tops first.of more.of;
      below = more.below;
    }

-- ---- in the order of the descriptor

pub reversed_of : (ts : List VType) (xs : List Slot) → AreOf ts xs → AreOf (reverse ts) (reverse xs)
reversed_of [] [] of = tt
reversed_of [] (x ∷ xs) of = absurd of
reversed_of (t ∷ ts) [] of = absurd of
reversed_of (t ∷ ts) (x ∷ xs) of =
    let below = append_of (reverse ts) (t ∷ []) (reverse xs) (x ∷ []) (reversed_of ts xs of.1) (of.0, tt) in
    subst (λ (us : List VType). AreOf us (reverse (x ∷ xs))) (sym (reverse-append (t ∷ []) ts))
    (subst (λ (ys : List Slot). AreOf (reverse ts ++ t ∷ []) ys) (sym (reverse-append (x ∷ []) xs)) below)

stacked_join : (ts us : List VType) → stacked (ts ++ us) ≡ stacked ts ++ stacked us
stacked_join [] us = refl
stacked_join (t ∷ ts) us =
    ap (λ vs. type_pushed t [] ++ vs) (stacked_join ts us) ∙ sym (append_assoc (type_pushed t []) (stacked ts) (stacked us))

one_reversed : (t : VType) → reverse (stacked (t ∷ [])) ≡ types_of t
one_reversed t = by (is_wide t)
  where
    by : (b : Bool) → reverse ((if b then types.Top ∷ t ∷ [] else t ∷ []) ++ []) ≡ (if b then t ∷ types.Top ∷ [] else t ∷ [])
    by true = refl
    by false = refl

pub in_order : (ts : List VType) → reverse (stacked (reverse ts)) ≡ slot_types ts
in_order [] = refl
in_order (t ∷ ts) =
    ap (λ us. reverse (stacked us)) (reverse-append (t ∷ []) ts)
    ∙ ap reverse (stacked_join (reverse ts) (t ∷ []))
    ∙ reverse-append (stacked (reverse ts)) (stacked (t ∷ []))
    ∙ ap (λ us. us ++ reverse (stacked (reverse ts))) (one_reversed t)
    ∙ ap (λ us. types_of t ++ us) (in_order ts)

-- ---- how many slots

element_width : (w : World) (element : ElementType) → length (types_of (type_of_element w element)) ≡ element_slots element
element_width w elements.Byte = refl
element_width w elements.Char = refl
element_width w elements.Double = refl
element_width w elements.Float = refl
element_width w elements.Int = refl
element_width w elements.Long = refl
element_width w elements.Short = refl
element_width w elements.Bool = refl
element_width w (elements.Class name) = refl

width_by : (b : Bool) (t named : VType) (n : ℕ) → length (types_of t) ≡ n → length (types_of named) ≡ 1
    → length (types_of (if b then t else named)) ≡ (if b then n else 1)
width_by true t named n one other = one
width_by false t named n one other = other

width : (w : World) (t : FieldType) → length (types_of (type_of_kind w t)) ≡ slots t
width w t = width_by (t.dimensions == 0) (type_of_element w t.element) _ (element_slots t.element) (element_width w t.element) refl

pub widths : (w : World) (args : List FieldType) → length (slot_types (map (type_of_kind w) args)) ≡ sum_by slots args
widths w [] = refl
widths w (t ∷ args) =
    length-append (types_of (type_of_kind w t)) (slot_types (map (type_of_kind w) args))
    ∙ ap (λ n. n + length (slot_types (map (type_of_kind w) args))) (width w t)
    ∙ ap (λ n. slots t + n) (widths w args)
    ∙ sym (sum_by-cons slots t args)
