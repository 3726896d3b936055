-- Slots that have the kinds of types, place by place.
use Rattle.std.proofs.Common.{◌≡◌, ℕ, zero, suc, Bool, true, false, cond, List, [], ◌∷◌, ◌++◌, length, get_or, ltb, Some, None, refl, ap, subst}
use Rattle.std.specs.List.{slice_get, slice_set}
use Rattle.stack_maps.specs.declared.types.VType.{VType}
use Rattle.stack_maps.specs.declared.types.VType.TheVariants as types
use Rattle.instruction_rows.specs.declared.value.Slot.{Slot}
use Rattle.instruction_rows.specs.Contents.{is_wide, with_item, with_items}
use Rattle.instruction_rows.specs.TypeEffect.{without_half}
use Rattle.instruction_rows.specs.Soundness.{IsOf, AreOf}
use Rattle.instruction_rows.proofs.Steps.{some_is, bind_is}

pub same_length : (ts : List VType) (xs : List Slot) → AreOf ts xs → length ts ≡ length xs
same_length [] [] of = refl
same_length [] (x ∷ xs) of = absurd of
same_length (t ∷ ts) [] of = absurd of
same_length (t ∷ ts) (x ∷ xs) of = ap suc (same_length ts xs of.1)

pub append_of : (ts us : List VType) (xs ys : List Slot) → AreOf ts xs → AreOf us ys → AreOf (ts ++ us) (xs ++ ys)
append_of [] us [] ys of more = more
append_of [] us (x ∷ xs) ys of more = absurd of
append_of (t ∷ ts) us [] ys of more = absurd of
append_of (t ∷ ts) us (x ∷ xs) ys of more = (of.0, append_of ts us xs ys of.1 more)

-- the slot at an index where there is a type
pub record SlotAt (t : VType) (xs : List Slot) (n : ℕ) : Type 0 where
  pub slot : Slot
  pub is : slice_get xs n ≡ Some slot
  pub of : IsOf t slot

pub slot_at : (ts : List VType) (xs : List Slot) (n : ℕ) (t : VType) → AreOf ts xs → slice_get ts n ≡ Some t → SlotAt t xs n
slot_at [] xs n t of e = absurd cc
slot_at (u ∷ ts) [] n t of e = absurd of
slot_at (u ∷ ts) (x ∷ xs) zero t of e = let same : u ≡ t = cc in record { slot = x; is = refl; of = subst (λ (v : VType). IsOf v x) same of.0 }
slot_at (u ∷ ts) (x ∷ xs) (suc n) t of e = let below = slot_at ts xs n t of.1 e in record { slot = below.slot; is = below.is; of = below.of }

-- ---- writes

pub set_of : (ts : List VType) (xs : List Slot) (n : ℕ) (t : VType) (x : Slot) → AreOf ts xs → IsOf t x → AreOf (slice_set ts n t) (slice_set xs n x)
set_of [] [] n t x of here = tt
set_of [] (y ∷ xs) n t x of here = absurd of
set_of (u ∷ ts) [] n t x of here = absurd of
set_of (u ∷ ts) (y ∷ xs) zero t x of here = (here, of.1)
set_of (u ∷ ts) (y ∷ xs) (suc n) t x of here = (of.0, set_of ts xs n t x of.1 here)

-- another slot of the type that is there
pub put_of : (ts : List VType) (xs : List Slot) (n : ℕ) (t : VType) (x : Slot) → AreOf ts xs → slice_get ts n ≡ Some t → IsOf t x → AreOf ts (slice_set xs n x)
put_of [] xs n t x of e here = absurd cc
put_of (u ∷ ts) [] n t x of e here = absurd of
put_of (u ∷ ts) (y ∷ xs) zero t x of e here = let same : t ≡ u = cc in (subst (λ (v : VType). IsOf v x) same here, of.1)
put_of (u ∷ ts) (y ∷ xs) (suc n) t x of e here = (of.0, put_of ts xs n t x of.1 e here)

-- a slot of which nothing is said
pub top_of : (ts : List VType) (xs : List Slot) (n : ℕ) → AreOf ts xs → AreOf (slice_set ts n types.Top) xs
top_of [] xs n of = of
top_of (u ∷ ts) [] n of = absurd of
top_of (u ∷ ts) (y ∷ xs) zero of = (tt, of.1)
top_of (u ∷ ts) (y ∷ xs) (suc n) of = (of.0, top_of ts xs n of.1)

pub half_of : (ts : List VType) (xs : List Slot) (n : ℕ) → AreOf ts xs → AreOf (without_half n ts) xs
half_of ts xs zero of = of
half_of ts xs (suc n) of = elim (is_wide (get_or ts n types.Top)) as (λ b. AreOf (cond b (slice_set ts n types.Top) ts) xs) [ true ↦ top_of ts xs n of | false ↦ of ]

-- the slots with another, or with others, where the types have others
pub record WithItems (n : ℕ) (items xs : List Slot) (us : List VType) : Type 0 where
  pub made : List Slot
  pub is : with_items n items xs ≡ Some made
  pub of : AreOf us made

inside : {A : Type 0} (n : ℕ) (x : A) (xs ys : List A) → with_item n x xs ≡ Some ys → (ltb n (length xs) ≡ true) × (slice_set xs n x ≡ ys)
inside n x xs ys e = chosen (ltb n (length xs)) (slice_set xs n x) ys e
  where
    chosen : {B : Type 0} (b : Bool) (v w : B) → cond b (Some v) None ≡ Some w → (b ≡ true) × (v ≡ w)
    chosen true v w h = (refl, cc)
    chosen false v w h = absurd cc

pub with_items_of : (news : List VType) (items : List Slot) (n : ℕ) (ts us : List VType) (xs : List Slot) → AreOf news items → AreOf ts xs → with_items n news ts ≡ Some us → WithItems n items xs us
with_items_of [] [] n ts us xs new of e = let same : ts ≡ us = cc in record { made = xs; is = refl; of = subst (λ (vs : List VType). AreOf vs xs) same of }
with_items_of [] (x ∷ items) n ts us xs new of e = absurd new
with_items_of (t ∷ news) [] n ts us xs new of e = absurd new
with_items_of (t ∷ news) (x ∷ items) n ts us xs new of e =
    let first = some_is (with_item n t ts) (with_items (suc n) news) us e in
    let at = inside n t ts first.0 first.1 in
    let here : AreOf first.0 (slice_set xs n x) = subst (λ (vs : List VType). AreOf vs (slice_set xs n x)) at.1 (set_of ts xs n t x of new.0) in
    let rest = with_items_of news items (suc n) first.0 us (slice_set xs n x) new.1 here first.2 in
    let room : ltb n (length xs) ≡ true = rw (same_length ts xs of) at at.0 in
    let put : with_item n x xs ≡ Some (slice_set xs n x) = rw room refl in
    record { made = rest.made; is = bind_is (with_item n x xs) (with_items (suc n) items) (slice_set xs n x) (Some rest.made) put rest.is; of = rest.of }
