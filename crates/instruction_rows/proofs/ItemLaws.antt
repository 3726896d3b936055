-- Items are there where the typing takes them, and given again they have their kinds.
use Rattle.std.proofs.Common.{◌≡◌, ℕ, zero, suc, List, [], ◌∷◌, get_or, Some, Ok, refl, subst, ap, sym, ◌∙◌}
use Rattle.std.specs.List.{AllZip}
use Rattle.stack_maps.specs.declared.types.VType.{VType}
use Rattle.stack_maps.specs.declared.types.VType.TheVariants as types
use Rattle.instruction_rows.specs.declared.value.Slot.{Slot}
use Rattle.items.specs.Options.{◌>>=◌}
use Rattle.instruction_rows.specs.Results.{◌then◌}
use Rattle.instruction_rows.specs.Contents.{is_wide, is_narrow}
use Rattle.instruction_rows.specs.StackItems.{Width, one, two, item_of, items_of, items_on}
use Rattle.instruction_rows.specs.TypeEffect.{narrow_popped, two_popped, item_popped, items_popped}
use Rattle.instruction_rows.specs.Soundness.{AreOf}
use Rattle.instruction_rows.proofs.Steps.{bind_is, step_is, ok_is, passed}
use Rattle.instruction_rows.proofs.ListLaws.{append_of}

narrow_is : (ts : List VType) (x : VType × List VType) → narrow_popped ts ≡ Ok x → ts ≡ x.0 ∷ x.1
narrow_is [] x e = absurd cc
narrow_is (t ∷ ts) x e = let both = passed (is_narrow t) (t, ts) x _ e in ap (λ (y : VType × List VType). y.0 ∷ y.1) both.1

-- two types, and what lies below them
pub record Two (ts : List VType) (x : List VType × List VType) : Type 0 where
  pub upper : VType
  pub lower : VType
  pub item : x.0 ≡ upper ∷ lower ∷ []
  pub is : ts ≡ upper ∷ lower ∷ x.1

two_is : (ts : List VType) (x : List VType × List VType) → two_popped ts ≡ Ok x → Two ts x
two_is ts x e =
    let first = ok_is (narrow_popped ts) (λ y. narrow_popped y.1 then λ z. Ok (y.0 ∷ z.0 ∷ [], z.1)) x e in
    let second = ok_is (narrow_popped first.0.1) (λ z. Ok (first.0.0 ∷ z.0 ∷ [], z.1)) x first.2 in
    let upper = narrow_is ts first.0 first.1 in
    let lower = narrow_is first.0.1 second.0 second.1 in
    let pair : List VType × List VType = (first.0.0 ∷ second.0.0 ∷ [], second.0.1) in
    let same : pair ≡ x = cc in
    record {
      upper = first.0.0;
      lower = second.0.0;
      item = ap (λ (y : List VType × List VType). y.0) (sym same);
      is = upper ∙ ap (λ (us : List VType). first.0.0 ∷ us) lower ∙ ap (λ (y : List VType × List VType). first.0.0 ∷ second.0.0 ∷ y.1) same;
    }

wide_is : (ts : List VType) (x : List VType × List VType) → item_popped two ts ≡ Ok x → Two ts x
wide_is (types.Top ∷ t ∷ rest) x e =
    let both = passed (is_wide t) (types.Top ∷ t ∷ [], rest) x _ e in
    record { upper = types.Top; lower = t; item = ap (λ (y : List VType × List VType). y.0) (sym both.1); is = ap (λ (y : List VType × List VType). types.Top ∷ t ∷ y.1) both.1 }
wide_is ts x e = two_is ts x e

-- an item taken from slots, where one is taken from types
pub record Item (width : Width) (x : List VType × List VType) (xs : List Slot) : Type 0 where
  pub item : List Slot
  pub left : List Slot
  pub is : item_of width xs ≡ Some (item, left)
  pub item_kinds : AreOf x.0 item
  pub of : AreOf x.1 left

pub item_at : (width : Width) (ts : List VType) (x : List VType × List VType) (xs : List Slot) → item_popped width ts ≡ Ok x → AreOf ts xs → Item width x xs
item_at one ts x xs e of =
    let first = ok_is (narrow_popped ts) (λ y. Ok (y.0 ∷ [], y.1)) x e in
    let pair : List VType × List VType = (first.0.0 ∷ [], first.0.1) in
    let same : pair ≡ x = cc in
    subst (λ (y : List VType × List VType). Item one y xs) same (one_of first.0 xs (subst (λ (us : List VType). AreOf us xs) (narrow_is ts first.0 first.1) of))
  where
    one_of : (y : VType × List VType) (xs : List Slot) → AreOf (y.0 ∷ y.1) xs → Item one (y.0 ∷ [], y.1) xs
    one_of y [] of = absurd of
    one_of y (slot ∷ left) of = record { item = slot ∷ []; left = left; is = refl; item_kinds = (of.0, tt); of = of.1 }
item_at two ts x xs e of =
    let both = wide_is ts x e in
    two_of both.upper both.lower x xs both.item (subst (λ (us : List VType). AreOf us xs) both.is of)
  where
    two_of : (t u : VType) (x : List VType × List VType) (xs : List Slot) → x.0 ≡ t ∷ u ∷ [] → AreOf (t ∷ u ∷ x.1) xs → Item two x xs
    two_of t u x [] e of = absurd of
    two_of t u x (upper ∷ []) e of = absurd of.1
    two_of t u x (upper ∷ lower ∷ left) e of =
        record { item = upper ∷ lower ∷ []; left = left; is = refl; item_kinds = subst (λ (us : List VType). AreOf us (upper ∷ lower ∷ [])) (sym e) (of.0, (of.1.0, tt)); of = of.1.1 }

pub record ItemsAt (widths : List Width) (x : List (List VType) × List VType) (xs : List Slot) : Type 0 where
  pub items : List (List Slot)
  pub left : List Slot
  pub is : items_of widths xs ≡ Some (items, left)
  pub item_kinds : AllZip AreOf x.0 items
  pub of : AreOf x.1 left

pub items_at : (widths : List Width) (ts : List VType) (x : List (List VType) × List VType) (xs : List Slot) → items_popped widths ts ≡ Ok x → AreOf ts xs → ItemsAt widths x xs
items_at [] ts x xs e of =
    let pair : List (List VType) × List VType = ([], ts) in
    let same : pair ≡ x = cc in
    subst (λ (y : List (List VType) × List VType). ItemsAt [] y xs) same (record { items = []; left = xs; is = refl; item_kinds = tt; of = of })
items_at (width ∷ widths) ts x xs e of =
    let first = ok_is (item_popped width ts) (λ y. items_popped widths y.1 then λ z. Ok (y.0 ∷ z.0, z.1)) x e in
    let second = ok_is (items_popped widths first.0.1) (λ z. Ok (first.0.0 ∷ z.0, z.1)) x first.2 in
    let top = item_at width ts first.0 xs first.1 of in
    let more = items_at widths first.0.1 second.0 top.left second.1 top.of in
    let pair : List (List VType) × List VType = (first.0.0 ∷ second.0.0, second.0.1) in
    let same : pair ≡ x = cc in
    let all : List (List Slot) × List Slot = (top.item ∷ more.items, more.left) in
    let rest : (items_of widths top.left >>= λ y. Some (top.item ∷ y.0, y.1)) ≡ Some all = step_is (items_of widths top.left) (λ y. Some (top.item ∷ y.0, y.1)) (more.items, more.left) more.is in
    subst (λ (y : List (List VType) × List VType). ItemsAt (width ∷ widths) y xs) same
    (record { items = top.item ∷ more.items; left = more.left; is = bind_is (item_of width xs) (λ x. items_of widths x.1 >>= λ y. Some (x.0 ∷ y.0, y.1)) (top.item, top.left) (Some all) top.is rest; item_kinds = (top.item_kinds, more.item_kinds); of = more.of })

item_kinds_at : (ts : List (List VType)) (xs : List (List Slot)) (n : ℕ) → AllZip AreOf ts xs → AreOf (get_or ts n []) (get_or xs n [])
item_kinds_at [] [] n of = tt
item_kinds_at [] (x ∷ xs) n of = absurd of
item_kinds_at (t ∷ ts) [] n of = absurd of
item_kinds_at (t ∷ ts) (x ∷ xs) zero of = of.0
item_kinds_at (t ∷ ts) (x ∷ xs) (suc n) of = item_kinds_at ts xs n of.1

pub items_on_of : (ts : List (List VType)) (xs : List (List Slot)) (order : List ℕ) (rest : List VType) (left : List Slot) → AllZip AreOf ts xs → AreOf rest left → AreOf (items_on ts order rest) (items_on xs order left)
items_on_of ts xs [] rest left items of = of
items_on_of ts xs (n ∷ order) rest left items of = append_of (get_or ts n []) (items_on ts order rest) (get_or xs n []) (items_on xs order left) (item_kinds_at ts xs n items) (items_on_of ts xs order rest left items of)
