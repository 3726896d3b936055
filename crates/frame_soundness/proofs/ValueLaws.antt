-- Values of the kinds of fields and elements, in lists.
use Rattle.std.proofs.Common.{◌≡◌, ℕ, zero, suc, Bool, true, false, List, [], ◌∷◌, length, take, Some, None, Ok, refl, ap, sym, subst, ◌∙◌}
use Rattle.std.specs.Prelude.{filter, map, nat_lt, slice_get, slice_set, if◌then◌else◌}
use Rattle.std.specs.List.{AllZip}
use Rattle.opcodes.specs.declared.op.ValueKind.{ValueKind}
use Rattle.stack_maps.specs.declared.types.VType.{VType}
use Rattle.instruction_rows.specs.declared.row_why.RowWhy.TheVariants as whys
use Rattle.instruction_rows.specs.declared.value.Value.{Value}
use Rattle.instruction_rows.specs.declared.value.Slot.{Slot}
use Rattle.instruction_rows.specs.Results.{◌then◌}
use Rattle.instruction_rows.specs.Kinds.{Of, kind_of, kind_of_type}
use Rattle.instruction_rows.specs.SlotEffect.{popped}
use Rattle.instruction_rows.specs.TypeEffect.{type_popped}
use Rattle.instruction_rows.specs.Contents.{with_item}
use Rattle.instruction_rows.specs.Soundness.{AreOf}
use Rattle.instruction_rows.proofs.StackLaws.{popped_of}
use Rattle.instruction_rows.proofs.Steps.{ok_is, found, passed}
use Rattle.link_model.specs.declared.members.FieldInfo.{FieldInfo}
use Rattle.link_model.specs.declared.sites.Site.{Site}
use Rattle.link_model.specs.declared.sites.Site.TheVariants as sites
use Rattle.link_model.specs.World.{World}
use Rattle.verify_types.specs.Assignability.{assignable}
use Rattle.verify_types.specs.Objects.{field_of as typed_field}
use Rattle.verify_types.specs.Operands.{only_if, popped_as, wanted}
use Rattle.ref_model.specs.Fetch.{field_of}
use Rattle.frame_soundness.specs.StateKinds.{IsOfKind}

-- ---- one of several

pub zip_got : (ks : List ValueKind) (vs : List Value) (p : ℕ) (k : ValueKind) (v : Value) → AllZip IsOfKind ks vs → slice_get ks p ≡ Some k
    → slice_get vs p ≡ Some v → kind_of v ≡ k
zip_got [] vs p k v fit at has = absurd cc
zip_got (l ∷ ks) [] p k v fit at has = absurd fit
zip_got (l ∷ ks) (x ∷ vs) zero k v fit at has =
    let first : l ≡ k = cc in let value : x ≡ v = cc in ap kind_of (sym value) ∙ fit.0 ∙ first
zip_got (l ∷ ks) (x ∷ vs) (suc p) k v fit at has = zip_got ks vs p k v fit.1 at has

pub zip_set : (ks : List ValueKind) (vs : List Value) (p : ℕ) (k : ValueKind) (v : Value) → AllZip IsOfKind ks vs → slice_get ks p ≡ Some k
    → kind_of v ≡ k → AllZip IsOfKind ks (slice_set vs p v)
zip_set [] vs p k v fit at is = absurd cc
zip_set (l ∷ ks) [] p k v fit at is = absurd fit
zip_set (l ∷ ks) (x ∷ vs) zero k v fit at is = let first : k ≡ l = cc in (is ∙ first, fit.1)
zip_set (l ∷ ks) (x ∷ vs) (suc p) k v fit at is = (fit.0, zip_set ks vs p k v fit.1 at is)

-- the list with another item, where that is defined
pub item_set : {A : Type 0} (p : ℕ) (x : A) (xs ys : List A) → with_item p x xs ≡ Some ys → slice_set xs p x ≡ ys
item_set p x xs ys e = by (nat_lt p (length xs)) e
  where
    by : (b : Bool) → (if b then Some (slice_set xs p x) else None) ≡ Some ys → slice_set xs p x ≡ ys
    by true e = cc
    by false e = absurd cc

-- what passes a test, at its place among all that pass
pub place_among : {A B : Type 0} (p : A → Bool) (g : A → B) (xs : List A) (n : ℕ) (x : A) → slice_get xs n ≡ Some x → p x ≡ true
    → slice_get (map g (filter p xs)) (length (filter p (take n xs))) ≡ Some (g x)
place_among p g [] n x at passes = absurd cc
place_among p g (y ∷ ys) zero x at passes =
    let same : x ≡ y = cc in let first : p y ≡ true = ap p (sym same) ∙ passes in rw (first, same) refl
place_among p g (y ∷ ys) (suc n) x at passes = by (p y) refl (place_among p g ys n x at passes)
  where
    by : (b : Bool) → p y ≡ b → slice_get (map g (filter p ys)) (length (filter p (take n ys))) ≡ Some (g x)
        → slice_get (map g (filter p (y ∷ ys))) (length (filter p (take (suc n) (y ∷ ys)))) ≡ Some (g x)
    by true e more = rw e more
    by false e more = rw e more

-- ---- the field of a site

pub field_same : (w : World) (site : Site) (n : ℕ) (f : FieldInfo) → field_of site ≡ Some n → typed_field w site ≡ Ok f
    → slice_get w.fields n ≡ Some f
field_same w (sites.Field m) n f at e =
    let same : m ≡ n = cc in ap (slice_get w.fields) (sym same) ∙ found (slice_get w.fields m) f whys.Kind e
field_same w sites.Plain n f at e = absurd cc
field_same w (sites.Method m) n f at e = absurd cc
field_same w (sites.Class m) n f at e = absurd cc
field_same w (sites.Value v) n f at e = absurd cc

-- ---- a value of a type on top

pub record PoppedAs (k : ValueKind) (xs : List Slot) (rest : List VType) : Type 0 where
  pub value : Of k
  pub left : List Slot
  pub is : popped k xs ≡ Some (value, left)
  pub below : AreOf rest left

-- what is wanted is popped by the kind of its type
pub wanted_is : (w : World) (t : VType) (k : ValueKind) (ts rest : List VType) → kind_of_type t ≡ Some k → wanted w t ts ≡ Ok rest
    → (x : VType × List VType) × (type_popped k ts ≡ Ok x) × (x.1 ≡ rest)
wanted_is w t k ts rest kind e =
    let here : (type_popped k ts then λ x. only_if (assignable w x.0 t) whys.Kind x.1) ≡ Ok rest =
    ap (λ o. popped_as o ts then λ x. only_if (assignable w x.0 t) whys.Kind x.1) (sym kind) ∙ e in
    let parts = ok_is (type_popped k ts) (λ (x : VType × List VType). only_if (assignable w x.0 t) whys.Kind x.1) rest here in
    (parts.0, parts.1, (passed (assignable w parts.0.0 t) parts.0.1 rest whys.Kind parts.2).1)

pub wanted_popped : (w : World) (t : VType) (k : ValueKind) (ts rest : List VType) (xs : List Slot) → kind_of_type t ≡ Some k
    → wanted w t ts ≡ Ok rest → AreOf ts xs → PoppedAs k xs rest
wanted_popped w t k ts rest xs kind e of =
    let x = wanted_is w t k ts rest kind e in
    let pop = popped_of k ts x.0 xs x.1 of in
    record { value = pop.value; left = pop.left; is = pop.is; below = subst (λ (us : List VType). AreOf us pop.left) x.2 pop.of }
