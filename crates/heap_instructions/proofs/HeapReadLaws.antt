-- What a heap's values are after one was set, as the definitions say it.
use Rattle.std.proofs.Common.{ℕ, zero, suc, ◌≡◌, ◌<◌, List, [], ◌∷◌, Option, Some, None, length, slice_get, slice_set, refl, sym, ap, ◌∙◌, arith, lt-ltb}
use Rattle.std.specs.Prelude.{if◌then◌else◌}
use Rattle.items.specs.Options.{◌>>=◌}
use Rattle.instruction_rows.specs.declared.value.Value.{Value}
use Rattle.instruction_rows.specs.Contents.{with_item}
use Rattle.state_model.specs.Objects.{Object, instance, text}
use Rattle.heap_objs.specs.Heap.{Heap, values_in}
use Rattle.heap_objs.specs.Heap as objects
use Rattle.ref_model.specs.Memory.{Memory}
use Rattle.ref_model.specs.Heap.{object_with, with_value}
use Rattle.heap_instructions.specs.Outcomes.{with_heap}

-- the objects with one changed, both ways
pub set_is : (xs : List Object) (o place : ℕ) (v : Value) (class : ℕ) (values : List Value) → slice_get xs o ≡ Some (instance class values) →
    slice_set xs o (instance class (slice_set values place v)) ≡ objects.with_value o place v xs
set_is [] o place v class values e = refl
set_is (x ∷ xs) zero place v class values e =
    let is : x ≡ instance class values = cc in
    ap (λ (y : Object). objects.value_set place v y ∷ xs) (sym is)
set_is (x ∷ xs) (suc o) place v class values e = ap (λ (ys : List Object). x ∷ ys) (set_is xs o place v class values e)

pub item_set : (place : ℕ) (v : Value) (values : List Value) → place < length values → with_item place v values ≡ Some (slice_set values place v)
item_set place v values h =
    ap (λ b. if b then Some (slice_set values place v) else None) (lt-ltb place (length values) h)

pub object_set : (r : Memory) (h : Heap) (o place : ℕ) (v : Value) (x : Option Object) → slice_get h.objects o ≡ x → place < length (values_in x) →
    (x >>= object_with (with_heap h r) o place v) ≡ Some (with_heap (record h { objects = objects.with_value o place v h.objects }) r)
object_set r h o place v None e lt = absurd (omega (arith, lt))
object_set r h o place v (Some (text units)) e lt = absurd (omega (arith, lt))
object_set r h o place v (Some (instance class values)) e lt =
    ap (λ items. items >>= λ others. Some (record (with_heap h r) { heap = slice_set h.objects o (instance class others) })) (item_set place v values lt)
    ∙ ap (λ heap. Some (record (with_heap h r) { heap = heap })) (set_is h.objects o place v class values e)

pub value_set_is : (r : Memory) (h new : Heap) (o place : ℕ) (v : Value) → place < length (objects.values_at h.objects o) →
    new ≡ record h { objects = objects.with_value o place v h.objects } → with_value (with_heap h r) o place v ≡ Some (with_heap new r)
value_set_is r h new o place v lt e =
    object_set r h o place v (slice_get h.objects o) refl lt ∙ ap (λ (g : Heap). Some (with_heap g r)) (sym e)
