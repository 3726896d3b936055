-- The arrays that multianewarray makes have elements of their kinds.
use Rattle.std.proofs.Common.{◌≡◌, ◌≢◌, ◌≤◌, ◌<◌, ℕ, zero, suc, ◌+◌, ◌-◌, ℤ, pos, Bool, true, false, List, [], ◌∷◌, ◌++◌, length, get_or, replicate, Option, Some, None, Ok, refl, ap, sym, subst, ◌∙◌, arith}
use Rattle.std.specs.Prelude.{map, int_lt, nat_le, position, unsigned_abs, ◌==◌, if◌then◌else◌}
use Rattle.std.specs.Option.{option_map}
use Rattle.std.specs.List.{list_any, range_with_len}
use Rattle.std.proofs.lemmas.Bool.{eqb-true}
use Rattle.std.proofs.lemmas.List.Quantifiers.{position-Some}
use Rattle.items.specs.First.{Each}
use Rattle.items.specs.Options.{◌>>=◌}
use Rattle.items.proofs.Binds.{some_is}
use Rattle.opcodes.specs.declared.op.ValueKind.{ValueKind}
use Rattle.opcodes.specs.declared.op.ValueKind.TheVariants as kinds
use Rattle.stack_maps.specs.declared.types.Base.TheVariants as bases
use Rattle.stack_maps.specs.declared.types.VType.{VType}
use Rattle.instruction_rows.specs.declared.value.Value.TheVariants as values
use Rattle.instruction_rows.specs.declared.value.Slot.{Slot}
use Rattle.instruction_rows.specs.Results.{◌then◌}
use Rattle.instruction_rows.specs.Kinds.{kind_of_type}
use Rattle.instruction_rows.specs.TypeEffect.{type_popped, types_popped, type_pushed}
use Rattle.instruction_rows.specs.Soundness.{AreOf}
use Rattle.instruction_rows.proofs.StackLaws.{popped_of}
use Rattle.instruction_rows.proofs.Steps.{ok_is}
use Rattle.link_model.specs.declared.sites.ArrayType.{ArrayType}
use Rattle.link_model.specs.declared.sites.Resolution.{Resolution}
use Rattle.link_model.specs.World.{World, array_type}
use Rattle.verify_types.proofs.ListLaws.{and_true}
use Rattle.state_model.specs.Objects.{Object, instance}
use Rattle.ref_model.specs.declared.exception.Exception.TheVariants as exceptions
use Rattle.ref_model.specs.Classes.{element_of, same_base, same_type, array_class}
use Rattle.ref_model.specs.Kinds.{kind_of_base, kind_of_elements}
use Rattle.ref_model.specs.Memory.{Memory}
use Rattle.ref_model.specs.Heap.{with_objects}
use Rattle.ref_model.specs.Fetch.{class_of}
use Rattle.ref_model.specs.Effects.{Effect, gives_new, throws}
use Rattle.ref_model.specs.Arrays.{element_zero, not_negative, cells_of_lengths, element_class, inner_number, all_joined, arrays_from, ints_popped, with_arrays, arrays_made}
use Rattle.frame_soundness.specs.StateKinds.{IsOfKind, ValuesFit, ObjectFits, MemoryFits}
use Rattle.frame_soundness.specs.EventLaws.{IsKept, HasDimensions}
use Rattle.frame_soundness.proofs.FieldLaws.{kept_is, same_types}
use Rattle.frame_soundness.proofs.ObjectLaws.{array_fits, made_keeps}

-- ---- joined lists

each_join : {A : Type 0} (P : A → Type 0) (xs ys : List A) → Each P xs → Each P ys → Each P (xs ++ ys)
each_join P [] ys first more = more
each_join P (x ∷ xs) ys first more = (first.0, each_join P xs ys first.1 more)

all_each : {A : Type 0} (P : A → Type 0) (f : ℕ → Option (List A)) → ((n : ℕ) (xs : List A) → f n ≡ Some xs → Each P xs)
    → (ns : List ℕ) (all : List A) → all_joined (map f ns) ≡ Some all → Each P all
all_each {A} P f each [] all e = subst (Each P) (inside [] all e) tt
  where
    inside : (a b : List A) → ◌≡◌ {A = Option (List A)} (Some a) (Some b) → a ≡ b
    inside a b same = cc
all_each {A} P f each (n ∷ ns) all e =
    let first = some_is (f n) (λ ys. all_joined (map f ns) >>= λ zs. Some (ys ++ zs)) all e in
    let more = some_is (all_joined (map f ns)) (λ zs. Some (first.0 ++ zs)) all first.2 in
    subst (Each P) (inside (first.0 ++ more.0) all more.2)
    (each_join P first.0 more.0 (each n first.0 first.1) (all_each P f each ns more.0 more.1))
  where
    inside : (a b : List A) → ◌≡◌ {A = Option (List A)} (Some a) (Some b) → a ≡ b
    inside a b same = cc

-- ---- an array of arrays has references as its elements

each_index : {A : Type 0} (P : A → Type 0) (xs : List A) (n : ℕ) (d : A) → Each P xs → n < length xs → P (get_or xs n d)
each_index P [] n d each low = absurd (omega arith)
each_index P (x ∷ xs) zero d each low = each.0
each_index P (x ∷ xs) (suc n) d each low = each_index P xs n d each.1 (omega arith)

two_dimensions : (n m : ℕ) → 1 ≤ m → m ≡ n - 1 → n ≢ 1
two_dimensions n m some same one = omega arith

no_one : (n : ℕ) → n ≢ 1 → (n == 1) ≡ false
no_one n differs = by (n == 1) refl
  where
    by : (b : Bool) → (n == 1) ≡ b → b ≡ false
    by true e = absurd (differs (eqb-true n 1 e))
    by false e = refl

element_kind : (w : World) (t : ArrayType) (inner : ℕ) → HasDimensions w → array_class w (element_of t) ≡ Some inner
    → kind_of_elements t ≡ kinds.Reference
element_kind w t inner dims e = by (position (λ other. same_type other (element_of t)) w.arrays) refl e
  where
    by : (o : Option ℕ) → position (λ other. same_type other (element_of t)) w.arrays ≡ o
        → option_map (λ place. length w.names + place) o ≡ Some inner → kind_of_elements t ≡ kinds.Reference
    by None at e = absurd cc
    by (Some place) at e =
        let h = position-Some (λ other. same_type other (element_of t)) w.arrays place (record { dimensions = 1; base = bases.Int }) at in
        let other = get_or w.arrays place (record { dimensions = 1; base = bases.Int }) in
        let some = each_index (λ (a : ArrayType). 1 ≤ a.dimensions) w.arrays place (record { dimensions = 1; base = bases.Int }) dims h.0 in
        let same = eqb-true other.dimensions (t.dimensions - 1)
        (and_true (other.dimensions == (t.dimensions - 1)) (same_base other.base t.base) h.1).0 in
        let no = no_one t.dimensions (two_dimensions t.dimensions other.dimensions some same) in
        ap (λ b. if b then kind_of_base t.base else kinds.Reference) no

references : (f : ℕ → ℕ) (ns : List ℕ) → Each (IsOfKind kinds.Reference) (map (λ n. values.Ref (f n)) ns)
references f [] = tt
references f (n ∷ ns) = (refl, references f ns)

-- ---- the arrays

same_objects : (a b : List Object) → ◌≡◌ {A = Option (List Object)} (Some a) (Some b) → a ≡ b
same_objects a b e = cc

arrays_fit : (w : World) → HasDimensions w → (lengths : List ℕ) (number class : ℕ) (objects : List Object)
    → arrays_from w lengths number class ≡ Some objects → Each (ObjectFits w) objects
arrays_fit w dims [] number class objects e = subst (Each (ObjectFits w)) (same_objects [] objects e) tt
arrays_fit w dims (n ∷ []) number class objects e =
    let v = some_is (element_zero w class) (λ v. Some (instance class (replicate n v) ∷ [])) objects e in
    subst (Each (ObjectFits w)) (same_objects (instance class (replicate n v.0) ∷ []) objects v.2) (array_fits w class n v.0 v.1, tt)
arrays_fit w dims (n ∷ m ∷ ns) number class objects e =
    let place = inner_number number (m ∷ ns) in
    let inner = some_is (element_class w class) (λ inner.
    all_joined (map (λ index. arrays_from w (m ∷ ns) (place index) inner) (range_with_len 0 n)) >>= λ below.
    Some (instance class (map (λ index. values.Ref (place index)) (range_with_len 0 n)) ∷ below)) objects e in
    let below = some_is (all_joined (map (λ index. arrays_from w (m ∷ ns) (place index) inner.0) (range_with_len 0 n)))
    (λ below. Some (instance class (map (λ index. values.Ref (place index)) (range_with_len 0 n)) ∷ below)) objects inner.2 in
    let t = some_is (array_type w class) (λ t. array_class w (element_of t)) inner.0 inner.1 in
    let kind = element_kind w t.0 inner.0 dims t.2 in
    let outer : ObjectFits w (instance class (map (λ index. values.Ref (place index)) (range_with_len 0 n))) =
    subst (ValuesFit w class (map (λ index. values.Ref (place index)) (range_with_len 0 n))) (sym t.1)
    (subst (λ (k : ValueKind). Each (IsOfKind k) (map (λ index. values.Ref (place index)) (range_with_len 0 n))) (sym kind)
    (references place (range_with_len 0 n))) in
    let more = all_each (ObjectFits w) (λ index. arrays_from w (m ∷ ns) (place index) inner.0)
    (λ index xs made. arrays_fit w dims (m ∷ ns) (place index) inner.0 xs made) (range_with_len 0 n) below.0 below.1 in
    subst (Each (ObjectFits w))
    (same_objects (instance class (map (λ index. values.Ref (place index)) (range_with_len 0 n)) ∷ below.0) objects below.2) (outer, more)

-- ---- lengths on the operand stack

record Lengths (n : ℕ) (xs : List Slot) (rest : List VType) : Type 0 where
  pub lengths : List ℤ
  pub left : List Slot
  pub is : ints_popped n xs ≡ Some (lengths, left)
  pub below : AreOf rest left

lengths_popped : (n : ℕ) (ts rest : List VType) (xs : List Slot) → types_popped (replicate n kinds.Int) ts ≡ Ok rest → AreOf ts xs
    → Lengths n xs rest
lengths_popped zero ts rest xs e of =
    record { lengths = []; left = xs; is = refl; below = subst (λ (us : List VType). AreOf us xs) (same_types ts rest e) of }
lengths_popped (suc n) ts rest xs e of =
    let first = ok_is (type_popped kinds.Int ts) (λ (x : VType × List VType). types_popped (replicate n kinds.Int) x.1) rest e in
    let pop = popped_of kinds.Int ts first.0 xs first.1 of in
    let more = lengths_popped n first.0.1 rest pop.left first.2 pop.of in
    record {
      lengths = more.lengths ++ pop.value ∷ [];
      left = more.left;
      is = ap (λ o. o >>= λ x. ints_popped n x.1 >>= λ y. Some (y.0 ++ x.0 ∷ [], y.1)) pop.is
          ∙ ap (λ o. o >>= λ y. Some (y.0 ++ pop.value ∷ [], y.1)) more.is;
      below = more.below;
    }

-- ---- multianewarray

pub arrays_keep : (w : World) (resolution : Resolution) (r : Memory) (dimensions : ℕ) (t : VType) (ts rest : List VType) (xs : List Slot)
    (effect : Effect) → HasDimensions w → MemoryFits w r → AreOf ts xs → kind_of_type t ≡ Some kinds.Reference
    → types_popped (replicate dimensions kinds.Int) ts ≡ Ok rest → arrays_made w dimensions resolution r xs ≡ Some effect
    → IsKept w (type_pushed t rest) effect
arrays_keep w resolution r dimensions t ts rest xs effect dims fits of kind taken e =
    let pop = lengths_popped dimensions ts rest xs taken of in
    let class = some_is (class_of resolution.site) (λ class. ints_popped dimensions xs >>= λ x.
    not_negative (list_any (λ n. int_lt n (pos 0)) x.0) (with_arrays w r class (map unsigned_abs x.0) >>= λ made. Some (gives_new made x.1)))
    effect e in
    let x = some_is (ints_popped dimensions xs) (λ x.
    not_negative (list_any (λ n. int_lt n (pos 0)) x.0) (with_arrays w r class.0 (map unsigned_abs x.0) >>= λ made. Some (gives_new made x.1)))
    effect class.2 in
    let same = same_ints (ints_popped dimensions xs) (pop.lengths, pop.left) x.0 pop.is x.1 in
    let left : AreOf rest x.0.1 = subst (λ (y : List ℤ × List Slot). AreOf rest y.1) same pop.below in
    tested class.0 (map unsigned_abs x.0.0) x.0.1 left (list_any (λ n. int_lt n (pos 0)) x.0.0) x.2
  where
    same_ints : (o : Option (List ℤ × List Slot)) (a b : List ℤ × List Slot) → o ≡ Some a → o ≡ Some b → a ≡ b
    same_ints o a b x y = cc

    roomy : (class : ℕ) (lengths : List ℕ) (left : List Slot) → AreOf rest left → (b : Bool)
        → ((if b then (arrays_from w lengths (length r.heap) class >>= λ objects. Some (with_objects r (cells_of_lengths lengths) objects))
        else Some None) >>= λ made. Some (gives_new made left)) ≡ Some effect → IsKept w (type_pushed t rest) effect
    roomy class lengths left of false e = kept_is w (type_pushed t rest) (throws exceptions.OutOfMemoryError) effect e tt
    roomy class lengths left of true e =
        let made = some_is (arrays_from w lengths (length r.heap) class >>= λ objects. Some (with_objects r (cells_of_lengths lengths) objects))
        (λ made. Some (gives_new made left)) effect e in
        let objects = some_is (arrays_from w lengths (length r.heap) class)
        (λ objects. Some (with_objects r (cells_of_lengths lengths) objects)) made.0 made.1 in
        made_keeps w r (cells_of_lengths lengths) objects.0 t rest left effect fits
        (arrays_fit w dims lengths (length r.heap) class objects.0 objects.1) kind of
        (ap (λ o. o >>= λ made. Some (gives_new made left)) objects.2 ∙ made.2)

    tested : (class : ℕ) (lengths : List ℕ) (left : List Slot) → AreOf rest left → (b : Bool)
        → not_negative b (with_arrays w r class lengths >>= λ made. Some (gives_new made left)) ≡ Some effect → IsKept w (type_pushed t rest) effect
    tested class lengths left of true e = kept_is w (type_pushed t rest) (throws exceptions.NegativeArraySizeException) effect e tt
    tested class lengths left of false e = roomy class lengths left of (nat_le (cells_of_lengths lengths) r.room) e
