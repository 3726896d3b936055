-- Arrays of several dimensions, made one by one.
use Rattle.std.proofs.Common.{ℕ, zero, suc, ◌≡◌, ◌<◌, ◌+◌, ◌*◌, List, [], ◌∷◌, ◌++◌, Option, Some, None, length, map, replicate, refl, sym, subst, ap, ◌∙◌, arith, zero-add, append_assoc}
use Rattle.std.specs.List.{range_with_len}
use Rattle.std.proofs.Math.Nat.{add-mul}
use Rattle.std.proofs.lemmas.List.{length-append, length-replicate, append-nil}
use Rattle.std.proofs.lemmas.List.FromFn.{map-range_with_len_more, length-map-range_with_len}
use Rattle.items.proofs.Binds.{bind_is, some_is}
use Rattle.instruction_rows.specs.declared.value.Value.{Value}
use Rattle.instruction_rows.specs.declared.value.Value.TheVariants as values
use Rattle.link_model.specs.declared.sites.ArrayType.{ArrayType}
use Rattle.link_model.specs.World.{World, array_type}
use Rattle.state_model.specs.Objects.{Object, instance}
use Rattle.heap_objs.specs.Heap.{Heap, made}
use Rattle.ref_model.specs.Kinds.{zero_of_kind, kind_of_elements}
use Rattle.ref_model.specs.Arrays.{all_joined, array_count, arrays_from, cells_of_lengths, element_class, element_zero, inner_number}
use Rattle.heap_instructions.specs.ArrayMaking.{AreMade, IsOuter, references, step_between, with_objects}

pub references_more : (first step n : ℕ) → references first step (n + 1) ≡ references first step n ++ values.Ref (first + n * step) ∷ []
references_more first step n = map-range_with_len_more (λ index. values.Ref (first + index * step)) 0 n n (zero-add n)

-- ---- lists that are joined

pub all_joined_more : {A : Type 0} (xs : List (Option (List A))) (b y : List A) → all_joined xs ≡ Some b → all_joined (xs ++ Some y ∷ []) ≡ Some (b ++ y)
all_joined_more [] b y e =
    let is : [] ≡ b = cc in
    ap Some (append-nil y) ∙ ap (λ z. Some (z ++ y)) is
all_joined_more (None ∷ xs) b y e = cc
all_joined_more (Some u ∷ xs) b y e =
    let parts = some_is (all_joined xs) (λ zs. Some (u ++ zs)) b e in
    let is : u ++ parts.0 ≡ b = cc in
    bind_is (all_joined (xs ++ Some y ∷ [])) (λ zs. Some (u ++ zs)) (parts.0 ++ y) (Some (b ++ y)) (all_joined_more xs parts.0 y parts.1)
    (ap Some (sym (append_assoc u parts.0 y)) ∙ ap (λ z. Some (z ++ y)) is)

-- ---- more objects after more objects

pub objects_twice : (xs ys : List Object) (a b c : ℕ) (h : Heap) → a + b ≡ c → with_objects ys b (with_objects xs a h) ≡ with_objects (xs ++ ys) c h
objects_twice xs ys a b c h e =
    let sum : h.used + a + b ≡ h.used + c = omega arith in
    λ i. record { objects = append_assoc h.objects xs ys i; cells = h.cells; used = sum i }

-- ---- the arrays below an outer one

pub record AreSomeMade (w : World) (below : List ℕ) (inner number count : ℕ) (base new : Heap) : Type 0 where
  pub objects : List Object
  pub from : all_joined (map (λ index. arrays_from w below (inner_number number below index) inner) (range_with_len 0 count)) ≡ Some objects
  pub new_is : new ≡ with_objects objects (count * cells_of_lengths below) base
  pub all : length objects ≡ count * array_count below

pub none_made : (w : World) (below : List ℕ) (inner number : ℕ) (base : Heap) → AreSomeMade w below inner number 0 base base
none_made w below inner number base = record {
  objects = [];
  from = refl;
  new_is =
      let sum : base.used ≡ base.used + 0 * cells_of_lengths below = omega arith in
      λ i. record { objects = sym (append-nil base.objects) i; cells = base.cells; used = sum i };
  all = omega arith;
}

pub step_more : (n k : ℕ) → n * k + k ≡ (n + 1) * k
step_more n k =
    let e = add-mul n 1 k in
    omega arith

pub one_more_made : (w : World) (below : List ℕ) (inner number count : ℕ) (base h new : Heap) → length base.objects ≡ number + 1 →
    AreSomeMade w below inner number count base h → AreMade w below inner h new → AreSomeMade w below inner number (count + 1) base new
one_more_made w below inner number count base h new start some more =
    let by : ℕ → Option (List Object) = λ index. arrays_from w below (inner_number number below index) inner in
    let cells = cells_of_lengths below in
    let len : length h.objects ≡ length base.objects + length some.objects = ap (λ (x : Heap). length x.objects) some.new_is ∙ length-append base.objects some.objects in
    let all = some.all in
    let place : length h.objects ≡ number + 1 + count * array_count below = omega arith in
    let next : by count ≡ Some more.objects = ap (λ p. arrays_from w below p inner) (sym place) ∙ more.from in
    record {
      objects = some.objects ++ more.objects;
      from = ap all_joined (map-range_with_len_more by 0 count count (zero-add count) ∙ ap (λ x. map by (range_with_len 0 count) ++ x ∷ []) next)
          ∙ all_joined_more (map by (range_with_len 0 count)) some.objects more.objects some.from;
      new_is = more.new_is ∙ ap (with_objects more.objects cells) some.new_is
          ∙ objects_twice some.objects more.objects (count * cells) cells ((count + 1) * cells) base (step_more count cells);
      all = length-append some.objects more.objects ∙ ap (λ k. k + length more.objects) some.all ∙ ap (λ k. count * array_count below + k) more.count
          ∙ step_more count (array_count below);
    }

pub all_made : (w : World) (n m : ℕ) (ns : List ℕ) (class inner : ℕ) (old base new : Heap) → Some inner ≡ element_class w class → IsOuter (m ∷ ns) n class old base →
    AreSomeMade w (m ∷ ns) inner (length old.objects) n base new → AreMade w (n ∷ m ∷ ns) class old new
all_made w n m ns class inner old base new is outer some =
    let first = instance class (references (length old.objects + 1) (array_count (m ∷ ns)) n) in
    let by : ℕ → Option (List Object) = λ index. arrays_from w (m ∷ ns) (inner_number (length old.objects) (m ∷ ns) index) inner in
    let all = some.all in
    record {
      objects = first ∷ some.objects;
      from = bind_is (element_class w class) _ inner _ (sym is) (bind_is (all_joined (map by (range_with_len 0 n))) _ some.objects _ some.from refl);
      new_is = some.new_is ∙ ap (with_objects some.objects (n * cells_of_lengths (m ∷ ns))) outer
          ∙ objects_twice (first ∷ []) some.objects (1 + n) (n * cells_of_lengths (m ∷ ns)) (cells_of_lengths (n ∷ m ∷ ns)) old refl;
      count = let sum : suc (length some.objects) ≡ 1 + n * array_count (m ∷ ns) = omega arith in sum;
    }

-- ---- one array

pub last_made : (w : World) (n class : ℕ) (t : ArrayType) (v : Value) (old new : Heap) → Some t ≡ array_type w class → v ≡ zero_of_kind (kind_of_elements t) →
    new ≡ made (instance class (replicate n v)) old → AreMade w (n ∷ []) class old new
last_made w n class t v old new type value is =
    let len = length-replicate n v in
    let sum : old.used + (1 + length (replicate n v)) ≡ old.used + (1 + n + n * 0) = omega arith in
    record {
      objects = instance class (replicate n v) ∷ [];
      from = bind_is (element_zero w class) (λ u. Some (instance class (replicate n u) ∷ [])) v (Some (instance class (replicate n v) ∷ []))
          (bind_is (array_type w class) _ t _ (sym type) (ap Some (sym value))) refl;
      new_is = is ∙ (λ i. record { objects = old.objects ++ instance class (replicate n v) ∷ []; cells = old.cells; used = sum i });
      count = omega arith;
    }

steps_are : (n first count : ℕ) → references first (step_between n count) n ≡ references first count n
steps_are zero first count = refl
steps_are (suc n) first count = refl

pub outer_made : (below : List ℕ) (n class first step : ℕ) (items : List Value) (old new : Heap) → first ≡ length old.objects + 1 → step ≡ step_between n (array_count below) →
    items ≡ references first step n → new ≡ made (instance class items) old → IsOuter below n class old new
outer_made below n class first step items old new start steps are is =
    let all : items ≡ references (length old.objects + 1) (array_count below) n =
    are ∙ ap (λ k. references k step n) start ∙ ap (λ k. references (length old.objects + 1) k n) steps
    ∙ steps_are n (length old.objects + 1) (array_count below) in
    let len : length items ≡ n = ap length are ∙ length-map-range_with_len (λ index. values.Ref (first + index * step)) 0 n in
    let sum : old.used + (1 + length items) ≡ old.used + (1 + n) = omega arith in
    is ∙ (λ i. record { objects = old.objects ++ instance class (all i) ∷ []; cells = old.cells; used = sum i })

pub outer_length : (below : List ℕ) (n class : ℕ) (old base : Heap) → IsOuter below n class old base → length base.objects ≡ length old.objects + 1
outer_length below n class old base is =
    ap (λ (x : Heap). length x.objects) is ∙ length-append old.objects (instance class (references (length old.objects + 1) (array_count below) n) ∷ [])

pub lengths_made : (w : World) (n : ℕ) (below lengths : List ℕ) (class inner : ℕ) (old base new : Heap) → 0 < length below → lengths ≡ n ∷ below →
    Some inner ≡ element_class w class → IsOuter below n class old base → AreSomeMade w below inner (length old.objects) n base new → AreMade w lengths class old new
lengths_made w n [] lengths class inner old base new more cases is outer some = absurd (omega arith)
lengths_made w n (m ∷ ns) lengths class inner old base new more cases is outer some =
    let P : List ℕ → Type 0 = λ xs. AreMade w xs class old new in
    subst P (sym cases) (all_made w n m ns class inner old base new is outer some)
