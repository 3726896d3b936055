-- Arrays keep kinds.
use Rattle.std.proofs.Common.{◌≡◌, ℕ, zero, suc, ℤ, pos, Bool, true, false, List, [], ◌∷◌, length, Option, Some, None, Ok, refl, ap, sym, subst, ◌∙◌}
use Rattle.std.specs.Prelude.{nat_lt, slice_get, slice_set, ◌==◌, ◌&&◌, ◌||◌, if◌then◌else◌}
use Rattle.std.specs.Option.{option_map}
use Rattle.std.proofs.lemmas.Bool.{eqb-true}
use Rattle.items.specs.First.{Each}
use Rattle.items.specs.Options.{◌>>=◌}
use Rattle.items.proofs.Binds.{some_is}
use Rattle.opcodes.specs.declared.op.ValueKind.{ValueKind}
use Rattle.opcodes.specs.declared.op.ValueKind.TheVariants as kinds
use Rattle.opcodes.specs.declared.op.Element.{Element}
use Rattle.opcodes.specs.declared.op.Element.TheVariants as elements
use Rattle.stack_maps.specs.declared.types.Base.{Base}
use Rattle.stack_maps.specs.declared.types.Base.TheVariants as bases
use Rattle.stack_maps.specs.declared.types.VType.{VType}
use Rattle.stack_maps.specs.declared.types.VType.TheVariants as types
use Rattle.instruction_rows.specs.declared.row_why.RowWhy.TheVariants as whys
use Rattle.instruction_rows.specs.declared.value.Value.{Value}
use Rattle.instruction_rows.specs.declared.value.Value.TheVariants as values
use Rattle.instruction_rows.specs.declared.value.Slot.{Slot}
use Rattle.instruction_rows.specs.Results.{◌then◌}
use Rattle.instruction_rows.specs.Contents.{with_item}
use Rattle.instruction_rows.specs.Kinds.{Of, kind_of, kind_of_type, kind_of_element, value}
use Rattle.instruction_rows.specs.SlotEffect.{popped, pushed}
use Rattle.instruction_rows.specs.TypeEffect.{type_popped, type_pushed}
use Rattle.instruction_rows.specs.Soundness.{AreOf}
use Rattle.instruction_rows.proofs.KindLaws.{pushed_kinds, kind_of_value}
use Rattle.instruction_rows.proofs.StackLaws.{popped_of}
use Rattle.instruction_rows.proofs.Steps.{ok_is, passed}
use Rattle.link_model.specs.declared.sites.ArrayType.{ArrayType}
use Rattle.link_model.specs.World.{World, array_type}
use Rattle.verify_types.specs.ClassTypes.{object_type}
use Rattle.verify_types.specs.Operands.{only_if, is_element, is_reference_element, serves, is_array, array_popped}
use Rattle.verify_types.specs.Objects.{element_type, stored_popped, array_loaded as array_load_types, array_stored as array_store_types, length_gotten as length_types}
use Rattle.state_model.specs.Objects.{Object, instance, text}
use Rattle.ref_model.specs.declared.exception.Exception.{Exception}
use Rattle.ref_model.specs.declared.exception.Exception.TheVariants as exceptions
use Rattle.ref_model.specs.Kinds.{kind_of_base, kind_of_elements, kept_in}
use Rattle.ref_model.specs.Memory.{Memory}
use Rattle.ref_model.specs.Heap.{Array, object_at, array_of, array_at, object_with, with_value}
use Rattle.ref_model.specs.Effects.{Effect, done, gives, throws}
use Rattle.ref_model.specs.Arrays.{on_found, on_array, on_array_of, place_in, on_place, may_hold, held_or_thrown, array_loaded, array_stored, length_gotten}
use Rattle.frame_soundness.specs.StateKinds.{IsOfKind, ValuesFit, ObjectFits, MemoryFits}
use Rattle.frame_soundness.specs.EventLaws.{IsKept}
use Rattle.frame_soundness.proofs.ValueLaws.{item_set, PoppedAs, wanted_popped}
use Rattle.frame_soundness.proofs.FieldLaws.{kept_is, same_types, same_effect, same_popped, same_memory, changed_fits}

-- ---- kinds of elements

element_kind : (element : Element) (t : VType) → kind_of_type (element_type element t) ≡ Some (kind_of_element element)
element_kind elements.Reference types.Top = refl
element_kind elements.Reference types.Int = refl
element_kind elements.Reference types.Float = refl
element_kind elements.Reference types.Double = refl
element_kind elements.Reference types.Long = refl
element_kind elements.Reference types.Null = refl
element_kind elements.Reference types.UninitThis = refl
element_kind elements.Reference (types.Object index) = refl
element_kind elements.Reference (types.Uninit new) = refl
element_kind elements.Reference (types.Named n base) = refl
element_kind elements.Long t = refl
element_kind elements.Int t = refl
element_kind elements.Byte t = refl
element_kind elements.Char t = refl
element_kind elements.Short t = refl

base_kind : (element : Element) (base : Base) → is_element element base ≡ true → kind_of_base base ≡ kind_of_element element
base_kind elements.Int bases.Int e = refl
base_kind elements.Long bases.Long e = refl
base_kind elements.Reference (bases.Class class) e = refl
base_kind elements.Byte bases.Byte e = refl
base_kind elements.Byte bases.Bool e = refl
base_kind elements.Char bases.Char e = refl
base_kind elements.Short bases.Short e = refl
base_kind element base e = absurd cc

reference_kind : (element : Element) → is_reference_element element ≡ true → kinds.Reference ≡ kind_of_element element
reference_kind elements.Reference e = refl
reference_kind element e = absurd cc

right_and : (a b : Bool) → (a && b) ≡ true → b ≡ true
right_and true b e = e
right_and false b e = absurd cc

-- an array for which an instruction serves has elements of its kind
served_kind : (element : Element) (a : ArrayType) → serves element (types.Named a.dimensions a.base) ≡ true
    → kind_of_elements a ≡ kind_of_element element
served_kind element a e = by (a.dimensions == 1) refl (is_element element a.base) refl e
  where
    by : (one : Bool) → (a.dimensions == 1) ≡ one → (here : Bool) → is_element element a.base ≡ here
        → ((one && here) || (nat_lt 1 a.dimensions && is_reference_element element)) ≡ true
        → (if one then kind_of_base a.base else kinds.Reference) ≡ kind_of_element element
    by true is true good e = base_kind element a.base good
    by true is false bad e =
        let same : a.dimensions ≡ 1 = eqb-true a.dimensions 1 is in
        let none : (nat_lt 1 1 && is_reference_element element) ≡ true =
        subst (λ (n : ℕ). (nat_lt 1 n && is_reference_element element) ≡ true) same e in
        absurd cc
    by false is here good e = reference_kind element (right_and (nat_lt 1 a.dimensions) (is_reference_element element) e)

-- ---- elements

pub each_got : {A : Type 0} (P : A → Type 0) (xs : List A) (n : ℕ) (x : A) → Each P xs → slice_get xs n ≡ Some x → P x
each_got P [] n x each e = absurd cc
each_got P (y ∷ ys) zero x each e = let same : y ≡ x = cc in subst P same each.0
each_got P (y ∷ ys) (suc n) x each e = each_got P ys n x each.1 e

pub each_set : {A : Type 0} (P : A → Type 0) (xs : List A) (n : ℕ) (x : A) → Each P xs → P x → Each P (slice_set xs n x)
each_set P [] n x each of = tt
each_set P (y ∷ ys) zero x each of = (of, each.1)
each_set P (y ∷ ys) (suc n) x each of = (each.0, each_set P ys n x each.1 of)

-- an array of the heap
record IsArray (w : World) (r : Memory) (o : ℕ) (a : Array) : Type 0 where
  pub at : object_at r o ≡ Some (instance a.class a.values)
  pub type : array_type w a.class ≡ Some a.type
  pub each : Each (IsOfKind (kind_of_elements a.type)) a.values

array_is : (w : World) (r : Memory) (o : ℕ) (x : Object) (a : Array) → MemoryFits w r → object_at r o ≡ Some x → array_of w x ≡ Some a
    → IsArray w r o a
array_is w r o (text units) a fits at e = absurd cc
array_is w r o (instance c vs) a fits at e = by (array_type w c) refl e
  where
    by : (m : Option ArrayType) → array_type w c ≡ m
        → option_map (λ t. record { class = c; type = t; values = vs }) m ≡ Some a → IsArray w r o a
    by None is e = absurd cc
    by (Some t) is e =
        let made : Array = record { class = c; type = t; values = vs } in
        let same : made ≡ a = cc in
        subst (IsArray w r o) same (record { at = at; type = is; each = subst (ValuesFit w c vs) is (fits.heap o (instance c vs) at) })

found_array : (w : World) (r : Memory) (o : ℕ) (a : Array) → MemoryFits w r → array_at w r o ≡ Some a → IsArray w r o a
found_array w r o a fits e =
    let x = some_is (object_at r o) (array_of w) a e in array_is w r o x.0 a fits x.1 x.2

-- ---- what is done on an array, or thrown

array_cases : (w : World) (r : Memory) (reference : Option ℕ) (act : ℕ → Array → Option Effect) (effect : Effect) (P : Effect → Type 0)
    → on_array w r reference act ≡ Some effect → ((x : Exception) → P (throws x))
    → ((o : ℕ) (a : Array) → array_at w r o ≡ Some a → act o a ≡ Some effect → P effect) → P effect
array_cases w r None act effect P e thrown acted =
    subst P (same_effect (throws exceptions.NullPointerException) effect e) (thrown exceptions.NullPointerException)
array_cases w r (Some o) act effect P e thrown acted = by (array_at w r o) refl e
  where
    by : (m : Option Array) → array_at w r o ≡ m → on_found m (act o) ≡ Some effect → P effect
    by None is e = subst P (same_effect (throws exceptions.VerifyError) effect e) (thrown exceptions.VerifyError)
    by (Some a) is e = acted o a is e

served_cases : (w : World) (r : Memory) (element : Element) (reference : Option ℕ) (act : ℕ → Array → Option Effect) (effect : Effect)
    (P : Effect → Type 0) → on_array_of w r element reference act ≡ Some effect → ((x : Exception) → P (throws x))
    → ((o : ℕ) (a : Array) → array_at w r o ≡ Some a → kind_of_elements a.type ≡ kind_of_element element → act o a ≡ Some effect → P effect)
    → P effect
served_cases w r element reference act effect P e thrown acted =
    array_cases w r reference
    (λ o a. if serves element (types.Named a.type.dimensions a.type.base) then act o a else Some (throws exceptions.VerifyError))
    effect P e thrown (λ o a at more. by o a at (serves element (types.Named a.type.dimensions a.type.base)) refl more)
  where
    by : (o : ℕ) (a : Array) → array_at w r o ≡ Some a → (b : Bool) → serves element (types.Named a.type.dimensions a.type.base) ≡ b
        → (if b then act o a else Some (throws exceptions.VerifyError)) ≡ Some effect → P effect
    by o a at true is e = acted o a at (served_kind element a.type is) e
    by o a at false is e = subst P (same_effect (throws exceptions.VerifyError) effect e) (thrown exceptions.VerifyError)

placed_cases : (place : Option ℕ) (act : ℕ → Option Effect) (effect : Effect) (P : Effect → Type 0) → on_place place act ≡ Some effect
    → ((x : Exception) → P (throws x)) → ((n : ℕ) → act n ≡ Some effect → P effect) → P effect
placed_cases None act effect P e thrown acted =
    subst P (same_effect (throws exceptions.ArrayIndexOutOfBoundsException) effect e) (thrown exceptions.ArrayIndexOutOfBoundsException)
placed_cases (Some n) act effect P e thrown acted = acted n e

-- ---- loads

loaded : (w : World) (element : Element) (r : Memory) (t : VType) (below : List VType) (left : List Slot) (effect : Effect) (o place : ℕ)
    (a : Array) → MemoryFits w r → AreOf below left → array_at w r o ≡ Some a → kind_of_elements a.type ≡ kind_of_element element
    → (slice_get a.values place >>= λ v. Some (gives r v left)) ≡ Some effect → IsKept w (type_pushed (element_type element t) below) effect
loaded w element r t below left effect o place a fits of at served e =
    let v = some_is (slice_get a.values place) (λ v. Some (gives r v left)) effect e in
    let here = found_array w r o a fits at in
    let kind = each_got (IsOfKind (kind_of_elements a.type)) a.values place v.0 here.each v.1 in
    kept_is w (type_pushed (element_type element t) below) (gives r v.0 left) effect v.2
    (fits, pushed_kinds (element_type element t) v.0 below left (element_kind element t ∙ ap Some (sym (kind ∙ served))) of)

pub array_loads_keep : (w : World) (element : Element) (r : Memory) (ts rest : List VType) (xs : List Slot) (effect : Effect)
    → MemoryFits w r → AreOf ts xs → array_load_types element ts ≡ Ok rest → array_loaded w element r xs ≡ Some effect
    → IsKept w rest effect
array_loads_keep w element r ts rest xs effect fits of types e =
    let i = ok_is (type_popped kinds.Int ts) (λ (x : VType × List VType). array_popped element x.1 then λ y.
    Ok (type_pushed (element_type element y.0) y.1)) rest types in
    let b = ok_is (array_popped element i.0.1) (λ (y : VType × List VType). Ok (type_pushed (element_type element y.0) y.1)) rest i.2 in
    let c = ok_is (type_popped kinds.Reference i.0.1) (λ (x : VType × List VType). only_if (serves element x.0) whys.Kind x) b.0 b.1 in
    let low = passed (serves element c.0.0) c.0 b.0 whys.Kind c.2 in
    let index = popped_of kinds.Int ts i.0 xs i.1 of in
    let array = popped_of kinds.Reference i.0.1 c.0 index.left c.1 index.of in
    let x = some_is (popped kinds.Int xs) (λ x. popped kinds.Reference x.1 >>= λ y. on_array_of w r element y.0
    (λ o a. on_place (place_in x.0 a) (λ place. slice_get a.values place >>= λ v. Some (gives r v y.1)))) effect e in
    let first = same_int (popped kinds.Int xs) (index.value, index.left) x.0 index.is x.1 in
    let y = some_is (popped kinds.Reference x.0.1) (λ y. on_array_of w r element y.0
    (λ o a. on_place (place_in x.0.0 a) (λ place. slice_get a.values place >>= λ v. Some (gives r v y.1)))) effect x.2 in
    let there : popped kinds.Reference x.0.1 ≡ Some (array.value, array.left) =
    subst (λ (z : ℤ × List Slot). popped kinds.Reference z.1 ≡ Some (array.value, array.left)) first array.is in
    let second = same_popped (popped kinds.Reference x.0.1) (array.value, array.left) y.0 there y.1 in
    let left : AreOf c.0.1 y.0.1 = subst (λ (z : Option ℕ × List Slot). AreOf c.0.1 z.1) second array.of in
    let kept = served_cases w r element y.0.0
    (λ o a. on_place (place_in x.0.0 a) (λ place. slice_get a.values place >>= λ v. Some (gives r v y.0.1))) effect
    (IsKept w (type_pushed (element_type element c.0.0) c.0.1)) y.2 (λ e. tt) (λ o a at served more.
    placed_cases (place_in x.0.0 a) (λ place. slice_get a.values place >>= λ v. Some (gives r v y.0.1)) effect
    (IsKept w (type_pushed (element_type element c.0.0) c.0.1)) more (λ e. tt)
    (λ place got. loaded w element r c.0.0 c.0.1 y.0.1 effect o place a fits left at served got)) in
    subst (λ (us : List VType). IsKept w us effect)
    (ap (λ (z : VType × List VType). type_pushed (element_type element z.0) z.1) low.1
    ∙ same_types (type_pushed (element_type element b.0.0) b.0.1) rest b.2) kept
  where
    same_int : (o : Option (ℤ × List Slot)) (a b : ℤ × List Slot) → o ≡ Some a → o ≡ Some b → a ≡ b
    same_int o a b x y = cc

-- ---- stores

plain : (k : ValueKind) (ts rest : List VType) (xs : List Slot) → (type_popped k ts then λ (x : VType × List VType). Ok x.1) ≡ Ok rest
    → AreOf ts xs → PoppedAs k xs rest
plain k ts rest xs e of =
    let parts = ok_is (type_popped k ts) (λ (x : VType × List VType). Ok x.1) rest e in
    let pop = popped_of k ts parts.0 xs parts.1 of in
    let same = same_types parts.0.1 rest parts.2 in
    record { value = pop.value; left = pop.left; is = pop.is; below = subst (λ (us : List VType). AreOf us pop.left) same pop.of }

stored_types : (w : World) (element : Element) (ts rest : List VType) (xs : List Slot) → stored_popped w element ts ≡ Ok rest → AreOf ts xs
    → PoppedAs (kind_of_element element) xs rest
stored_types w elements.Reference ts rest xs e of = wanted_popped w (object_type w) kinds.Reference ts rest xs refl e of
stored_types w elements.Int ts rest xs e of = plain kinds.Int ts rest xs e of
stored_types w elements.Long ts rest xs e of = plain kinds.Long ts rest xs e of
stored_types w elements.Byte ts rest xs e of = plain kinds.Int ts rest xs e of
stored_types w elements.Char ts rest xs e of = plain kinds.Int ts rest xs e of
stored_types w elements.Short ts rest xs e of = plain kinds.Int ts rest xs e of

kept_in_kind : (t : ArrayType) (v : Value) → kind_of (kept_in t v) ≡ kind_of v
kept_in_kind t (values.Int n) = refl
kept_in_kind t (values.Long n) = refl
kept_in_kind t values.Null = refl
kept_in_kind t (values.Ref object) = refl

same_object : (o : Option Object) (a b : Object) → o ≡ Some a → o ≡ Some b → a ≡ b
same_object o a b x y = cc

-- the memory with another element
element_fits : (w : World) (r q : Memory) (o place : ℕ) (v : Value) (a : Array) → MemoryFits w r → array_at w r o ≡ Some a
    → kind_of v ≡ kind_of_elements a.type → with_value r o place v ≡ Some q → MemoryFits w q
element_fits w r q o place v a fits at kind e =
    let here = found_array w r o a fits at in
    let x = some_is (object_at r o) (object_with r o place v) q e in
    let same = same_object (object_at r o) x.0 (instance a.class a.values) x.1 here.at in
    let made : object_with r o place v (instance a.class a.values) ≡ Some q =
    ap (object_with r o place v) (sym same) ∙ x.2 in
    let others = some_is (with_item place v a.values) (λ ys. Some (record r { heap = slice_set r.heap o (instance a.class ys) })) q made in
    let set : Each (IsOfKind (kind_of_elements a.type)) others.0 =
    subst (Each (IsOfKind (kind_of_elements a.type))) (item_set place v a.values others.0 others.1)
    (each_set (IsOfKind (kind_of_elements a.type)) a.values place v here.each kind) in
    let object : ObjectFits w (instance a.class others.0) = subst (ValuesFit w a.class others.0) (sym here.type) set in
    subst (MemoryFits w) (same_memory (record r { heap = slice_set r.heap o (instance a.class others.0) }) q others.2)
    (changed_fits w r o (instance a.class others.0) fits object)

held : (w : World) (r : Memory) (rest : List VType) (left : List Slot) (effect : Effect) (may : Bool) (after : Option Memory)
    → ((q : Memory) → after ≡ Some q → MemoryFits w q) → AreOf rest left → held_or_thrown may after left ≡ Some effect → IsKept w rest effect
held w r rest left effect false after fits of e = kept_is w rest (throws exceptions.ArrayStoreException) effect e tt
held w r rest left effect true after fits of e =
    let q = some_is after (λ q. Some (done q left)) effect e in
    kept_is w rest (done q.0 left) effect q.2 (fits q.0 q.1, of)

pub array_stores_keep : (w : World) (element : Element) (r : Memory) (ts rest : List VType) (xs : List Slot) (effect : Effect)
    → MemoryFits w r → AreOf ts xs → array_store_types w element ts ≡ Ok rest → array_stored w element r xs ≡ Some effect
    → IsKept w rest effect
array_stores_keep w element r ts rest xs effect fits of types e =
    let k = kind_of_element element in
    let s = ok_is (stored_popped w element ts) (λ us. type_popped kinds.Int us then λ (x : VType × List VType).
    array_popped element x.1 then λ (y : VType × List VType). Ok y.1) rest types in
    let i = ok_is (type_popped kinds.Int s.0) (λ (x : VType × List VType). array_popped element x.1 then λ (y : VType × List VType). Ok y.1) rest s.2 in
    let b = ok_is (array_popped element i.0.1) (λ (y : VType × List VType). Ok y.1) rest i.2 in
    let c = ok_is (type_popped kinds.Reference i.0.1) (λ (x : VType × List VType). only_if (serves element x.0) whys.Kind x) b.0 b.1 in
    let low = passed (serves element c.0.0) c.0 b.0 whys.Kind c.2 in
    let v = stored_types w element ts s.0 xs s.1 of in
    let index = popped_of kinds.Int s.0 i.0 v.left i.1 v.below in
    let array = popped_of kinds.Reference i.0.1 c.0 index.left c.1 index.of in
    let x = some_is (popped k xs) (λ x. popped kinds.Int x.1 >>= λ y. popped kinds.Reference y.1 >>= λ z. on_array_of w r element z.0
    (λ o a. on_place (place_in y.0 a) (λ place. may_hold w r a (value k x.0) >>= λ may.
    held_or_thrown may (with_value r o place (kept_in a.type (value k x.0))) z.1))) effect e in
    let first = same_value (popped k xs) (v.value, v.left) x.0 v.is x.1 in
    let y = some_is (popped kinds.Int x.0.1) (λ y. popped kinds.Reference y.1 >>= λ z. on_array_of w r element z.0
    (λ o a. on_place (place_in y.0 a) (λ place. may_hold w r a (value k x.0.0) >>= λ may.
    held_or_thrown may (with_value r o place (kept_in a.type (value k x.0.0))) z.1))) effect x.2 in
    let there : popped kinds.Int x.0.1 ≡ Some (index.value, index.left) =
    subst (λ (z : Of k × List Slot). popped kinds.Int z.1 ≡ Some (index.value, index.left)) first index.is in
    let second = same_int (popped kinds.Int x.0.1) (index.value, index.left) y.0 there y.1 in
    let z = some_is (popped kinds.Reference y.0.1) (λ z. on_array_of w r element z.0
    (λ o a. on_place (place_in y.0.0 a) (λ place. may_hold w r a (value k x.0.0) >>= λ may.
    held_or_thrown may (with_value r o place (kept_in a.type (value k x.0.0))) z.1))) effect y.2 in
    let under : popped kinds.Reference y.0.1 ≡ Some (array.value, array.left) =
    subst (λ (u : ℤ × List Slot). popped kinds.Reference u.1 ≡ Some (array.value, array.left)) second array.is in
    let third = same_popped (popped kinds.Reference y.0.1) (array.value, array.left) z.0 under z.1 in
    let lower : AreOf c.0.1 z.0.1 = subst (λ (u : Option ℕ × List Slot). AreOf c.0.1 u.1) third array.of in
    let left : AreOf rest z.0.1 = subst (λ (us : List VType). AreOf us z.0.1)
    (ap (λ (u : VType × List VType). u.1) low.1 ∙ same_types b.0.1 rest b.2) lower in
    served_cases w r element z.0.0
    (λ o a. on_place (place_in y.0.0 a) (λ place. may_hold w r a (value k x.0.0) >>= λ may.
    held_or_thrown may (with_value r o place (kept_in a.type (value k x.0.0))) z.0.1)) effect
    (IsKept w rest) z.2 (λ e. tt) (λ o a at served more.
    placed_cases (place_in y.0.0 a) (λ place. may_hold w r a (value k x.0.0) >>= λ may.
    held_or_thrown may (with_value r o place (kept_in a.type (value k x.0.0))) z.0.1) effect (IsKept w rest) more (λ e. tt)
    (λ place put. by o a place at served x.0.0 z.0.1 left put))
  where
    same_value : (o : Option (Of (kind_of_element element) × List Slot)) (a b : Of (kind_of_element element) × List Slot) → o ≡ Some a
        → o ≡ Some b → a ≡ b
    same_value o a b x y = cc

    same_int : (o : Option (ℤ × List Slot)) (a b : ℤ × List Slot) → o ≡ Some a → o ≡ Some b → a ≡ b
    same_int o a b x y = cc

    by : (o : ℕ) (a : Array) (place : ℕ) → array_at w r o ≡ Some a → kind_of_elements a.type ≡ kind_of_element element
        → (v : Of (kind_of_element element)) (left : List Slot) → AreOf rest left
        → (may_hold w r a (value (kind_of_element element) v) >>= λ may.
        held_or_thrown may (with_value r o place (kept_in a.type (value (kind_of_element element) v))) left) ≡ Some effect
        → IsKept w rest effect
    by o a place at served v left of e =
        let k = kind_of_element element in
        let after = with_value r o place (kept_in a.type (value k v)) in
        let may = some_is (may_hold w r a (value k v)) (λ may. held_or_thrown may after left) effect e in
        let kind : kind_of (kept_in a.type (value k v)) ≡ kind_of_elements a.type =
        kept_in_kind a.type (value k v) ∙ kind_of_value k v ∙ sym served in
        held w r rest left effect may.0 after (λ q is. element_fits w r q o place (kept_in a.type (value k v)) a fits at kind is) of may.2

-- ---- arraylength

pub lengths_keep : (w : World) (r : Memory) (ts rest : List VType) (xs : List Slot) (effect : Effect) → MemoryFits w r → AreOf ts xs
    → length_types ts ≡ Ok rest → length_gotten w r xs ≡ Some effect → IsKept w rest effect
lengths_keep w r ts rest xs effect fits of popping e =
    let c = ok_is (type_popped kinds.Reference ts) (λ (x : VType × List VType). only_if (is_array x.0) whys.Kind (types.Int ∷ x.1)) rest popping in
    let low = passed (is_array c.0.0) (types.Int ∷ c.0.1) rest whys.Kind c.2 in
    let array = popped_of kinds.Reference ts c.0 xs c.1 of in
    let x = some_is (popped kinds.Reference xs)
    (λ x. on_array w r x.0 (λ o a. Some (gives r (values.Int (pos (length a.values))) x.1))) effect e in
    let same = same_popped (popped kinds.Reference xs) (array.value, array.left) x.0 array.is x.1 in
    let left : AreOf c.0.1 x.0.1 = subst (λ (u : Option ℕ × List Slot). AreOf c.0.1 u.1) same array.of in
    array_cases w r x.0.0 (λ o a. Some (gives r (values.Int (pos (length a.values))) x.0.1)) effect (IsKept w rest) x.2 (λ e. tt)
    (λ o a at is. kept_is w rest (gives r (values.Int (pos (length a.values))) x.0.1) effect is (
      fits,
      subst (λ (us : List VType). AreOf us (pushed (values.Int (pos (length a.values))) x.0.1)) low.1
          (pushed_kinds types.Int (values.Int (pos (length a.values))) c.0.1 x.0.1 refl left),
    ))
