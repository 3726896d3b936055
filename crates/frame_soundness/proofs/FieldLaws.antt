-- Fields keep kinds.
use Rattle.std.proofs.Common.{◌≡◌, ◌⊎◌, inl, inr, ℕ, zero, suc, Bool, true, false, List, [], ◌∷◌, Option, Some, None, Result, Ok, refl, ap, sym, subst, ◌∙◌}
use Rattle.std.specs.Prelude.{map, slice_get, slice_set, ◌||◌, if◌then◌else◌}
use Rattle.std.specs.Option.{option_map_or}
use Rattle.std.specs.List.{AllZip}
use Rattle.items.specs.Options.{◌>>=◌}
use Rattle.items.proofs.Binds.{some_is, bind_is}
use Rattle.opcodes.specs.declared.op.ValueKind.TheVariants as kinds
use Rattle.stack_maps.specs.declared.types.VType.{VType}
use Rattle.instruction_rows.specs.declared.row_why.RowWhy.{RowWhy}
use Rattle.instruction_rows.specs.declared.row_why.RowWhy.TheVariants as whys
use Rattle.instruction_rows.specs.declared.value.Value.{Value}
use Rattle.instruction_rows.specs.declared.value.Slot.{Slot}
use Rattle.instruction_rows.specs.Results.{◌then◌}
use Rattle.instruction_rows.specs.Contents.{with_item}
use Rattle.instruction_rows.specs.Kinds.{kind_of, kind_of_type, value}
use Rattle.instruction_rows.specs.SlotEffect.{popped, pushed}
use Rattle.instruction_rows.specs.TypeEffect.{type_popped, type_pushed}
use Rattle.instruction_rows.specs.Soundness.{AreOf}
use Rattle.instruction_rows.proofs.KindLaws.{pushed_kinds, kind_of_value}
use Rattle.instruction_rows.proofs.StackLaws.{popped_of}
use Rattle.instruction_rows.proofs.Steps.{ok_is, passed}
use Rattle.link_model.specs.declared.members.FieldInfo.{FieldInfo}
use Rattle.link_model.specs.declared.sites.Resolution.{Resolution}
use Rattle.link_model.specs.World.{World, array_type, class_type}
use Rattle.verify_types.specs.ClassTypes.{type_of_kind}
use Rattle.verify_types.specs.Assignability.{assignable}
use Rattle.verify_types.specs.Operands.{only_if, wanted}
use Rattle.verify_types.specs.Objects.{field_of as typed_field, named_class, static_gotten as get_static_types, static_put as put_static_types, field_gotten as get_field_types, field_put as put_field_types, may_set_early, set_in}
use Rattle.state_model.specs.Objects.{Object, instance, text}
use Rattle.ref_model.specs.declared.exception.Exception.{Exception}
use Rattle.ref_model.specs.declared.exception.Exception.TheVariants as exceptions
use Rattle.ref_model.specs.Classes.{is_sub}
use Rattle.ref_model.specs.Kinds.{value_kind, kept}
use Rattle.ref_model.specs.Members.{is_static_field, instance_fields, field_place, static_place}
use Rattle.ref_model.specs.Memory.{Memory}
use Rattle.ref_model.specs.Heap.{object_at, class_of, class_at, values_of, values_at, object_with, with_value}
use Rattle.ref_model.specs.Fetch.{field_of}
use Rattle.ref_model.specs.Effects.{Effect, done, gives, throws, late_failure, on_instance}
use Rattle.ref_model.specs.Fields.{stored, static_gotten, static_put, field_gotten, field_put}
use Rattle.frame_soundness.specs.StateKinds.{IsOfKind, kind_of_field, field_kind, instance_kinds, ValuesFit, ObjectFits, static_kinds, HasFieldKinds, MemoryFits}
use Rattle.frame_soundness.specs.EventLaws.{IsKept, IsStaticResolution, IsInstanceResolution, OfReceiver, got_object, put_object}
use Rattle.frame_soundness.proofs.ValueLaws.{zip_got, zip_set, item_set, place_among, field_same, wanted_popped}
use Rattle.frame_soundness.proofs.ReturnLaws.{kept_kind}
use Rattle.frame_soundness.proofs.Exceptions.{class_kind}

-- what is known of an effect that is known
pub kept_is : (w : World) (rest : List VType) (a b : Effect) → ◌≡◌ {A = Option Effect} (Some a) (Some b) → IsKept w rest a → IsKept w rest b
kept_is w rest a b e kept = subst (IsKept w rest) (inside a b e) kept
  where
    inside : (a b : Effect) → ◌≡◌ {A = Option Effect} (Some a) (Some b) → a ≡ b
    inside a b same = cc

pub same_types : (a b : List VType) → ◌≡◌ {A = Result (List VType) RowWhy} (Ok a) (Ok b) → a ≡ b
same_types a b e = cc

-- the kind of a static field, at its place
static_kind : (w : World) (n : ℕ) (f : FieldInfo) → slice_get w.fields n ≡ Some f → is_static_field f ≡ true
    → slice_get (static_kinds w) (static_place w n) ≡ Some (kind_of_field f)
static_kind w n f at static_flag = place_among is_static_field kind_of_field w.fields n f at static_flag

-- ---- getstatic

pub static_gets_keep : (w : World) (resolution : Resolution) (r : Memory) (ts rest : List VType) (xs : List Slot) (effect : Effect)
    → HasFieldKinds w → IsStaticResolution w resolution → MemoryFits w r → AreOf ts xs → get_static_types w resolution ts ≡ Ok rest
    → static_gotten w resolution r xs ≡ Some effect → IsKept w rest effect
static_gets_keep w resolution r ts rest xs effect field_kinds is_static fits of types e =
    let f = ok_is (typed_field w resolution.site) (λ (f : FieldInfo). Ok (type_pushed (type_of_kind w f.kind) ts)) rest types in
    let n = some_is (field_of resolution.site) (λ n. slice_get r.statics (static_place w n) >>= λ v. Some (gives r v xs)) effect e in
    let v = some_is (slice_get r.statics (static_place w n.0)) (λ v. Some (gives r v xs)) effect n.2 in
    let at = field_same w resolution.site n.0 f.0 n.1 f.1 in
    let kind = zip_got (static_kinds w) r.statics (static_place w n.0) (kind_of_field f.0) v.0 fits.statics
    (static_kind w n.0 f.0 at (is_static n.0 f.0 n.1 at)) v.1 in
    let stack = pushed_kinds (type_of_kind w f.0.kind) v.0 ts xs (field_kinds n.0 f.0 at ∙ ap Some (sym kind)) of in
    kept_is w rest (gives r v.0 xs) effect v.2
    (fits, subst (λ (us : List VType). AreOf us (pushed v.0 xs)) (same_types (type_pushed (type_of_kind w f.0.kind) ts) rest f.2) stack)

-- ---- a value that a field keeps

record Kept (w : World) (f : FieldInfo) (rest : List VType) (x : Value × List Slot) : Type 0 where
  pub kind : kind_of x.0 ≡ kind_of_field f
  pub below : AreOf rest x.1

stored_is : (w : World) (f : FieldInfo) (ts rest : List VType) (xs : List Slot) (x : Value × List Slot)
    → kind_of_type (type_of_kind w f.kind) ≡ Some (kind_of_field f) → wanted w (type_of_kind w f.kind) ts ≡ Ok rest → AreOf ts xs
    → stored f xs ≡ Some x → Kept w f rest x
stored_is w f ts rest xs x kind types of e =
    let k = value_kind f.kind in
    let pop = wanted_popped w (type_of_kind w f.kind) k ts rest xs kind types of in
    let v = kept f.kind (value k pop.value) in
    let here : stored f xs ≡ Some (v, pop.left) = ap (λ o. o >>= λ y. Some (kept f.kind (value k y.0), y.1)) pop.is in
    let same : (v, pop.left) ≡ x = inside (stored f xs) (v, pop.left) x here e in
    subst (Kept w f rest) same
    (record { kind = kept_kind f.kind (value k pop.value) ∙ kind_of_value k pop.value; below = pop.below })
  where
    inside : (o : Option (Value × List Slot)) (a b : Value × List Slot) → o ≡ Some a → o ≡ Some b → a ≡ b
    inside o a b x y = cc

-- ---- putstatic

same_field : (o : Option FieldInfo) (a b : FieldInfo) → o ≡ Some a → o ≡ Some b → a ≡ b
same_field o a b x y = cc

pub static_puts_keep : (w : World) (resolution : Resolution) (r : Memory) (ts rest : List VType) (xs : List Slot) (effect : Effect)
    → HasFieldKinds w → IsStaticResolution w resolution → MemoryFits w r → AreOf ts xs → put_static_types w resolution ts ≡ Ok rest
    → static_put w resolution r xs ≡ Some effect → IsKept w rest effect
static_puts_keep w resolution r ts rest xs effect field_kinds is_static fits of types e =
    let f = ok_is (typed_field w resolution.site) (λ (f : FieldInfo). wanted w (type_of_kind w f.kind) ts) rest types in
    let n = some_is (field_of resolution.site)
    (λ n. slice_get w.fields n >>= λ f. stored f xs >>= λ x. with_item (static_place w n) x.0 r.statics >>= λ statics.
    Some (done (record r { statics = statics }) x.1)) effect e in
    let g = some_is (slice_get w.fields n.0)
    (λ f. stored f xs >>= λ x. with_item (static_place w n.0) x.0 r.statics >>= λ statics.
    Some (done (record r { statics = statics }) x.1)) effect n.2 in
    let x = some_is (stored g.0 xs)
    (λ x. with_item (static_place w n.0) x.0 r.statics >>= λ statics. Some (done (record r { statics = statics }) x.1)) effect g.2 in
    let s = some_is (with_item (static_place w n.0) x.0.0 r.statics)
    (λ statics. Some (done (record r { statics = statics }) x.0.1)) effect x.2 in
    let at = field_same w resolution.site n.0 f.0 n.1 f.1 in
    let same = same_field (slice_get w.fields n.0) f.0 g.0 at g.1 in
    let here : wanted w (type_of_kind w g.0.kind) ts ≡ Ok rest =
    subst (λ (h : FieldInfo). wanted w (type_of_kind w h.kind) ts ≡ Ok rest) same f.2 in
    let k = stored_is w g.0 ts rest xs x.0 (field_kinds n.0 g.0 g.1) here of x.1 in
    let statics = subst (λ (vs : List Value). AllZip IsOfKind (static_kinds w) vs) (item_set (static_place w n.0) x.0.0 r.statics s.0 s.1)
    (zip_set (static_kinds w) r.statics (static_place w n.0) (kind_of_field g.0) x.0.0 fits.statics
    (static_kind w n.0 g.0 g.1 (is_static n.0 g.0 n.1 g.1)) k.kind) in
    kept_is w rest (done (record r { statics = s.0 }) x.0.1) effect s.2 (record { heap = fits.heap; statics = statics }, k.below)

-- ---- fields of an object

pub same_effect : (a b : Effect) → ◌≡◌ {A = Option Effect} (Some a) (Some b) → a ≡ b
same_effect a b e = cc

tested : (w : World) (named class : ℕ) (acted : Option Effect) (effect : Effect) (P : Effect → Type 0) → ((x : Exception) → P (throws x))
    → (b : Bool) → is_sub w class named ≡ b → (is_sub w class named ≡ true → acted ≡ Some effect → P effect)
    → (if b then acted else Some (throws (late_failure w named))) ≡ Some effect → P effect
tested w named class acted effect P thrown true sub act e = act sub e
tested w named class acted effect P thrown false sub act e =
    subst P (same_effect (throws (late_failure w named)) effect e) (thrown (late_failure w named))

-- what is done on an instance, or thrown
pub instance_cases : (w : World) (resolution : Resolution) (r : Memory) (reference : Option ℕ) (act : ℕ → ℕ → Option Effect) (effect : Effect)
    (P : Effect → Type 0) → on_instance w resolution r reference act ≡ Some effect → ((x : Exception) → P (throws x))
    → ((o class named : ℕ) → reference ≡ Some o → class_at w r o ≡ Some class → resolution.class ≡ Some named → is_sub w class named ≡ true
    → act o class ≡ Some effect → P effect)
    → P effect
instance_cases w resolution r None act effect P e thrown acted =
    subst P (same_effect (throws exceptions.NullPointerException) effect e) (thrown exceptions.NullPointerException)
instance_cases w resolution r (Some o) act effect P e thrown acted =
    let class = some_is (class_at w r o)
    (λ class. resolution.class >>= λ named. if is_sub w class named then act o class else Some (throws (late_failure w named))) effect e in
    let named = some_is resolution.class
    (λ named. if is_sub w class.0 named then act o class.0 else Some (throws (late_failure w named))) effect class.2 in
    tested w named.0 class.0 (act o class.0) effect P thrown (is_sub w class.0 named.0) refl
    (acted o class.0 named.0 refl class.1 named.1) named.2

-- an object of a class that is no array
pub record Instance (w : World) (r : Memory) (o class : ℕ) (values : List Value) : Type 0 where
  pub at : object_at r o ≡ Some (instance class values)
  pub fit : AllZip IsOfKind (instance_kinds w class) values

instance_of : (w : World) (r : Memory) (o class : ℕ) (x : Object) → MemoryFits w r → object_at r o ≡ Some x → class_of w x ≡ Some class
    → array_type w class ≡ None → (values : List Value) → values_of x ≡ Some values → Instance w r o class values
instance_of w r o class (text units) fits at of_class no_array values has = absurd cc
instance_of w r o class (instance c vs) fits at of_class no_array values has =
    let same : c ≡ class = cc in
    let all : vs ≡ values = cc in
    let none : array_type w c ≡ None = ap (array_type w) same ∙ no_array in
    let here : AllZip IsOfKind (instance_kinds w c) vs = subst (ValuesFit w c vs) none (fits.heap o (instance c vs) at) in
    let moved : AllZip IsOfKind (instance_kinds w class) vs = subst (λ (n : ℕ). AllZip IsOfKind (instance_kinds w n) vs) same here in
    record {
      at = at ∙ ap (λ n. Some (instance n vs)) same ∙ ap (λ ys. Some (instance class ys)) all;
      fit = subst (λ (ys : List Value). AllZip IsOfKind (instance_kinds w class) ys) all moved;
    }

map_at : {A B : Type 0} (g : A → B) (xs : List A) (n : ℕ) (x : A) → slice_get xs n ≡ Some x
    → slice_get (map g xs) n ≡ Some (g x)
map_at g [] n x e = absurd cc
map_at g (y ∷ ys) zero x e = let same : y ≡ x = cc in ap (λ z. Some (g z)) same
map_at g (y ∷ ys) (suc n) x e = map_at g ys n x e

-- the kind of a field at its place in an object
place_kind : (w : World) (class place n : ℕ) (f : FieldInfo) → slice_get (instance_fields w class) place ≡ Some n
    → slice_get w.fields n ≡ Some f → slice_get (instance_kinds w class) place ≡ Some (kind_of_field f)
place_kind w class place n f lies at =
    map_at (field_kind w) (instance_fields w class) place n lies
    ∙ ap (λ o. Some (option_map_or kind_of_field o kinds.Reference)) at

-- the object on which a field instruction works
field_instance : (w : World) (resolution : Resolution) (r : Memory) (o class named n place : ℕ) (values : List Value)
    → IsInstanceResolution w resolution class → MemoryFits w r → field_of resolution.site ≡ Some n → resolution.class ≡ Some named → is_sub w class named ≡ true
    → field_place w n ≡ Some place → class_at w r o ≡ Some class → values_at r o ≡ Some values → Instance w r o class values
field_instance w resolution r o class named n place values lies fits at is_named sub placed of_class has =
    let x = some_is (object_at r o) (class_of w) class of_class in
    let y = some_is (object_at r o) values_of values has in
    let same = same_object (object_at r o) y.0 x.0 y.1 x.1 in
    instance_of w r o class x.0 fits x.1 x.2 (lies n named place at is_named sub placed).1 values (ap values_of (sym same) ∙ y.2)
  where
    same_object : (o : Option Object) (a b : Object) → o ≡ Some a → o ≡ Some b → a ≡ b
    same_object o a b x y = cc

-- ---- getfield

gotten : (w : World) (resolution : Resolution) (r : Memory) (o class named n : ℕ) (f : FieldInfo) (below : List VType) (left : List Slot)
    (effect : Effect) → HasFieldKinds w → IsInstanceResolution w resolution class → MemoryFits w r → field_of resolution.site ≡ Some n
    → slice_get w.fields n ≡ Some f → AreOf below left → class_at w r o ≡ Some class → resolution.class ≡ Some named
    → is_sub w class named ≡ true
    → (field_place w n >>= λ place. values_at r o >>= λ fields. slice_get fields place >>= λ v. Some (gives r v left)) ≡ Some effect
    → IsKept w (type_pushed (type_of_kind w f.kind) below) effect
gotten w resolution r o class named n f below left effect field_kinds lies fits at is of of_class is_named sub e =
    let place = some_is (field_place w n)
    (λ place. values_at r o >>= λ fields. slice_get fields place >>= λ v. Some (gives r v left)) effect e in
    let fields = some_is (values_at r o) (λ fields. slice_get fields place.0 >>= λ v. Some (gives r v left)) effect place.2 in
    let v = some_is (slice_get fields.0 place.0) (λ v. Some (gives r v left)) effect fields.2 in
    let x = field_instance w resolution r o class named n place.0 fields.0 lies fits at is_named sub place.1 of_class fields.1 in
    let there = (lies n named place.0 at is_named sub place.1).0 in
    let kind = zip_got (instance_kinds w class) fields.0 place.0 (kind_of_field f) v.0 x.fit (place_kind w class place.0 n f there is) v.1 in
    kept_is w (type_pushed (type_of_kind w f.kind) below) (gives r v.0 left) effect v.2
    (fits, pushed_kinds (type_of_kind w f.kind) v.0 below left (field_kinds n f is ∙ ap Some (sym kind)) of)

pub same_popped : (o : Option (Option ℕ × List Slot)) (a b : Option ℕ × List Slot) → o ≡ Some a → o ≡ Some b → a ≡ b
same_popped o a b x y = cc

pub field_gets_keep : (w : World) (resolution : Resolution) (r : Memory) (ts rest : List VType) (xs : List Slot) (effect : Effect)
    → HasFieldKinds w → OfReceiver w r (got_object xs) (IsInstanceResolution w resolution) → MemoryFits w r → AreOf ts xs → get_field_types w resolution ts ≡ Ok rest
    → field_gotten w resolution r xs ≡ Some effect → IsKept w rest effect
field_gets_keep w resolution r ts rest xs effect field_kinds lies fits of types e =
    let f = ok_is (typed_field w resolution.site)
    (λ (f : FieldInfo). named_class resolution then λ class. wanted w (class_type w class) ts then λ below.
    Ok (type_pushed (type_of_kind w f.kind) below)) rest types in
    let c = ok_is (named_class resolution)
    (λ class. wanted w (class_type w class) ts then λ below. Ok (type_pushed (type_of_kind w f.0.kind) below)) rest f.2 in
    let below = ok_is (wanted w (class_type w c.0) ts) (λ below. Ok (type_pushed (type_of_kind w f.0.kind) below)) rest c.2 in
    let pop = wanted_popped w (class_type w c.0) kinds.Reference ts below.0 xs (class_kind w c.0) below.1 of in
    let n = some_is (field_of resolution.site) (λ n. popped kinds.Reference xs >>= λ x. on_instance w resolution r x.0 (λ o class.
    field_place w n >>= λ place. values_at r o >>= λ fields. slice_get fields place >>= λ v. Some (gives r v x.1))) effect e in
    let x = some_is (popped kinds.Reference xs) (λ x. on_instance w resolution r x.0 (λ o class.
    field_place w n.0 >>= λ place. values_at r o >>= λ fields. slice_get fields place >>= λ v. Some (gives r v x.1))) effect n.2 in
    let same = same_popped (popped kinds.Reference xs) (pop.value, pop.left) x.0 pop.is x.1 in
    let left : AreOf below.0 x.0.1 = subst (λ (y : Option ℕ × List Slot). AreOf below.0 y.1) same pop.below in
    let at = field_same w resolution.site n.0 f.0 n.1 f.1 in
    let kept = instance_cases w resolution r x.0.0 (λ o class.
    field_place w n.0 >>= λ place. values_at r o >>= λ fields. slice_get fields place >>= λ v. Some (gives r v x.0.1)) effect
    (IsKept w (type_pushed (type_of_kind w f.0.kind) below.0)) x.2 (λ e. tt) (λ o class named at_hand of_class is_named sub act.
    gotten w resolution r o class named n.0 f.0 below.0 x.0.1 effect field_kinds
    (lies o class (bind_is (popped kinds.Reference xs) (λ y. y.0) x.0 (Some o) x.1 at_hand) of_class) fits n.1 at left of_class is_named sub act) in
    subst (λ (us : List VType). IsKept w us effect) (same_types (type_pushed (type_of_kind w f.0.kind) below.0) rest below.2) kept

-- ---- putfield

pub set_at : {A : Type 0} (xs : List A) (o : ℕ) (z : A) (p : ℕ) (y : A) → slice_get (slice_set xs o z) p ≡ Some y
    → (y ≡ z) ⊎ (slice_get xs p ≡ Some y)
set_at [] o z p y e = absurd cc
set_at (x ∷ xs) zero z zero y e = let same : y ≡ z = cc in inl same
set_at (x ∷ xs) zero z (suc p) y e = inr e
set_at (x ∷ xs) (suc o) z zero y e = inr e
set_at (x ∷ xs) (suc o) z (suc p) y e = set_at xs o z p y e

-- the memory in which one object has changed
pub changed_fits : (w : World) (r : Memory) (o : ℕ) (x : Object) → MemoryFits w r → ObjectFits w x
    → MemoryFits w (record r { heap = slice_set r.heap o x })
changed_fits w r o x fits of = record { heap = λ p y e. by p y (set_at r.heap o x p y e); statics = fits.statics }
  where
    by : (p : ℕ) (y : Object) → (y ≡ x) ⊎ (slice_get r.heap p ≡ Some y) → ObjectFits w y
    by p y (inl same) = subst (ObjectFits w) (sym same) of
    by p y (inr e) = fits.heap p y e

pub same_memory : (a b : Memory) → ◌≡◌ {A = Option Memory} (Some a) (Some b) → a ≡ b
same_memory a b e = cc

set_fits : (w : World) (r q : Memory) (o class place : ℕ) (v : Value) (x : Object) → MemoryFits w r → object_at r o ≡ Some x
    → class_of w x ≡ Some class → array_type w class ≡ None → slice_get (instance_kinds w class) place ≡ Some (kind_of v)
    → object_with r o place v x ≡ Some q → MemoryFits w q
set_fits w r q o class place v (text units) fits at of_class no_array kind e = absurd cc
set_fits w r q o class place v (instance c vs) fits at of_class no_array kind e =
    let h = instance_of w r o class (instance c vs) fits at of_class no_array vs refl in
    let same : c ≡ class = cc in
    let others = some_is (with_item place v vs) (λ ys. Some (record r { heap = slice_set r.heap o (instance c ys) })) q e in
    let set : AllZip IsOfKind (instance_kinds w class) others.0 =
    subst (λ (ys : List Value). AllZip IsOfKind (instance_kinds w class) ys) (item_set place v vs others.0 others.1)
    (zip_set (instance_kinds w class) vs place (kind_of v) v h.fit kind refl) in
    let here : ValuesFit w class others.0 (array_type w class) =
    subst (ValuesFit w class others.0) (sym no_array) set in
    let object : ObjectFits w (instance c others.0) = subst (λ (n : ℕ). ObjectFits w (instance n others.0)) (sym same) here in
    subst (MemoryFits w) (same_memory (record r { heap = slice_set r.heap o (instance c others.0) }) q others.2)
    (changed_fits w r o (instance c others.0) fits object)

put : (w : World) (resolution : Resolution) (r : Memory) (o class named n : ℕ) (f : FieldInfo) (v : Value) (rest : List VType) (left : List Slot)
    (effect : Effect) → IsInstanceResolution w resolution class → MemoryFits w r → field_of resolution.site ≡ Some n
    → slice_get w.fields n ≡ Some f → kind_of v ≡ kind_of_field f → AreOf rest left → class_at w r o ≡ Some class
    → resolution.class ≡ Some named → is_sub w class named ≡ true
    → (field_place w n >>= λ place. with_value r o place v >>= λ q. Some (done q left)) ≡ Some effect → IsKept w rest effect
put w resolution r o class named n f v rest left effect lies fits at is kind of of_class is_named sub e =
    let place = some_is (field_place w n) (λ place. with_value r o place v >>= λ q. Some (done q left)) effect e in
    let q = some_is (with_value r o place.0 v) (λ q. Some (done q left)) effect place.2 in
    let there = lies n named place.0 at is_named sub place.1 in
    let x = some_is (object_at r o) (object_with r o place.0 v) q.0 q.1 in
    let y = some_is (object_at r o) (class_of w) class of_class in
    let same = same_object (object_at r o) y.0 x.0 y.1 x.1 in
    let kinds = place_kind w class place.0 n f there.0 is ∙ ap Some (sym kind) in
    let state = set_fits w r q.0 o class place.0 v x.0 fits x.1 (ap (class_of w) (sym same) ∙ y.2) there.1 kinds x.2 in
    kept_is w rest (done q.0 left) effect q.2 (state, of)
  where
    same_object : (o : Option Object) (a b : Object) → o ≡ Some a → o ≡ Some b → a ≡ b
    same_object o a b x y = cc

-- the object on which putfield works
object_is : (w : World) (resolution : Resolution) (xs : List Slot) (n : ℕ) (f : FieldInfo) (x : Value × List Slot) (y : Option ℕ × List Slot) (o : ℕ)
    → field_of resolution.site ≡ Some n → slice_get w.fields n ≡ Some f → stored f xs ≡ Some x → popped kinds.Reference x.1 ≡ Some y
    → y.0 ≡ Some o → put_object w resolution xs ≡ Some o
object_is w resolution xs n f x y o site at value reference is =
    bind_is (field_of resolution.site)
    (λ n. slice_get w.fields n >>= λ f. stored f xs >>= λ x. popped kinds.Reference x.1 >>= λ y. y.0) n (Some o) site
    (bind_is (slice_get w.fields n) (λ f. stored f xs >>= λ x. popped kinds.Reference x.1 >>= λ y. y.0) f (Some o) at
    (bind_is (stored f xs) (λ x. popped kinds.Reference x.1 >>= λ y. y.0) x (Some o) value
    (bind_is (popped kinds.Reference x.1) (λ y. y.0) y (Some o) reference is)))

pub field_puts_keep : (w : World) (resolution : Resolution) (r : Memory) (own : ℕ) (ts rest : List VType) (xs : List Slot) (effect : Effect)
    → HasFieldKinds w → OfReceiver w r (put_object w resolution xs) (IsInstanceResolution w resolution) → MemoryFits w r → AreOf ts xs → put_field_types w own resolution ts ≡ Ok rest
    → field_put w resolution r xs ≡ Some effect → IsKept w rest effect
field_puts_keep w resolution r own ts rest xs effect field_kinds lies fits of types e =
    let f = ok_is (typed_field w resolution.site)
    (λ (f : FieldInfo). named_class resolution then λ class. wanted w (type_of_kind w f.kind) ts then λ below. set_in w own class f below) rest types in
    let c = ok_is (named_class resolution) (λ class. wanted w (type_of_kind w f.0.kind) ts then λ below. set_in w own class f.0 below) rest f.2 in
    let below = ok_is (wanted w (type_of_kind w f.0.kind) ts) (λ below. set_in w own c.0 f.0 below) rest c.2 in
    let taken = ok_is (type_popped kinds.Reference below.0) (λ (x : VType × List VType).
    only_if (assignable w x.0 (class_type w c.0) || may_set_early own c.0 f.0 x.0) whys.Kind x.1) rest below.2 in
    let low = passed (assignable w taken.0.0 (class_type w c.0) || may_set_early own c.0 f.0 taken.0.0) taken.0.1 rest whys.Kind taken.2 in
    let n = some_is (field_of resolution.site) (λ n. slice_get w.fields n >>= λ f. stored f xs >>= λ x. popped kinds.Reference x.1 >>= λ y.
    on_instance w resolution r y.0 (λ o class. field_place w n >>= λ place. with_value r o place x.0 >>= λ q. Some (done q y.1))) effect e in
    let g = some_is (slice_get w.fields n.0) (λ f. stored f xs >>= λ x. popped kinds.Reference x.1 >>= λ y.
    on_instance w resolution r y.0 (λ o class. field_place w n.0 >>= λ place. with_value r o place x.0 >>= λ q. Some (done q y.1))) effect n.2 in
    let x = some_is (stored g.0 xs) (λ x. popped kinds.Reference x.1 >>= λ y.
    on_instance w resolution r y.0 (λ o class. field_place w n.0 >>= λ place. with_value r o place x.0 >>= λ q. Some (done q y.1))) effect g.2 in
    let y = some_is (popped kinds.Reference x.0.1) (λ y.
    on_instance w resolution r y.0 (λ o class. field_place w n.0 >>= λ place. with_value r o place x.0.0 >>= λ q. Some (done q y.1))) effect x.2 in
    let at = field_same w resolution.site n.0 f.0 n.1 f.1 in
    let same = same_field (slice_get w.fields n.0) f.0 g.0 at g.1 in
    let here : wanted w (type_of_kind w g.0.kind) ts ≡ Ok below.0 =
    subst (λ (h : FieldInfo). wanted w (type_of_kind w h.kind) ts ≡ Ok below.0) same below.1 in
    let k = stored_is w g.0 ts below.0 xs x.0 (field_kinds n.0 g.0 g.1) here of x.1 in
    let pop = popped_of kinds.Reference below.0 taken.0 x.0.1 taken.1 k.below in
    let same_pop = same_popped (popped kinds.Reference x.0.1) (pop.value, pop.left) y.0 pop.is y.1 in
    let under : AreOf taken.0.1 y.0.1 = subst (λ (z : Option ℕ × List Slot). AreOf taken.0.1 z.1) same_pop pop.of in
    let left : AreOf rest y.0.1 = subst (λ (us : List VType). AreOf us y.0.1) low.1 under in
    instance_cases w resolution r y.0.0
    (λ o class. field_place w n.0 >>= λ place. with_value r o place x.0.0 >>= λ q. Some (done q y.0.1)) effect
    (IsKept w rest) y.2 (λ e. tt) (λ o class named at_hand of_class is_named sub act.
    put w resolution r o class named n.0 g.0 x.0.0 rest y.0.1 effect
    (lies o class (object_is w resolution xs n.0 g.0 x.0 y.0 o n.1 g.1 x.1 y.1 at_hand) of_class) fits n.1 g.1 k.kind left of_class is_named sub act)
