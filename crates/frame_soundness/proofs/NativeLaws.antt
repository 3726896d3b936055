-- Native methods keep kinds.
use Rattle.std.proofs.Common.{◌≡◌, ℕ, zero, suc, ◌-◌, pos, negsuc, Bool, true, false, List, [], ◌∷◌, ◌++◌, length, Option, Some, None, refl, ap, sym, subst, ◌∙◌}
use Rattle.std.specs.Prelude.{codes, nat_le, slice_get, slice_set, ◌==◌, if◌then◌else◌}
use Rattle.std.specs.Option.{option_map_or}
use Rattle.std.specs.List.{AllZip}
use Rattle.items.specs.Options.{◌>>=◌}
use Rattle.items.proofs.Binds.{some_is}
use Rattle.lib_table.specs.declared.native.Native.{Native}
use Rattle.lib_table.specs.declared.native.Native.TheVariants as natives
use Rattle.opcodes.specs.declared.op.ValueKind.{ValueKind}
use Rattle.opcodes.specs.declared.op.ValueKind.TheVariants as kinds
use Rattle.instruction_rows.specs.declared.value.Value.{Value}
use Rattle.instruction_rows.specs.declared.value.Value.TheVariants as values
use Rattle.instruction_rows.specs.Contents.{with_item}
use Rattle.instruction_rows.specs.Kinds.{kind_of}
use Rattle.link_model.specs.declared.sites.ArrayType.{ArrayType}
use Rattle.link_model.specs.World.{World, array_type}
use Rattle.state_model.specs.Objects.{Object, instance, text}
use Rattle.ref_model.specs.declared.exception.Exception.TheVariants.{VerifyError}
use Rattle.ref_model.specs.Kinds.{kind_of_elements}
use Rattle.ref_model.specs.Classes.{class_name}
use Rattle.ref_model.specs.Memory.{Memory}
use Rattle.ref_model.specs.Heap.{object_at, class_at, units_at, values_of, values_at, object_with, with_value, cells_of_units, with_text}
use Rattle.ref_model.specs.Texts.{hex_text, decimal_text, boolean_text, char_text, null_text, text_bytes}
use Rattle.vthread_state.specs.declared.thread.ThreadKind.{ThreadKind}
use Rattle.vthread_state.specs.declared.thread.ThreadKind.TheVariants.{Platform, Virtual}
use Rattle.ref_model.specs.Requests.{creates}
use Rattle.ref_model.specs.ThreadNatives.{number_field, number_in, thread_number, with_number, on_object, on_number, on_thread, on_name, named, unparked}
use Rattle.ref_model.specs.NativeRows.{Answer, returns, fails, asks_for, NativeRow, new_text, gives_text, on_units, on_text, on_text_or, reference}
use Rattle.ref_model.specs.ObjectNatives.{boolean, identity_hash, described}
use Rattle.ref_model.specs.StringNatives.{unit_at, char_given, concatenated}
use Rattle.ref_model.specs.BuilderNatives.{text_in, builder_text, on_builder, builder_given, builder_with, appended}
use Rattle.ref_model.specs.Printing.{err_stream, written, line}
use Rattle.ref_model.specs.Natives.{native_row}
use Rattle.frame_soundness.specs.StateKinds.{IsOfKind, instance_kinds, ValuesFit, ObjectFits, MemoryFits}
use Rattle.frame_soundness.specs.NativeLaws.{native_result, IsAnswer, IsRow}
use Rattle.frame_soundness.proofs.ValueLaws.{zip_set, item_set}
use Rattle.frame_soundness.proofs.FieldLaws.{same_memory, changed_fits}
use Rattle.frame_soundness.proofs.ArrayLaws.{each_got, each_set}
use Rattle.frame_soundness.proofs.ObjectLaws.{more_fits}

-- ---- texts

text_fits : (w : World) (r : Memory) (units : List ℕ) → MemoryFits w r → IsAnswer w (Some kinds.Reference) (gives_text r units)
text_fits w r units fits = by (nat_le (cells_of_units (length units)) r.room)
  where
    by : (b : Bool) → IsAnswer w (Some kinds.Reference) (new_text (if b then
        Some (record r { heap = r.heap ++ text units ∷ []; room = r.room - cells_of_units (length units) }, length r.heap) else None))
    by false = tt
    by true = (refl, more_fits w r (cells_of_units (length units)) (text units ∷ []) fits (tt, tt))

on_text_is : (w : World) (result : Option ValueKind) (r : Memory) (this : Option ℕ) (act : List ℕ → Answer)
    → ((units : List ℕ) → IsAnswer w result (act units)) → IsAnswer w result (on_text r this act)
on_text_is w result r None act each = tt
on_text_is w result r (Some o) act each = by (units_at r o)
  where
    by : (m : Option (List ℕ)) → IsAnswer w result (on_units m act)
    by None = tt
    by (Some units) = each units

on_text_or_is : (w : World) (result : Option ValueKind) (otherwise : List ℕ) (r : Memory) (this : Option ℕ) (act : List ℕ → Answer)
    → ((units : List ℕ) → IsAnswer w result (act units)) → IsAnswer w result (on_text_or otherwise r this act)
on_text_or_is w result otherwise r None act each = each otherwise
on_text_or_is w result otherwise r (Some o) act each = by (units_at r o)
  where
    by : (m : Option (List ℕ)) → IsAnswer w result (on_units m act)
    by None = tt
    by (Some units) = each units

reference_kind : (this : Option ℕ) → kind_of (reference this) ≡ kinds.Reference
reference_kind None = refl
reference_kind (Some o) = refl

boolean_kind : (b : Bool) → kind_of (boolean b) ≡ kinds.Int
boolean_kind b = refl

-- ---- objects

identity_is : (w : World) (r : Memory) (this : Option ℕ) → MemoryFits w r → IsAnswer w (Some kinds.Int) (identity_hash r this)
identity_is w r None fits = tt
identity_is w r (Some o) fits = (refl, fits)

described_is : (w : World) (r : Memory) (this : Option ℕ) (hash : List ℕ) → MemoryFits w r
    → IsAnswer w (Some kinds.Reference) (described w r this hash)
described_is w r None hash fits = tt
described_is w r (Some o) hash fits = by (class_at w r o)
  where
    by : (m : Option ℕ) → IsAnswer w (Some kinds.Reference)
        (option_map_or (λ class. gives_text r (class_name w class ++ codes "@" ++ hash)) m (fails VerifyError))
    by None = tt
    by (Some class) = text_fits w r (class_name w class ++ codes "@" ++ hash) fits

char_is : (w : World) (r : Memory) (u : Option ℕ) → MemoryFits w r → IsAnswer w (Some kinds.Int) (char_given r u)
char_is w r None fits = tt
char_is w r (Some u) fits = (refl, fits)

concatenated_is : (w : World) (r : Memory) (this : Option ℕ) (units others : List ℕ) → MemoryFits w r
    → IsAnswer w (Some kinds.Reference) (concatenated r this units others)
concatenated_is w r this units [] fits = (ap Some (sym (reference_kind this)), fits)
concatenated_is w r this units (u ∷ others) fits = text_fits w r (units ++ u ∷ others) fits

-- ---- builders

-- the value that a text is in is a reference
text_kind : (r : Memory) (v : Value) (units : List ℕ) → text_in r v ≡ Some units → kind_of v ≡ kinds.Reference
text_kind r values.Null units e = refl
text_kind r (values.Ref o) units e = refl
text_kind r (values.Int n) units e = absurd cc
text_kind r (values.Long n) units e = absurd cc

zip_kind : (ks : List ValueKind) (vs : List Value) (p : ℕ) (v : Value) → AllZip IsOfKind ks vs → slice_get vs p ≡ Some v
    → slice_get ks p ≡ Some (kind_of v)
zip_kind [] [] p v fit at = absurd cc
zip_kind [] (x ∷ vs) p v fit at = absurd fit
zip_kind (k ∷ ks) [] p v fit at = absurd fit
zip_kind (k ∷ ks) (x ∷ vs) zero v fit at = let same : x ≡ v = cc in ap Some (sym fit.0 ∙ ap kind_of same)
zip_kind (k ∷ ks) (x ∷ vs) (suc p) v fit at = zip_kind ks vs p v fit.1 at

-- a value in place of another of its kind
replaced_fits : (w : World) (class place : ℕ) (old new : Value) (vs : List Value) (t : Option ArrayType) → ValuesFit w class vs t
    → slice_get vs place ≡ Some old → kind_of new ≡ kind_of old → ValuesFit w class (slice_set vs place new) t
replaced_fits w class place old new vs None fit at kind =
    zip_set (instance_kinds w class) vs place (kind_of old) new fit (zip_kind (instance_kinds w class) vs place old fit at) kind
replaced_fits w class place old new vs (Some t) fit at kind =
    each_set (IsOfKind (kind_of_elements t)) vs place new fit (kind ∙ each_got (IsOfKind (kind_of_elements t)) vs place old fit at)

object_set : (w : World) (r q : Memory) (o place : ℕ) (old new : Value) (x : Object) (vs : List Value) → MemoryFits w r
    → object_at r o ≡ Some x → values_of x ≡ Some vs → slice_get vs place ≡ Some old → kind_of new ≡ kind_of old
    → object_with r o place new x ≡ Some q → MemoryFits w q
object_set w r q o place old new (text units) vs fits at has old_at kind e = absurd cc
object_set w r q o place old new (instance c ys) vs fits at has old_at kind e =
    let same : vs ≡ ys = cc in
    let others = some_is (with_item place new ys) (λ zs. Some (record r { heap = slice_set r.heap o (instance c zs) })) q e in
    let here = replaced_fits w c place old new ys (array_type w c) (fits.heap o (instance c ys) at)
    (ap (λ zs. slice_get zs place) (sym same) ∙ old_at) kind in
    let object : ObjectFits w (instance c others.0) =
    subst (λ zs. ValuesFit w c zs (array_type w c)) (item_set place new ys others.0 others.1) here in
    subst (MemoryFits w) (same_memory (record r { heap = slice_set r.heap o (instance c others.0) }) q others.2)
    (changed_fits w r o (instance c others.0) fits object)

-- an object of the heap is that of the heap with more after it
front_at : {A : Type 0} (xs ys : List A) (p : ℕ) (x : A) → slice_get xs p ≡ Some x → slice_get (xs ++ ys) p ≡ Some x
front_at [] ys p x e = absurd cc
front_at (y ∷ xs) ys zero x e = e
front_at (y ∷ xs) ys (suc p) x e = front_at xs ys p x e

given_is : (w : World) (o : ℕ) (after : Option Memory) → ((q : Memory) → after ≡ Some q → MemoryFits w q)
    → IsAnswer w (Some kinds.Reference) (builder_given o after)
given_is w o None fits = tt
given_is w o (Some q) fits = (refl, fits q refl)

appended_is : (w : World) (r : Memory) (this : Option ℕ) (units : List ℕ) → MemoryFits w r
    → IsAnswer w (Some kinds.Reference) (appended r this units)
appended_is w r None units fits = tt
appended_is w r (Some o) units fits = by (builder_text r o) refl
  where
    set : (before : List ℕ) (q : Memory) (n : ℕ) → builder_text r o ≡ Some before
        → with_value (record r { heap = r.heap ++ text (before ++ units) ∷ []; room = n }) o 0 (values.Ref (length r.heap)) ≡ Some q
        → MemoryFits w (record r { heap = r.heap ++ text (before ++ units) ∷ []; room = n }) → MemoryFits w q
    set before q n found e more =
        let s : Memory = record r { heap = r.heap ++ text (before ++ units) ∷ []; room = n } in
        let vs = some_is (values_at r o) (λ fields. slice_get fields 0 >>= text_in r) before found in
        let old = some_is (slice_get vs.0 0) (text_in r) before vs.2 in
        let x = some_is (object_at r o) values_of vs.0 vs.1 in
        let y = some_is (object_at s o) (object_with s o 0 (values.Ref (length r.heap))) q e in
        let there : object_at s o ≡ Some x.0 = front_at r.heap (text (before ++ units) ∷ []) o x.0 x.1 in
        let same = same_object (object_at s o) y.0 x.0 y.1 there in
        object_set w s q o 0 old.0 (values.Ref (length r.heap)) x.0 vs.0 more there x.2 old.1 (sym (text_kind r old.0 before old.2))
        (ap (object_with s o 0 (values.Ref (length r.heap))) (sym same) ∙ y.2)
      where
        same_object : (m : Option Object) (a b : Object) → m ≡ Some a → m ≡ Some b → a ≡ b
        same_object m a b x y = cc

    made : (before : List ℕ) → builder_text r o ≡ Some before → (b : Bool) → IsAnswer w (Some kinds.Reference) (builder_with o (if b then
        Some (record r { heap = r.heap ++ text (before ++ units) ∷ []; room = r.room - cells_of_units (length (before ++ units)) }, length r.heap)
        else None))
    made before found false = tt
    made before found true =
        let n = r.room - cells_of_units (length (before ++ units)) in
        given_is w o (with_value (record r { heap = r.heap ++ text (before ++ units) ∷ []; room = n }) o 0 (values.Ref (length r.heap)))
        (λ q e. set before q n found e (more_fits w r (cells_of_units (length (before ++ units))) (text (before ++ units) ∷ []) fits (tt, tt)))

    by : (m : Option (List ℕ)) → builder_text r o ≡ m
        → IsAnswer w (Some kinds.Reference) (on_units m (λ before. builder_with o (with_text r (before ++ units))))
    by None found = tt
    by (Some before) found = made before found (nat_le (cells_of_units (length (before ++ units))) r.room)

on_builder_is : (w : World) (result : Option ValueKind) (r : Memory) (this : Option ℕ) (act : ℕ → List ℕ → Answer)
    → ((o : ℕ) (units : List ℕ) → IsAnswer w result (act o units)) → IsAnswer w result (on_builder r this act)
on_builder_is w result r None act each = tt
on_builder_is w result r (Some o) act each = by (builder_text r o)
  where
    by : (m : Option (List ℕ)) → IsAnswer w result (on_units m (act o))
    by None = tt
    by (Some units) = each o units

-- ---- output

written_is : (w : World) (r : Memory) (stream : Option ℕ) (units : List ℕ) → MemoryFits w r → IsAnswer w None (written r stream units)
written_is w r None units fits = tt
written_is w r (Some stream) units fits = by (stream == err_stream)
  where
    by : (b : Bool) → IsAnswer w None (returns
        (if b then record r { err = r.err ++ text_bytes units } else record r { out = r.out ++ text_bytes units }))
    by true = (refl, record { heap = fits.heap; statics = fits.statics })
    by false = (refl, record { heap = fits.heap; statics = fits.statics })

-- ---- threads

on_object_is : (w : World) (result : Option ValueKind) (this : Option ℕ) (act : ℕ → Answer) → ((o : ℕ) → IsAnswer w result (act o))
    → IsAnswer w result (on_object this act)
on_object_is w result None act each = tt
on_object_is w result (Some o) act each = each o

on_number_is : (w : World) (result : Option ValueKind) (n : Option ℕ) (act : ℕ → Answer) → ((t : ℕ) → IsAnswer w result (act t))
    → IsAnswer w result (on_number n act)
on_number_is w result None act each = tt
on_number_is w result (Some t) act each = each t

on_thread_is : (w : World) (result : Option ValueKind) (r : Memory) (this : Option ℕ) (act : ℕ → Answer) → ((t : ℕ) → IsAnswer w result (act t))
    → IsAnswer w result (on_thread r this act)
on_thread_is w result r this act each = on_object_is w result this _ (λ o. on_number_is w result (thread_number r o) act each)

on_units_is : (w : World) (result : Option ValueKind) (m : Option (List ℕ)) (act : List ℕ → Answer) → ((units : List ℕ) → IsAnswer w result (act units))
    → IsAnswer w result (on_units m act)
on_units_is w result None act each = tt
on_units_is w result (Some units) act each = each units

created_is : (w : World) (r : Memory) (name this : Option ℕ) (kind : ThreadKind) → IsAnswer w None (on_object this (λ o.
    on_number (thread_number r o) (λ t. on_name r name (asks_for (creates kind o name)))))
created_is w r name this kind = on_object_is w None this _ (λ o. on_number_is w None (thread_number r o) _ (λ t. by name o))
  where
    by : (name : Option ℕ) (o : ℕ) → IsAnswer w None (on_name r name (asks_for (creates kind o name)))
    by None o = refl
    by (Some n) o = on_units_is w None (units_at r n) _ (λ units. refl)

named_is : (w : World) (r : Memory) (t : ℕ) (name : Option ℕ) → IsAnswer w None (named r t name)
named_is w r t None = tt
named_is w r t (Some n) = on_units_is w None (units_at r n) _ (λ units. refl)

unparked_is : (w : World) (r : Memory) (thread : Option ℕ) → MemoryFits w r → IsAnswer w None (unparked r thread)
unparked_is w r None fits = (refl, fits)
unparked_is w r (Some o) fits = on_number_is w None (thread_number r o) _ (λ t. refl)

-- the number of a thread in place of another
pub number_fits : (w : World) (r q : Memory) (o n : ℕ) → MemoryFits w r → with_number r o n ≡ Some q → MemoryFits w q
number_fits w r q o n fits e =
    let before = some_is (thread_number r o) (λ before. with_value r o number_field (values.Int (pos n))) q e in
    let vs = some_is (values_at r o) (λ fields. slice_get fields number_field >>= number_in) before.0 before.1 in
    let old = some_is (slice_get vs.0 number_field) number_in before.0 vs.2 in
    let x = some_is (object_at r o) values_of vs.0 vs.1 in
    let y = some_is (object_at r o) (object_with r o number_field (values.Int (pos n))) q before.2 in
    let same = same_object (object_at r o) x.0 y.0 x.1 y.1 in
    object_set w r q o number_field old.0 (values.Int (pos n)) x.0 vs.0 fits x.1 x.2 old.1 (sym (number_kind old.0 before.0 old.2))
    (ap (object_with r o number_field (values.Int (pos n))) same ∙ y.2)
  where
    same_object : (m : Option Object) (a b : Object) → m ≡ Some a → m ≡ Some b → a ≡ b
    same_object m a b x y = cc

    number_kind : (v : Value) (k : ℕ) → number_in v ≡ Some k → kind_of v ≡ kinds.Int
    number_kind (values.Int (pos k)) m e = refl
    number_kind (values.Int (negsuc k)) m e = absurd cc
    number_kind (values.Long k) m e = absurd cc
    number_kind values.Null m e = absurd cc
    number_kind (values.Ref o) m e = absurd cc

-- ---- the table

inside : (a b : NativeRow) → ◌≡◌ {A = Option NativeRow} (Some a) (Some b) → a ≡ b
inside a b e = cc

kept : (w : World) (result : Option ValueKind) (known row : NativeRow) → ◌≡◌ {A = Option NativeRow} (Some known) (Some row)
    → IsRow w result known → IsRow w result row
kept w result known row e is = subst (IsRow w result) (inside known row e) is

pub natives_keep : (w : World) (r : Memory) (n : Native) (row : NativeRow) → MemoryFits w r → native_row w r n ≡ Some row
    → IsRow w (native_result n) row
natives_keep w r natives.ObjectInit row fits e = kept w None _ row e (λ this. (refl, fits))
natives_keep w r natives.ObjectEquals row fits e = kept w (Some kinds.Int) _ row e (λ other this. (refl, fits))
natives_keep w r natives.ObjectHashCode row fits e = kept w (Some kinds.Int) _ row e (λ this. identity_is w r this fits)
natives_keep w r natives.ObjectToString row fits e = kept w (Some kinds.Reference) _ row e (λ hash this. described_is w r this (hex_text hash) fits)
natives_keep w r natives.StringLength row fits e =
    kept w (Some kinds.Int) _ row e (λ this. on_text_is w (Some kinds.Int) r this _ (λ units. (refl, fits)))
natives_keep w r natives.StringCharAt row fits e =
    kept w (Some kinds.Int) _ row e (λ index this. on_text_is w (Some kinds.Int) r this _ (λ units. char_is w r (unit_at units index) fits))
natives_keep w r natives.StringIsEmpty row fits e =
    kept w (Some kinds.Int) _ row e (λ this. on_text_is w (Some kinds.Int) r this _ (λ units. (refl, fits)))
natives_keep w r natives.StringEquals row fits e =
    kept w (Some kinds.Int) _ row e (λ other this. on_text_is w (Some kinds.Int) r this _ (λ units. (refl, fits)))
natives_keep w r natives.StringHashCode row fits e =
    kept w (Some kinds.Int) _ row e (λ this. on_text_is w (Some kinds.Int) r this _ (λ units. (refl, fits)))
natives_keep w r natives.StringConcat row fits e =
    kept w (Some kinds.Reference) _ row e (λ other this. on_text_is w (Some kinds.Reference) r this _
    (λ units. on_text_is w (Some kinds.Reference) r other _ (λ others. concatenated_is w r this units others fits)))
natives_keep w r natives.StringToString row fits e =
    kept w (Some kinds.Reference) _ row e (λ this. on_text_is w (Some kinds.Reference) r this _
    (λ units. (ap Some (sym (reference_kind this)), fits)))
natives_keep w r natives.StringValueOfInt row fits e = kept w (Some kinds.Reference) _ row e (λ n. text_fits w r (decimal_text n) fits)
natives_keep w r natives.StringValueOfLong row fits e = kept w (Some kinds.Reference) _ row e (λ n. text_fits w r (decimal_text n) fits)
natives_keep w r natives.StringValueOfChar row fits e = kept w (Some kinds.Reference) _ row e (λ n. text_fits w r (char_text n) fits)
natives_keep w r natives.StringValueOfBoolean row fits e = kept w (Some kinds.Reference) _ row e (λ n. text_fits w r (boolean_text n) fits)
natives_keep w r natives.StringBuilderInit row fits e = kept w None _ row e (λ this. (refl, fits))
natives_keep w r natives.StringBuilderAppendInt row fits e = kept w (Some kinds.Reference) _ row e (λ n this. appended_is w r this (decimal_text n) fits)
natives_keep w r natives.StringBuilderAppendLong row fits e = kept w (Some kinds.Reference) _ row e (λ n this. appended_is w r this (decimal_text n) fits)
natives_keep w r natives.StringBuilderAppendChar row fits e = kept w (Some kinds.Reference) _ row e (λ n this. appended_is w r this (char_text n) fits)
natives_keep w r natives.StringBuilderAppendBoolean row fits e = kept w (Some kinds.Reference) _ row e (λ n this. appended_is w r this (boolean_text n) fits)
natives_keep w r natives.StringBuilderAppendString row fits e =
    kept w (Some kinds.Reference) _ row e (λ text this. on_text_or_is w (Some kinds.Reference) null_text r text _ (λ units. appended_is w r this units fits))
natives_keep w r natives.StringBuilderLength row fits e =
    kept w (Some kinds.Int) _ row e (λ this. on_builder_is w (Some kinds.Int) r this _ (λ o units. (refl, fits)))
natives_keep w r natives.StringBuilderToString row fits e =
    kept w (Some kinds.Reference) _ row e (λ this. on_builder_is w (Some kinds.Reference) r this _ (λ o units. text_fits w r units fits))
natives_keep w r natives.SystemExit row fits e =
    kept w None _ row e (λ status. (refl, record { heap = fits.heap; statics = fits.statics }))
natives_keep w r natives.PrintStreamPrintln row fits e = kept w None _ row e (λ stream. written_is w r stream (line []) fits)
natives_keep w r natives.PrintStreamPrintlnInt row fits e = kept w None _ row e (λ n stream. written_is w r stream (line (decimal_text n)) fits)
natives_keep w r natives.PrintStreamPrintlnLong row fits e = kept w None _ row e (λ n stream. written_is w r stream (line (decimal_text n)) fits)
natives_keep w r natives.PrintStreamPrintlnChar row fits e = kept w None _ row e (λ n stream. written_is w r stream (line (char_text n)) fits)
natives_keep w r natives.PrintStreamPrintlnBoolean row fits e = kept w None _ row e (λ n stream. written_is w r stream (line (boolean_text n)) fits)
natives_keep w r natives.PrintStreamPrintlnString row fits e =
    kept w None _ row e (λ text stream. on_text_or_is w None null_text r text _ (λ units. written_is w r stream (line units) fits))
natives_keep w r natives.PrintStreamPrintInt row fits e = kept w None _ row e (λ n stream. written_is w r stream (decimal_text n) fits)
natives_keep w r natives.PrintStreamPrintLong row fits e = kept w None _ row e (λ n stream. written_is w r stream (decimal_text n) fits)
natives_keep w r natives.PrintStreamPrintChar row fits e = kept w None _ row e (λ n stream. written_is w r stream (char_text n) fits)
natives_keep w r natives.PrintStreamPrintBoolean row fits e = kept w None _ row e (λ n stream. written_is w r stream (boolean_text n) fits)
natives_keep w r natives.PrintStreamPrintString row fits e =
    kept w None _ row e (λ text stream. on_text_or_is w None null_text r text _ (λ units. written_is w r stream units fits))
natives_keep w r natives.ObjectWait row fits e = kept w None _ row e (λ this. on_object_is w None this _ (λ o. refl))
natives_keep w r natives.ObjectWaitMillis row fits e = kept w None _ row e (λ millis this. on_object_is w None this _ (λ o. refl))
natives_keep w r natives.ObjectNotify row fits e = kept w None _ row e (λ this. on_object_is w None this _ (λ o. refl))
natives_keep w r natives.ObjectNotifyAll row fits e = kept w None _ row e (λ this. on_object_is w None this _ (λ o. refl))
natives_keep w r natives.SystemNanoTime row fits e = kept w (Some kinds.Long) _ row e refl
natives_keep w r natives.SystemCurrentTimeMillis row fits e = kept w (Some kinds.Long) _ row e refl
natives_keep w r natives.ThreadCreatePlatform row fits e = kept w None _ row e (λ name this. created_is w r name this Platform)
natives_keep w r natives.ThreadCreateVirtual row fits e = kept w None _ row e (λ name this. created_is w r name this Virtual)
natives_keep w r natives.ThreadStart row fits e = kept w None _ row e (λ this. on_thread_is w None r this _ (λ t. refl))
natives_keep w r natives.ThreadInterrupt row fits e = kept w None _ row e (λ this. on_thread_is w None r this _ (λ t. refl))
natives_keep w r natives.ThreadIsInterrupted row fits e = kept w (Some kinds.Int) _ row e (λ this. on_thread_is w (Some kinds.Int) r this _ (λ t. refl))
natives_keep w r natives.ThreadJoin row fits e = kept w None _ row e (λ this. on_thread_is w None r this _ (λ t. refl))
natives_keep w r natives.ThreadJoinMillis row fits e = kept w None _ row e (λ millis this. on_thread_is w None r this _ (λ t. refl))
natives_keep w r natives.ThreadIsAlive row fits e = kept w (Some kinds.Int) _ row e (λ this. on_thread_is w (Some kinds.Int) r this _ (λ t. refl))
natives_keep w r natives.ThreadIsVirtual row fits e = kept w (Some kinds.Int) _ row e (λ this. on_thread_is w (Some kinds.Int) r this _ (λ t. refl))
natives_keep w r natives.ThreadIsDaemon row fits e = kept w (Some kinds.Int) _ row e (λ this. on_thread_is w (Some kinds.Int) r this _ (λ t. refl))
natives_keep w r natives.ThreadSetDaemon row fits e = kept w None _ row e (λ daemon this. on_thread_is w None r this _ (λ t. refl))
natives_keep w r natives.ThreadGetName row fits e =
    kept w (Some kinds.Reference) _ row e (λ this. on_thread_is w (Some kinds.Reference) r this _ (λ t. refl))
natives_keep w r natives.ThreadSetName row fits e = kept w None _ row e (λ name this. on_thread_is w None r this _ (λ t. named_is w r t name))
natives_keep w r natives.ThreadId row fits e = kept w (Some kinds.Long) _ row e (λ this. on_thread_is w (Some kinds.Long) r this _ (λ t. (refl, fits)))
natives_keep w r natives.ThreadGetState row fits e =
    kept w (Some kinds.Reference) _ row e (λ this. on_thread_is w (Some kinds.Reference) r this _ (λ t. refl))
natives_keep w r natives.ThreadCurrentThread row fits e = kept w (Some kinds.Reference) _ row e refl
natives_keep w r natives.ThreadYield row fits e = kept w None _ row e refl
natives_keep w r natives.ThreadOnSpinWait row fits e = kept w None _ row e (refl, fits)
natives_keep w r natives.ThreadSleep row fits e = kept w None _ row e (λ millis. refl)
natives_keep w r natives.ThreadInterrupted row fits e = kept w (Some kinds.Int) _ row e refl
natives_keep w r natives.LockSupportPark row fits e = kept w None _ row e refl
natives_keep w r natives.LockSupportParkBlocker row fits e = kept w None _ row e (λ blocker. refl)
natives_keep w r natives.LockSupportParkNanos row fits e = kept w None _ row e (λ nanos. refl)
natives_keep w r natives.LockSupportParkNanosBlocker row fits e = kept w None _ row e (λ nanos blocker. refl)
natives_keep w r natives.LockSupportUnpark row fits e = kept w None _ row e (λ thread. unparked_is w r thread fits)
