-- Objects as they lie in memory: one more, one that is read, and one with another value.
use Rattle.std.proofs.Common.{ℕ, zero, suc, ◌≡◌, ◌+◌, ◌<◌, ◌≤◌, ◌⊎◌, inl, inr, List, [], ◌∷◌, ◌++◌, length, take, drop, Option, Some, None, refl, ap, sym, subst, ◌∙◌, arith}
use Rattle.std.proofs.lemmas.List.{length-take, length-take-le, length-drop, drop-set-lt}
use Rattle.std.specs.Prelude.{slice_get, slice_set, IsSome, is_some, Bool, true, false}
use mathlib.Core.Bool.{not}
use Rattle.instruction_rows.specs.declared.value.Value.{Value}
use Rattle.state_model.specs.Objects.{Object, instance, text}
use Rattle.heap_objs.specs.Heap.{Heap, values_in, class_in, units_in, value_set, with_value}
use Rattle.heap_objs.specs.Layout.{object_at, object_of, objects_of, IsLaid, next_value, next_unit, AreLaid}
use Rattle.heap_objs.specs.declared.table.Entry.{Entry}
use Rattle.heap_objs.proofs.StretchLaws.{cons_is, Grows, get_taken, get_dropped, set_behind, set_inside}

abbrev pub heap_of : List Object → ℕ → ℕ → Heap
heap_of objects cells used = record { objects = objects; cells = cells; used = used }

pub length-objects_of : (es : List Entry) (vs : List Value) (us : List ℕ) → length (objects_of vs us es) ≡ length es
length-objects_of [] vs us = refl
length-objects_of (e ∷ es) vs us = ap suc (length-objects_of es vs us)

-- places only go up
next_more : (c : Option ℕ) (len n m : ℕ) → (n ≤ next_value c len n) × (m ≤ next_unit c len m)
next_more (Some k) len n m = (omega arith, omega arith)
next_more None len n m = (omega arith, omega arith)

pub laid_ends : (es : List Entry) (n m values units : ℕ) → AreLaid n m values units es → (n ≤ values) × (m ≤ units)
laid_ends [] n m values units laid = let a = laid.0 in let b = laid.1 in (omega arith, omega arith)
laid_ends (e ∷ es) n m values units laid =
    let more = next_more e.class e.len n m in
    let rest = laid_ends es (next_value e.class e.len n) (next_unit e.class e.len m) values units laid.1 in
    (omega arith, omega arith)

-- objects stay as rows grow
object_grown : (c : Option ℕ) (start len n m : ℕ) (vs ws : List Value) (us xs : List ℕ) → IsLaid c start n m
    → next_value c len n ≤ length vs → next_unit c len m ≤ length us → Grows vs ws → Grows us xs → object_at ws xs c start len ≡ object_at vs us c start len
object_grown (Some k) start len n m vs ws us xs laid v u more_values more_units = ap (instance k) (more_values.same start len (omega arith))
object_grown None start len n m vs ws us xs laid v u more_values more_units = ap text (more_units.same start len (omega arith))

pub objects_grown : (es : List Entry) (n m values units : ℕ) (vs ws : List Value) (us xs : List ℕ) → AreLaid n m values units es
    → values ≤ length vs → units ≤ length us → Grows vs ws → Grows us xs → objects_of ws xs es ≡ objects_of vs us es
objects_grown [] n m values units vs ws us xs laid v u more_values more_units = refl
objects_grown (e ∷ es) n m values units vs ws us xs laid v u more_values more_units =
    let ends = laid_ends es (next_value e.class e.len n) (next_unit e.class e.len m) values units laid.1 in
    cons_is (object_grown e.class e.start e.len n m vs ws us xs laid.0 (omega arith) (omega arith) more_values more_units)
    (objects_grown es (next_value e.class e.len n) (next_unit e.class e.len m) values units vs ws us xs laid.1 v u more_values more_units)

-- one more object, after the others
laid_from : (c : Option ℕ) (start n m n' m' : ℕ) → n ≡ n' → m ≡ m' → IsLaid c start n' m' → IsLaid c start n m
laid_from (Some k) start n m n' m' a b laid = laid ∙ sym a
laid_from None start n m n' m' a b laid = laid ∙ sym b

pub laid_more : (es : List Entry) (n m values units : ℕ) (e : Entry) → IsLaid e.class e.start values units → AreLaid n m values units es
    → AreLaid n m (next_value e.class e.len values) (next_unit e.class e.len units) (es ++ e ∷ [])
laid_more [] n m values units e at laid =
    (laid_from e.class e.start n m values units laid.0 laid.1 at, (ap (next_value e.class e.len) laid.0, ap (next_unit e.class e.len) laid.1))
laid_more (f ∷ es) n m values units e at laid =
    (laid.0, laid_more es (next_value f.class f.len n) (next_unit f.class f.len m) values units e at laid.1)

pub objects_push : (es : List Entry) (e : Entry) (vs : List Value) (us : List ℕ) → objects_of vs us (es ++ e ∷ []) ≡ objects_of vs us es ++ object_of vs us e ∷ []
objects_push [] e vs us = refl
objects_push (f ∷ es) e vs us = cons_is refl (objects_push es e vs us)

pub objects_made : (es : List Entry) (values units : ℕ) (e : Entry) (o : Object) (vs ws : List Value) (us xs : List ℕ) → AreLaid 0 0 values units es
    → values ≤ length vs → units ≤ length us → Grows vs ws → Grows us xs → object_of ws xs e ≡ o
    → objects_of ws xs (es ++ e ∷ []) ≡ objects_of vs us es ++ o ∷ []
objects_made es values units e o vs ws us xs laid v u more_values more_units is =
    objects_push es e ws xs ∙ (λ i. objects_grown es 0 0 values units vs ws us xs laid v u more_values more_units i ++ is i ∷ [])

-- an object that is read
pub get_object : (es : List Entry) (o : ℕ) (e : Entry) (vs : List Value) (us : List ℕ) → slice_get es o ≡ Some e → slice_get (objects_of vs us es) o ≡ Some (object_of vs us e)
get_object [] o e vs us is = absurd cc
get_object (f ∷ es) zero e vs us is = let same : f ≡ e = cc in ap (λ g. Some (object_of vs us g)) same
get_object (f ∷ es) (suc o) e vs us is = get_object es o e vs us is

pub is_there : (es : List Entry) (o : ℕ) (vs : List Value) (us : List ℕ) → (o < length es) ⊎ (slice_get (objects_of vs us es) o ≡ None)
is_there [] o vs us = inr refl
is_there (e ∷ es) zero vs us = inl (omega arith)
is_there (e ∷ es) (suc o) vs us = elim (is_there es o vs us) [ inl h ↦ inl (omega arith) | inr none ↦ inr none ]

pub value_there : (es : List Entry) (o i : ℕ) (vs : List Value) (us : List ℕ) → i < length (values_in (slice_get (objects_of vs us es) o)) → o < length es
value_there es o i vs us h =
    elim (is_there es o vs us) [
      | inl there ↦ there
      | inr none ↦ let P : Option Object → Type 0 = λ x. i < length (values_in x) in let no = subst P none h in absurd (omega arith)
    ]

pub class_there : (es : List Entry) (o : ℕ) (vs : List Value) (us : List ℕ) → IsSome (class_in (slice_get (objects_of vs us es) o)) → o < length es
class_there es o vs us h =
    elim (is_there es o vs us) [
      | inl there ↦ there
      | inr none ↦ let P : Option Object → Type 0 = λ x. IsSome (class_in x) in let no = subst P none h in absurd cc
    ]

pub units_there : (es : List Entry) (o : ℕ) (vs : List Value) (us : List ℕ) → IsSome (units_in (slice_get (objects_of vs us es) o)) → o < length es
units_there es o vs us h =
    elim (is_there es o vs us) [
      | inl there ↦ there
      | inr none ↦ let P : Option Object → Type 0 = λ x. IsSome (units_in x) in let no = subst P none h in absurd cc
    ]

pub value_read : (c : Option ℕ) (start len i : ℕ) (vs : List Value) (us : List ℕ) → i < length (values_in (Some (object_at vs us c start len)))
    → (start + i < length vs) × (slice_get (values_in (Some (object_at vs us c start len))) i ≡ slice_get vs (start + i))
value_read (Some k) start len i vs us h =
    let t = length-take len (drop start vs) in
    let d = length-drop start vs in
    (omega arith, get_taken len (drop start vs) i (omega arith) ∙ get_dropped start vs i (start + i) refl)
value_read None start len i vs us h = absurd (omega arith)

-- where an object lies: it ends within its row, and begins after those before it
abbrev pub EndsIn : Option ℕ → ℕ → ℕ → ℕ → Type 0
EndsIn (Some k) end values units = end ≤ values
EndsIn None end values units = end ≤ units

abbrev pub BeginsAt : Option ℕ → ℕ → ℕ → ℕ → Type 0
BeginsAt (Some k) start n m = n ≤ start
BeginsAt None start n m = m ≤ start

ends_first : (c : Option ℕ) (start len n m values units : ℕ) → IsLaid c start n m → next_value c len n ≤ values → next_unit c len m ≤ units → EndsIn c (start + len) values units
ends_first (Some k) start len n m values units laid v u = omega arith
ends_first None start len n m values units laid v u = omega arith

begins_first : (c : Option ℕ) (start n m : ℕ) → IsLaid c start n m → BeginsAt c start n m
begins_first (Some k) start n m laid = omega arith
begins_first None start n m laid = omega arith

begins_later : (c : Option ℕ) (start n m n' m' : ℕ) → n ≤ n' → m ≤ m' → BeginsAt c start n' m' → BeginsAt c start n m
begins_later (Some k) start n m n' m' a b h = omega arith
begins_later None start n m n' m' a b h = omega arith

pub entry_ends : (es : List Entry) (n m values units o : ℕ) (e : Entry) → AreLaid n m values units es → slice_get es o ≡ Some e → EndsIn e.class (e.start + e.len) values units
entry_ends [] n m values units o e laid is = absurd cc
entry_ends (f ∷ es) n m values units zero e laid is =
    let same : f ≡ e = cc in
    let ends = laid_ends es (next_value f.class f.len n) (next_unit f.class f.len m) values units laid.1 in
    let P : Entry → Type 0 = λ g. EndsIn g.class (g.start + g.len) values units in
    subst P same (ends_first f.class f.start f.len n m values units laid.0 ends.0 ends.1)
entry_ends (f ∷ es) n m values units (suc o) e laid is = entry_ends es (next_value f.class f.len n) (next_unit f.class f.len m) values units o e laid.1 is

pub entry_begins : (es : List Entry) (n m values units o : ℕ) (e : Entry) → AreLaid n m values units es → slice_get es o ≡ Some e → BeginsAt e.class e.start n m
entry_begins [] n m values units o e laid is = absurd cc
entry_begins (f ∷ es) n m values units zero e laid is =
    let same : f ≡ e = cc in
    let P : Entry → Type 0 = λ g. BeginsAt g.class g.start n m in
    subst P same (begins_first f.class f.start n m laid.0)
entry_begins (f ∷ es) n m values units (suc o) e laid is =
    let more = next_more f.class f.len n m in
    begins_later e.class e.start n m (next_value f.class f.len n) (next_unit f.class f.len m) more.0 more.1
    (entry_begins es (next_value f.class f.len n) (next_unit f.class f.len m) values units o e laid.1 is)

-- a value set
set_other_later : (c : Option ℕ) (start len n m at : ℕ) (vs : List Value) (us : List ℕ) (x : Value) → IsLaid c start n m → at < n
    → object_at (slice_set vs at x) us c start len ≡ object_at vs us c start len
set_other_later (Some k) start len n m at vs us x laid h = ap (λ ys. instance k (take len ys)) (drop-set-lt start vs at x (omega arith))
set_other_later None start len n m at vs us x laid h = refl

set_other_before : (c : Option ℕ) (start len n m at : ℕ) (vs : List Value) (us : List ℕ) (x : Value) → IsLaid c start n m → next_value c len n ≤ at
    → object_at (slice_set vs at x) us c start len ≡ object_at vs us c start len
set_other_before (Some k) start len n m at vs us x laid h = ap (instance k) (set_behind start len at vs x (omega arith))
set_other_before None start len n m at vs us x laid h = refl

set_here : (c : Option ℕ) (start len i : ℕ) (vs : List Value) (us : List ℕ) (x : Value)
    → object_at (slice_set vs (start + i) x) us c start len ≡ value_set i x (object_at vs us c start len)
set_here (Some k) start len i vs us x = ap (instance k) (set_inside start len i vs x)
set_here None start len i vs us x = refl

value_within : (c : Option ℕ) (start len i n m : ℕ) (vs : List Value) (us : List ℕ) → IsLaid c start n m → i < length (values_in (Some (object_at vs us c start len)))
    → start + i < next_value c len n
value_within (Some k) start len i n m vs us laid h = let t = length-take len (drop start vs) in omega arith
value_within None start len i n m vs us laid h = absurd (omega arith)

value_begins : (c : Option ℕ) (start len i n m : ℕ) (vs : List Value) (us : List ℕ) → BeginsAt c start n m → i < length (values_in (Some (object_at vs us c start len)))
    → n ≤ start
value_begins (Some k) start len i n m vs us begins h = begins
value_begins None start len i n m vs us begins h = absurd (omega arith)

set_later : (es : List Entry) (n m values units at : ℕ) (vs : List Value) (us : List ℕ) (x : Value) → AreLaid n m values units es → at < n
    → objects_of (slice_set vs at x) us es ≡ objects_of vs us es
set_later [] n m values units at vs us x laid h = refl
set_later (e ∷ es) n m values units at vs us x laid h =
    let more = next_more e.class e.len n m in
    cons_is (set_other_later e.class e.start e.len n m at vs us x laid.0 h)
    (set_later es (next_value e.class e.len n) (next_unit e.class e.len m) values units at vs us x laid.1 (omega arith))

pub objects_set : (es : List Entry) (n m values units o i : ℕ) (e : Entry) (vs : List Value) (us : List ℕ) (x : Value) → AreLaid n m values units es
    → slice_get es o ≡ Some e → i < length (values_in (Some (object_of vs us e)))
    → objects_of (slice_set vs (e.start + i) x) us es ≡ with_value o i x (objects_of vs us es)
objects_set [] n m values units o i e vs us x laid is h = absurd cc
objects_set (f ∷ es) n m values units zero i e vs us x laid is h =
    let same : e ≡ f = cc in
    let P : Entry → Type 0 = λ g. i < length (values_in (Some (object_of vs us g))) in
    ap (λ (g : Entry). objects_of (slice_set vs (g.start + i) x) us (f ∷ es)) same
    ∙ cons_is (set_here f.class f.start f.len i vs us x)
    (set_later es (next_value f.class f.len n) (next_unit f.class f.len m) values units (f.start + i) vs us x laid.1
    (value_within f.class f.start f.len i n m vs us laid.0 (subst P same h)))
objects_set (f ∷ es) n m values units (suc o) i e vs us x laid is h =
    let begins = value_begins e.class e.start e.len i (next_value f.class f.len n) (next_unit f.class f.len m) vs us
    (entry_begins es (next_value f.class f.len n) (next_unit f.class f.len m) values units o e laid.1 is) h in
    cons_is (set_other_before f.class f.start f.len n m (e.start + i) vs us x laid.0 (omega arith))
    (objects_set es (next_value f.class f.len n) (next_unit f.class f.len m) values units o i e vs us x laid.1 is h)

-- the same of a heap's objects, by what was read of an object's entry
pub value_here : (es : List Entry) (o i : ℕ) (e : Entry) (vs : List Value) (us : List ℕ) → i < length (values_in (slice_get (objects_of vs us es) o))
    → slice_get es o ≡ Some e → i < length (values_in (Some (object_of vs us e)))
value_here es o i e vs us h is =
    let P : Option Object → Type 0 = λ x. i < length (values_in x) in
    subst P (get_object es o e vs us is) h

class_is : (c : Option ℕ) (start len : ℕ) (vs : List Value) (us : List ℕ) → class_in (Some (object_at vs us c start len)) ≡ c
class_is (Some k) start len vs us = refl
class_is None start len vs us = refl

pub class_here : (es : List Entry) (o : ℕ) (e : Entry) (vs : List Value) (us : List ℕ) → slice_get es o ≡ Some e → class_in (slice_get (objects_of vs us es) o) ≡ e.class
class_here es o e vs us is = ap class_in (get_object es o e vs us is) ∙ class_is e.class e.start e.len vs us

pub is_class : (es : List Entry) (o : ℕ) (e : Entry) (vs : List Value) (us : List ℕ) → slice_get es o ≡ Some e → IsSome (class_in (slice_get (objects_of vs us es) o)) → IsSome e.class
is_class es o e vs us is h = let P : Option ℕ → Type 0 = λ x. IsSome x in subst P (class_here es o e vs us is) h

len_is : (c : Option ℕ) (start len units : ℕ) (vs : List Value) (us : List ℕ) → IsSome c → EndsIn c (start + len) (length vs) units → len ≡ length (values_in (Some (object_at vs us c start len)))
len_is (Some k) start len units vs us h ends = let d = length-drop start vs in sym (length-take-le len (drop start vs) (omega arith))
len_is None start len units vs us h ends = absurd cc

pub len_here : (es : List Entry) (o values units : ℕ) (e : Entry) (vs : List Value) (us : List ℕ) → AreLaid 0 0 values units es → values ≡ length vs → slice_get es o ≡ Some e
    → IsSome (class_in (slice_get (objects_of vs us es) o)) → e.len ≡ length (values_in (slice_get (objects_of vs us es) o))
len_here es o values units e vs us laid long is h =
    let P : ℕ → Type 0 = λ n. EndsIn e.class (e.start + e.len) n units in
    len_is e.class e.start e.len units vs us (is_class es o e vs us is h) (subst P long (entry_ends es 0 0 values units o e laid is))
    ∙ ap (λ x. length (values_in x)) (sym (get_object es o e vs us is))

text_is : (c : Option ℕ) (start len : ℕ) (vs : List Value) (us : List ℕ) (b : Bool) → is_some c ≡ not b → b ≡ is_some (units_in (Some (object_at vs us c start len)))
text_is (Some k) start len vs us true h = cc
text_is (Some k) start len vs us false h = refl
text_is None start len vs us true h = refl
text_is None start len vs us false h = cc

pub text_here : (es : List Entry) (o : ℕ) (e : Entry) (vs : List Value) (us : List ℕ) (b : Bool) → slice_get es o ≡ Some e → is_some e.class ≡ not b → b ≡ is_some (units_in (slice_get (objects_of vs us es) o))
text_here es o e vs us b is h = text_is e.class e.start e.len vs us b h ∙ ap (λ x. is_some (units_in x)) (sym (get_object es o e vs us is))

units_are : (c : Option ℕ) (start len : ℕ) (vs : List Value) (us : List ℕ) → IsSome (units_in (Some (object_at vs us c start len)))
    → units_in (Some (object_at vs us c start len)) ≡ Some (take len (drop start us))
units_are (Some k) start len vs us h = absurd cc
units_are None start len vs us h = refl

units_end : (c : Option ℕ) (start len values units : ℕ) (vs : List Value) (us : List ℕ) → IsSome (units_in (Some (object_at vs us c start len))) → EndsIn c (start + len) values units → start + len ≤ units
units_end (Some k) start len values units vs us h ends = absurd cc
units_end None start len values units vs us h ends = ends

pub units_here : (es : List Entry) (o : ℕ) (e : Entry) (vs : List Value) (us : List ℕ) → slice_get es o ≡ Some e → IsSome (units_in (slice_get (objects_of vs us es) o))
    → units_in (slice_get (objects_of vs us es) o) ≡ Some (take e.len (drop e.start us))
units_here es o e vs us is h =
    let P : Option Object → Type 0 = λ x. IsSome (units_in x) in
    ap units_in (get_object es o e vs us is) ∙ units_are e.class e.start e.len vs us (subst P (get_object es o e vs us is) h)

pub units_within : (es : List Entry) (o values units : ℕ) (e : Entry) (vs : List Value) (us : List ℕ) → AreLaid 0 0 values units es → slice_get es o ≡ Some e
    → IsSome (units_in (slice_get (objects_of vs us es) o)) → e.start + e.len ≤ units
units_within es o values units e vs us laid is h =
    let P : Option Object → Type 0 = λ x. IsSome (units_in x) in
    units_end e.class e.start e.len values units vs us (subst P (get_object es o e vs us is) h) (entry_ends es 0 0 values units o e laid is)

-- a heap with other objects
pub heap_is : {os ps : List Object} {cells used : ℕ} → os ≡ ps → heap_of os cells used ≡ heap_of ps cells used
heap_is {cells = cells} {used = used} p = λ i. heap_of (p i) cells used
