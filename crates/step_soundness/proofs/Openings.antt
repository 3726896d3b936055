-- The opening state keeps to the typing.
use Rattle.std.proofs.Common.{◌≡◌, ℕ, zero, suc, ◌+◌, ◌-◌, ◌<◌, Bool, true, false, List, [], ◌∷◌, ◌++◌, length, Option, Some, None, refl, ap, sym, subst, ◌∙◌, arith}
use Rattle.std.specs.Prelude.{codes, map, not, pos, nat_lt, position, slice_get, ◌==◌, ◌&&◌, if◌then◌else◌}
use Rattle.std.specs.Option.{option_map, option_map_or}
use Rattle.std.specs.List.{AllZip, range_with_len}
use Rattle.std.proofs.lemmas.Bool.{ltb-true, eqb-true}
use Rattle.std.proofs.lemmas.List.Quantifiers.{position-Some}
use Rattle.items.specs.Options.{◌>>=◌}
use Rattle.items.specs.First.{Each}
use Rattle.items.proofs.Binds.{some_is, bind_is}
use Rattle.class_model.specs.declared.access_flags.TheConstants.{ACC_STATIC, ACC_SYNCHRONIZED}
use Rattle.descriptors.specs.declared.kind.Kind.{Kind as FieldType}
use Rattle.link_rules.specs.Program.{has_flag}
use Rattle.opcodes.specs.declared.op.ValueKind.{ValueKind}
use Rattle.opcodes.specs.declared.op.ValueKind.TheVariants as kinds
use Rattle.stack_maps.specs.declared.types.Base.TheVariants as bases
use Rattle.stack_maps.specs.declared.types.VType.{VType}
use Rattle.stack_maps.specs.declared.types.VType.TheVariants as types
use Rattle.instruction_rows.specs.declared.value.Value.{Value}
use Rattle.instruction_rows.specs.declared.value.Value.TheVariants as values
use Rattle.instruction_rows.specs.declared.value.Slot.{Slot}
use Rattle.instruction_rows.specs.declared.value.Slot.TheVariants.{One}
use Rattle.instruction_rows.specs.Kinds.{kind_of}
use Rattle.instruction_rows.specs.Contents.{slot_types}
use Rattle.instruction_rows.specs.Soundness.{AreOf}
use Rattle.link_model.specs.declared.members.MethodInfo.{MethodInfo}
use Rattle.link_model.specs.declared.sites.ArrayType.{ArrayType}
use Rattle.link_model.specs.MainMethod.{is_string, takes_strings}
use Rattle.link_model.specs.Strings.{strings_of}
use Rattle.link_model.specs.World.{World, name_number, array_type}
use Rattle.link_model.specs.Decoded.{code_at}
use Rattle.verify_types.specs.ClassTypes.{type_of_element, base_of_element, type_of_kind}
use Rattle.verify_types.specs.Environment.{first_frame as first_types}
use Rattle.verify_types.specs.Typing.{AreTyped}
use Rattle.verify_types.proofs.ListLaws.{and_true, each_join}
use Rattle.state_model.specs.Frames.{Frame}
use Rattle.state_model.specs.Objects.{Object, instance, text}
use Rattle.ref_model.specs.Setting.{Setting}
use Rattle.ref_model.specs.Classes.{same_type, array_class}
use Rattle.ref_model.specs.Members.{is_initializer, is_synchronized, new_values}
use Rattle.ref_model.specs.Monitors.{class_monitor}
use Rattle.ref_model.specs.State.{JavaThread, State}
use Rattle.ref_model.specs.Frames.{first_frame}
use Rattle.ref_model.specs.Opening.{new_of, thread_state, thread_states, words_class, opening_heap, opening_statics, initializers, frame_of, frames_of, opening_monitor, guarded_by, main_frame, opening_frames, opening_owners, opening_thread, main_words, first_state_name, opening}
use Rattle.frame_soundness.specs.Typed.{Stands, IsUnder, Typed, initializes}
use Rattle.frame_soundness.specs.CallLaws.{StandsAtFirst}
use Rattle.frame_soundness.specs.StateKinds.{IsOfKind, instance_kinds, ValuesFit, ObjectFits}
use Rattle.frame_soundness.specs.TypedStates.{IsTypedThread, IsTypedState}
use Rattle.frame_soundness.specs.StepKinds.{IsLinkedWorld}
use Rattle.frame_soundness.proofs.Beginnings.{begun}
use Rattle.frame_soundness.proofs.CallLaws.{static_locals}
use Rattle.frame_soundness.proofs.ObjectLaws.{each_at, new_fits}
use Rattle.frame_soundness.proofs.Raises.{name_is_class}
use Rattle.step_soundness.specs.OpeningLaws.{IsClassInitializer, IsOpening}

-- ---- objects

same_object : (a b : Object) → ◌≡◌ {A = Option Object} (Some a) (Some b) → a ≡ b
same_object a b e = cc

new_of_fits : (w : World) (name : List ℕ) (x : Object) → new_of w name ≡ Some x → ObjectFits w x
new_of_fits w name x e =
    let class = some_is (name_number w name) (λ class. Some (instance class (new_values w class))) x e in
    subst (ObjectFits w) (same_object (instance class.0 (new_values w class.0)) x class.2)
    (new_fits w class.0 (name_is_class w name class.0 class.1))

each_map : {A B : Type 0} (P : B → Type 0) (f : A → B) → ((x : A) → P (f x)) → (xs : List A) → Each P (map f xs)
each_map P f all [] = tt
each_map P f all (x ∷ xs) = (all x, each_map P f all xs)

state_fits : (w : World) (class index : ℕ) → array_type w class ≡ None → instance_kinds w class ≡ kinds.Reference ∷ kinds.Int ∷ []
    → ObjectFits w (thread_state class index)
state_fits w class index no_array is =
    let vs : List Value = values.Ref (first_state_name + index) ∷ values.Int (pos index) ∷ [] in
    let here : AllZip IsOfKind (instance_kinds w class) vs = subst (λ (ks : List ValueKind). AllZip IsOfKind ks vs) (sym is) (refl, (refl, tt)) in
    subst (ValuesFit w class vs) (sym no_array) here

same_objects : (a b : List Object) → ◌≡◌ {A = Option (List Object)} (Some a) (Some b) → a ≡ b
same_objects a b e = cc

states_fit : (w : World) (xs : List Object)
    → ((class : ℕ) → name_number w (codes "java/lang/Thread$State") ≡ Some class → instance_kinds w class ≡ kinds.Reference ∷ kinds.Int ∷ [])
    → thread_states w ≡ Some xs → Each (ObjectFits w) xs
states_fit w xs is e =
    let class = some_is (name_number w (codes "java/lang/Thread$State")) (λ class. Some (map (thread_state class) (range_with_len 0 6))) xs e in
    subst (Each (ObjectFits w)) (same_objects (map (thread_state class.0) (range_with_len 0 6)) xs class.2)
    (each_map (ObjectFits w) (thread_state class.0)
    (λ index. state_fits w class.0 index (name_is_class w (codes "java/lang/Thread$State") class.0 class.1) (is class.0 class.1))
    (range_with_len 0 6))

-- ---- the array for main

got_at : {A : Type 0} (xs : List A) (n : ℕ) → n < length xs → (x : A) × (slice_get xs n ≡ Some x)
got_at [] n low = absurd (omega arith)
got_at (x ∷ xs) zero low = (x, refl)
got_at (x ∷ xs) (suc n) low = got_at xs n (omega arith)

behind_all : (n place : ℕ) → n + place - n ≡ place
behind_all n place = omega arith

not_below : (n place : ℕ) → nat_lt (n + place) n ≡ false
not_below n place = by (nat_lt (n + place) n) refl
  where
    by : (b : Bool) → nat_lt (n + place) n ≡ b → b ≡ false
    by true e = let low = ltb-true (n + place) n e in absurd (omega arith)
    by false e = refl

-- the number of an array class is that of an array
array_is : (w : World) (t : ArrayType) (class : ℕ) → array_class w t ≡ Some class → (a : ArrayType) × (array_type w class ≡ Some a)
array_is w t class e = by (position (λ other. same_type other t) w.arrays) refl e
  where
    by : (o : Option ℕ) → position (λ other. same_type other t) w.arrays ≡ o
        → option_map (λ place. length w.names + place) o ≡ Some class → (a : ArrayType) × (array_type w class ≡ Some a)
    by None at e = absurd cc
    by (Some place) at e =
        let h = position-Some (λ other. same_type other t) w.arrays place t at in
        let x = got_at w.arrays place h.0 in
        let same : length w.names + place ≡ class = cc in
        let here : array_type w (length w.names + place) ≡ Some x.0 =
        ap (λ b. if b then None else slice_get w.arrays (length w.names + place - length w.names)) (not_below (length w.names) place)
        ∙ ap (slice_get w.arrays) (behind_all (length w.names) place) ∙ x.1 in
        (x.0, ap (array_type w) (sym same) ∙ here)

words_fit : (w : World) (class : ℕ) → words_class w ≡ Some class → ObjectFits w (instance class [])
words_fit w class e =
    let c = some_is (name_number w (codes "java/lang/String")) (λ c. array_class w (record { dimensions = 1; base = bases.Class c })) class e in
    let a = array_is w (record { dimensions = 1; base = bases.Class c.0 }) class c.2 in
    subst (ValuesFit w class []) (sym a.1) tt

-- ---- the heap

heap_fits : (w : World) (heap : List Object)
    → ((class : ℕ) → name_number w (codes "java/lang/Thread$State") ≡ Some class → instance_kinds w class ≡ kinds.Reference ∷ kinds.Int ∷ [])
    → opening_heap w ≡ Some heap → Each (ObjectFits w) heap
heap_fits w heap is e =
    let texts = map text (strings_of w.program) in
    let error = some_is (new_of w (codes "java/lang/OutOfMemoryError")) (λ error.
    new_of w (codes "java/io/PrintStream") >>= λ stream. new_of w (codes "java/lang/Thread") >>= λ thread. thread_states w >>= λ states.
    words_class w >>= λ words. Some (error ∷ stream ∷ stream ∷ thread ∷ states ++ texts ++ instance words [] ∷ [])) heap e in
    let stream = some_is (new_of w (codes "java/io/PrintStream")) (λ stream.
    new_of w (codes "java/lang/Thread") >>= λ thread. thread_states w >>= λ states.
    words_class w >>= λ words. Some (error.0 ∷ stream ∷ stream ∷ thread ∷ states ++ texts ++ instance words [] ∷ [])) heap error.2 in
    let thread = some_is (new_of w (codes "java/lang/Thread")) (λ thread. thread_states w >>= λ states.
    words_class w >>= λ words. Some (error.0 ∷ stream.0 ∷ stream.0 ∷ thread ∷ states ++ texts ++ instance words [] ∷ [])) heap stream.2 in
    let states = some_is (thread_states w) (λ states.
    words_class w >>= λ words. Some (error.0 ∷ stream.0 ∷ stream.0 ∷ thread.0 ∷ states ++ texts ++ instance words [] ∷ [])) heap thread.2 in
    let words = some_is (words_class w) (λ words.
    Some (error.0 ∷ stream.0 ∷ stream.0 ∷ thread.0 ∷ states.0 ++ texts ++ instance words [] ∷ [])) heap states.2 in
    let first = error.0 ∷ stream.0 ∷ stream.0 ∷ thread.0 ∷ states.0 in
    let stream_fits = new_of_fits w (codes "java/io/PrintStream") stream.0 stream.1 in
    let front : Each (ObjectFits w) (error.0 ∷ stream.0 ∷ stream.0 ∷ thread.0 ∷ states.0) = (
      new_of_fits w (codes "java/lang/OutOfMemoryError") error.0 error.1,
      (
        stream_fits,
        (
          stream_fits,
          (new_of_fits w (codes "java/lang/Thread") thread.0 thread.1, states_fit w states.0 is states.1),
        ),
      ),
    ) in
    let middle = each_join (ObjectFits w) first texts front (each_map (ObjectFits w) text (λ units. tt) (strings_of w.program)) in
    subst (Each (ObjectFits w)) (same_objects (first ++ texts ++ instance words.0 [] ∷ []) heap words.2)
    (each_join (ObjectFits w) (first ++ texts) (instance words.0 [] ∷ []) middle (words_fit w words.0 words.1, tt))

-- ---- static fields

zip_kinds : (vs : List Value) → AllZip IsOfKind (map kind_of vs) vs
zip_kinds [] = tt
zip_kinds (v ∷ vs) = (refl, zip_kinds vs)

-- ---- frames

record BeginsAt (w : World) (n : ℕ) (info : MethodInfo) (f : Frame) : Type 0 where
  pub stands : StandsAtFirst w info f
  pub method : f.method ≡ n

frame_begins : (w : World) (n : ℕ) (info : MethodInfo) (slots : List Slot) (f : Frame) → AreTyped w → slice_get w.methods n ≡ Some info
    → has_flag ACC_STATIC info.flags ≡ true → AreOf (slot_types (map (type_of_kind w) info.signature.args)) slots
    → frame_of w n slots ≡ Some f → BeginsAt w n info f
frame_begins w n info slots f typed at flag of e =
    let code = some_is (code_at w n) (λ code. first_frame n code slots) f e in
    let first : AreOf (slot_types (first_types w info).locals) slots =
    subst (λ (ts : List VType). AreOf (slot_types ts) slots) (sym (static_locals w info flag)) of in
    let b = begun w n info code.0 slots typed at code.1 first in
    let same = one (first_frame n code.0 slots) b.frame f b.is code.2 in
    record { stands = subst (StandsAtFirst w info) same b.stands; method = ap (λ (g : Frame). g.method) (sym same) ∙ b.method }
  where
    one : (m : Option Frame) (a b : Frame) → m ≡ Some a → m ≡ Some b → a ≡ b
    one m a b x y = cc

-- the array for main is a reference
pub words_of : (w : World) (args : List FieldType) (o : ℕ) → takes_strings args ≡ true
    → AreOf (slot_types (map (type_of_kind w) args)) (One (values.Ref o) ∷ [])
words_of w [] o takes = absurd cc
words_of w (t ∷ other ∷ more) o takes = absurd cc
words_of w (t ∷ []) o takes =
    let one = eqb-true t.dimensions 1 (and_true (t.dimensions == 1) (is_string t.element) takes).0 in
    by (t.dimensions == 0) (ap (λ n. n == 0) one)
  where
    by : (b : Bool) → b ≡ false
        → AreOf (slot_types ((if b then type_of_element w t.element else types.Named t.dimensions (base_of_element w t.element)) ∷ []))
        (One (values.Ref o) ∷ [])
    by true e = absurd cc
    by false e = (record { value = Some o; is = refl }, tt)

same_frames : (a b : List Frame) → ◌≡◌ {A = Option (List Frame)} (Some a) (Some b) → a ≡ b
same_frames a b e = cc

-- an initializer holds no monitor
unguarded : (m : MethodInfo) → is_initializer m ≡ true → is_synchronized m ≡ false
unguarded m is = ap (λ b. has_flag ACC_SYNCHRONIZED m.flags && not b) is ∙ never (has_flag ACC_SYNCHRONIZED m.flags)
  where
    never : (b : Bool) → (b && false) ≡ false
    never true = refl
    never false = refl

-- the frames of class initializers, over frames that keep to the typing
initializers_stand : (w : World) (ns : List ℕ) (below frames : List Frame) → AreTyped w → Each (IsClassInitializer w) ns → Typed w below
    → frames_of w ns below ≡ Some frames → Typed w frames
initializers_stand w [] below frames typed each good e = subst (Typed w) (same_frames below frames e) good
initializers_stand w (n ∷ ns) below frames typed each good e =
    let m = each.0 in
    let f = some_is (frame_of w n []) (λ f. frames_of w ns below >>= λ frames. Some (f ∷ frames)) frames e in
    let more = some_is (frames_of w ns below) (λ frames. Some (f.0 ∷ frames)) frames f.2 in
    let of : AreOf (slot_types (map (type_of_kind w) m.method.signature.args)) [] =
    subst (λ (args : List FieldType). AreOf (slot_types (map (type_of_kind w) args)) []) (sym m.takes) tt in
    let b = frame_begins w n m.method [] f.0 typed m.at m.flag of f.1 in
    let is : initializes w f.0.method ≡ true =
    ap (initializes w) b.method ∙ ap (λ o. option_map_or is_initializer o false) m.at ∙ m.is in
    subst (Typed w) (same_frames (f.0 ∷ more.0) frames more.2)
    (by f.0 (b.stands.plain (unguarded m.method m.is)) is more.0 (initializers_stand w ns below more.0 typed each.1 good more.1))
  where
    by : (f : Frame) → Stands w f → initializes w f.method ≡ true → (rest : List Frame) → Typed w rest → Typed w (f ∷ rest)
    by f stands is [] good = absurd good
    by f stands is (g ∷ rest) good = (stands, (subst (IsUnder w f.method g) (sym is) good.0, good.1))

-- main's frame holds its monitor, where main is synchronized
main_stands : (p : Setting) (m : MethodInfo) (f : Frame) → slice_get p.world.methods p.main ≡ Some m → StandsAtFirst p.world m f
    → Stands p.world (guarded_by (opening_monitor p) f)
main_stands p m f at stands =
    subst (λ (o : Option ℕ). Stands p.world (guarded_by o f)) (sym held) (by (is_synchronized m) refl)
  where
    monitor : Bool → Option ℕ
    monitor b = if b then Some (class_monitor m.class) else None

    held : opening_monitor p ≡ monitor (is_synchronized m)
    held =
        bind_is (slice_get p.world.methods p.main) (λ x. if is_synchronized x then Some (class_monitor x.class) else None) m
        (monitor (is_synchronized m)) at refl

    by : (b : Bool) → is_synchronized m ≡ b → Stands p.world (guarded_by (monitor b) f)
    by true e = stands.guarded (class_monitor m.class) e
    by false e = stands.plain e

frames_stand : (p : Setting) (frames : List Frame) → AreTyped p.world → IsOpening p → opening_frames p ≡ Some frames → Typed p.world frames
frames_stand p frames typed facts e =
    let w = p.world in
    let words = One (values.Ref (main_words w)) ∷ [] in
    let g = some_is (main_frame p) (λ f. frames_of w (initializers w.program) (f ∷ [])) frames e in
    let f = some_is (frame_of w p.main words) (λ f. Some (guarded_by (opening_monitor p) f)) g.0 g.1 in
    let m = facts.main in
    let b = frame_begins w p.main m.method words f.0 typed m.at m.flag (words_of w m.method.signature.args (main_words w) m.takes) f.1 in
    let stands = subst (Stands w) (same_frame (guarded_by (opening_monitor p) f.0) g.0 f.2) (main_stands p m.method f.0 m.at b.stands) in
    initializers_stand w (initializers w.program) (g.0 ∷ []) frames typed facts.initializers (stands, tt) g.2
  where
    same_frame : (a b : Frame) → ◌≡◌ {A = Option Frame} (Some a) (Some b) → a ≡ b
    same_frame a b e = cc

-- ---- the state

same_state : (a b : State) → ◌≡◌ {A = Option State} (Some a) (Some b) → a ≡ b
same_state a b e = cc

one_thread : (w : World) (frames : List Frame) (t : ℕ) (x : JavaThread) → Typed w frames
    → slice_get (opening_thread frames ∷ []) t ≡ Some x → IsTypedThread w x
one_thread w frames zero x good e = let same : opening_thread frames ≡ x = cc in subst (IsTypedThread w) same good
one_thread w frames (suc t) x good e = absurd cc

abbrev opened : Setting → List Object → List Frame → State
opened p heap frames = record {
  memory = record {
    heap = heap;
    room = p.limits.heap_cells;
    statics = opening_statics p.world.program;
    out = [];
    err = [];
    exited = None;
  };
  threads = opening_thread frames ∷ [];
  most_threads = p.limits.threads;
  unnamed = 0;
  owners = opening_owners (opening_monitor p);
  now = 0;
  main_threw = false;
}

pub opening_is_typed : (p : Setting) (r : State) → IsLinkedWorld p.world → IsOpening p → opening p ≡ Some r → IsTypedState p.world r
opening_is_typed p r linked facts e =
    let w = p.world in
    let heap = some_is (opening_heap w) (λ heap. opening_frames p >>= λ frames. Some (opened p heap frames)) r e in
    let frames = some_is (opening_frames p) (λ frames. Some (opened p heap.0 frames)) r heap.2 in
    let good = frames_stand p frames.0 linked.typed facts frames.1 in
    subst (IsTypedState w) (same_state (opened p heap.0 frames.0) r frames.2) (record {
      values = record {
        heap = λ o x at. each_at (ObjectFits w) heap.0 o x (heap_fits w heap.0 facts.states heap.1) at;
        statics = subst (λ (ks : List ValueKind). AllZip IsOfKind ks (opening_statics w.program)) facts.statics
            (zip_kinds (opening_statics w.program));
      };
      threads = λ t x at. one_thread w frames.0 t x good at;
    })
