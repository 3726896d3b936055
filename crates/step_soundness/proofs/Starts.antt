-- Threads that are made and started keep to the typing.
use Rattle.std.proofs.Common.{◌≡◌, ℕ, ◌+◌, ◌-◌, Bool, true, false, List, [], ◌∷◌, ◌++◌, length, Option, Some, None, refl, ap, sym, subst, ◌∙◌}
use Rattle.std.specs.Prelude.{codes, map, nat_le, slice_get, if◌then◌else◌}
use Rattle.items.specs.Options.{◌>>=◌}
use Rattle.items.proofs.Binds.{some_is, bind_is}
use Rattle.class_model.specs.declared.class_file.ClassFile.{ClassFile}
use Rattle.class_model.specs.declared.member.Member.{Member}
use Rattle.std.specs.Option.{option_map_or}
use Rattle.descriptors.specs.declared.kind.Kind.{Kind as FieldType}
use Rattle.descriptors.specs.declared.kind.Signature.{Signature}
use Rattle.descriptors.specs.Meaning.{signature_of}
use Rattle.link_rules.specs.declared.choice.Choice.{Choice}
use Rattle.link_rules.specs.declared.choice.Choice.TheVariants.{Method, Abstract, Several}
use Rattle.link_rules.specs.declared.place.MemberPlace.{MemberPlace}
use Rattle.link_rules.specs.Program.{Program}
use Rattle.link_rules.specs.Members.{is_static, declared_method, has_method, method_number}
use Rattle.opcodes.specs.declared.op.ValueKind.TheVariants as kinds
use Rattle.stack_maps.specs.declared.types.VType.{VType}
use Rattle.instruction_rows.specs.declared.value.Value.TheVariants as values
use Rattle.instruction_rows.specs.declared.value.Slot.{Slot}
use Rattle.instruction_rows.specs.declared.value.Slot.TheVariants.{One}
use Rattle.instruction_rows.specs.Contents.{slot_types}
use Rattle.instruction_rows.specs.Soundness.{AreOf}
use Rattle.instruction_rows.proofs.KindLaws.{is_of}
use Rattle.vthread_state.specs.declared.phase.Phase.TheVariants.{Run, Entering}
use Rattle.vthread_state.specs.declared.thread.Status.{Status}
use Rattle.vthread_state.specs.declared.thread.Status.TheVariants.{New, Live, Done}
use Rattle.vthread_state.specs.declared.thread.ThreadKind.{ThreadKind}
use Rattle.link_model.specs.declared.members.MethodInfo.{MethodInfo}
use Rattle.link_model.specs.declared.members.MethodCode.{MethodCode}
use Rattle.link_model.specs.Infos.{method_info, methods_of}
use Rattle.link_model.specs.Initializers.{is_synchronized}
use Rattle.link_model.specs.Methods.{choice_of}
use Rattle.link_model.specs.World.{World, name_number}
use Rattle.link_model.specs.Decoded.{code_at}
use Rattle.verify_types.specs.ClassTypes.{type_of_kind}
use Rattle.verify_types.specs.Environment.{receiver_type, first_frame as first_types}
use Rattle.verify_types.specs.Typing.{AreTyped}
use Rattle.state_model.specs.Frames.{Frame}
use Rattle.state_model.specs.Objects.{text}
use Rattle.ref_model.specs.declared.exception.Exception.TheVariants.{AbstractMethodError, IllegalThreadStateException, IncompatibleClassChangeError, OutOfMemoryError}
use Rattle.ref_model.specs.Memory.{Memory}
use Rattle.ref_model.specs.State.{JavaThread, State}
use Rattle.ref_model.specs.Heap.{class_at, cells_of_units, with_text}
use Rattle.ref_model.specs.Frames.{first_frame}
use Rattle.ref_model.specs.Monitors.{with_monitor}
use Rattle.ref_model.specs.ThreadNatives.{with_number}
use Rattle.ref_model.specs.Fetch.{Named}
use Rattle.ref_model.specs.Calls.{method_numbered}
use Rattle.ref_model.specs.Asking.{Asking, goes}
use Rattle.ref_model.specs.Starting.{unnamed_after, first_name, first_daemon, name_made, made_thread, with_new_thread, made_or_thrown, may_create, created, run_key, instance_at, run_method, run_choice, run_frame, first_phase, with_begun, begun_with, begun_by, started_in, started}
use Rattle.frame_soundness.specs.Typed.{Typed}
use Rattle.frame_soundness.specs.TypedStates.{IsTypedState}
use Rattle.frame_soundness.specs.StateKinds.{MemoryFits}
use Rattle.frame_soundness.specs.ThrowLaws.{OfFrames}
use Rattle.frame_soundness.specs.CallLaws.{StandsAtFirst}
use Rattle.frame_soundness.proofs.Beginnings.{begun}
use Rattle.frame_soundness.proofs.InstanceCalls.{receiver_is, instance_locals}
use Rattle.frame_soundness.proofs.NativeLaws.{number_fits}
use Rattle.frame_soundness.proofs.ObjectLaws.{more_fits}
use Rattle.frame_soundness.proofs.Raises.{raises_keep}
use Rattle.frame_soundness.proofs.ThreadLaws.{thread_changed}
use Rattle.step_soundness.specs.Resolutions.{IsRun, RunsFit}
use Rattle.step_soundness.proofs.MethodNumbers.{number_at}
use Rattle.step_soundness.proofs.Selections.{declared_has}
use Rattle.step_soundness.proofs.Signatures.{chosen_runs}
use Rattle.step_soundness.proofs.StateChanges.{may_throw, more_threads}

-- ---- either of two

pub either : {P : Type 0} (b : Bool) (x y : Option State) (q : State) → (x ≡ Some q → P) → (y ≡ Some q → P) → (if b then x else y) ≡ Some q → P
either true x y q first second e = first e
either false x y q first second e = second e

-- ---- a thread is made

text_fits : (w : World) (r : Memory) (units : List ℕ) (x : Memory × ℕ) → MemoryFits w r → with_text r units ≡ Some x → MemoryFits w x.0
text_fits w r units x fits e = by (nat_le (cells_of_units (length units)) r.room) e
  where
    made : Memory × ℕ
    made = (record r { heap = r.heap ++ text units ∷ []; room = r.room - cells_of_units (length units) }, length r.heap)

    by : (b : Bool) → (if b then Some made else None) ≡ Some x → MemoryFits w x.0
    by true e =
        let same : made ≡ x = cc in
        subst (λ (y : Memory × ℕ). MemoryFits w y.0) same (more_fits w r (cells_of_units (length units)) (text units ∷ []) fits (tt, tt))
    by false e = absurd cc

name_fits : (w : World) (r : State) (kind : ThreadKind) (name : Option ℕ) (x : Memory × ℕ) → IsTypedState w r → name_made kind r name ≡ Some x
    → MemoryFits w x.0
name_fits w r kind None x typed e = text_fits w r.memory (first_name kind r) x typed.values e
name_fits w r kind (Some n) x typed e =
    let same : (r.memory, n) ≡ x = cc in subst (λ (y : Memory × ℕ). MemoryFits w y.0) same typed.values

-- whatever goes on from a state that keeps to the typing
pub created_keeps : (w : World) (r q : State) (t : ℕ) (a : Asking) (kind : ThreadKind) (object : ℕ) (name : Option ℕ) → IsTypedState w r
    → OfFrames r t (Typed w) → ((s : State) → IsTypedState w s → goes s t a ≡ Some q → IsTypedState w q)
    → created w r t a kind object name ≡ Some q → IsTypedState w q
created_keeps w r q t a kind object name typed of goes_on e =
    either (may_create r) (slice_get r.threads t >>= λ creator. made_or_thrown w r t a kind object name creator (name_made kind r name)) None q
    (λ e. let creator = some_is (slice_get r.threads t) (λ creator. made_or_thrown w r t a kind object name creator (name_made kind r name)) q e in
    by creator.0 (name_made kind r name) refl creator.2) (λ e. absurd cc) e
  where
    by : (creator : JavaThread) (o : Option (Memory × ℕ)) → name_made kind r name ≡ o → made_or_thrown w r t a kind object name creator o ≡ Some q
        → IsTypedState w q
    by creator None found e = raises_keep w r q t OutOfMemoryError typed (may_throw w r t of) e
    by creator (Some made) found e =
        let daemon = first_daemon kind creator in
        let m = some_is (with_number made.0 object (length r.threads))
        (λ memory. goes (with_new_thread r memory (unnamed_after kind name r) (made_thread kind daemon object made.1)) t a) q e in
        goes_on (with_new_thread r m.0 (unnamed_after kind name r) (made_thread kind daemon object made.1))
        (more_threads w r m.0 (unnamed_after kind name r) (made_thread kind daemon object made.1) typed
        (number_fits w made.0 m.0 object (length r.threads) (name_fits w r kind name made typed found) m.1) refl) m.2

-- ---- a thread is started

-- the first frame of a method that takes nothing but its receiver
run_stands : (w : World) (n object : ℕ) (m : MethodInfo) (code : MethodCode) (f : Frame) → AreTyped w → slice_get w.methods n ≡ Some m
    → code_at w n ≡ Some code → IsRun m → first_frame n code (One (values.Ref object) ∷ []) ≡ Some f → StandsAtFirst w m f
run_stands w n object m code f typed at code_is run made =
    let receiver = receiver_is w m in
    let slot : Slot = One (values.Ref object) in
    let types : slot_types (first_types w m).locals ≡ receiver_type w m ∷ [] =
    instance_locals w m run.flag ∙ ap (λ (args : List FieldType). receiver_type w m ∷ slot_types (map (type_of_kind w) args)) run.takes in
    let slots : AreOf (slot_types (first_types w m).locals) (slot ∷ []) =
    subst (λ (ts : List VType). AreOf ts (slot ∷ [])) (sym types)
    (is_of kinds.Reference (receiver_type w m) slot receiver.kind (record { value = Some object; is = refl }), tt) in
    let b = begun w n m code (slot ∷ []) typed at code_is slots in
    subst (StandsAtFirst w m) (one (first_frame n code (slot ∷ [])) b.frame f b.is made) b.stands
  where
    one : (o : Option Frame) (a b : Frame) → o ≡ Some a → o ≡ Some b → a ≡ b
    one o a b x y = cc

begun_keeps : (w : World) (r : State) (u object : ℕ) (m : MethodInfo) (f : Frame) → IsTypedState w r → StandsAtFirst w m f
    → IsTypedState w (with_begun r u (first_phase m object) (run_frame m object f))
begun_keeps w r u object m f typed stands = by (is_synchronized m) refl
  where
    by : (b : Bool) → is_synchronized m ≡ b
        → IsTypedState w (with_begun r u (if b then Entering object else Run) (if b then with_monitor f object else f))
    by true guarded =
        thread_changed w r u
        (λ x. record x { thread = record x.thread { status = Live (Entering object) }; frames = with_monitor f object ∷ [] }) typed
        (λ x at. (stands.guarded object guarded, tt))
    by false plain =
        thread_changed w r u (λ x. record x { thread = record x.thread { status = Live Run }; frames = f ∷ [] }) typed
        (λ x at. (stands.plain plain, tt))

pub started_keeps : (w : World) (r q : State) (t : ℕ) (a : Asking) (u : ℕ) → AreTyped w → RunsFit w → IsTypedState w r
    → OfFrames r t (Typed w) → ((s : State) → IsTypedState w s → goes s t a ≡ Some q → IsTypedState w q) → started w r t a u ≡ Some q
    → IsTypedState w q
started_keeps w r q t a u typed_world runs typed of goes_on e =
    let x = some_is (slice_get r.threads u) (λ x. started_in w r t a u x.thread.object x.thread.status) q e in
    by x.0.thread.object x.0.thread.status x.2
  where
    by_code : (object n : ℕ) → ((m : MethodInfo) → slice_get w.methods n ≡ Some m → IsRun m) → (o : Option MethodCode) → code_at w n ≡ o
        → begun_with w r t a u object n o ≡ Some q → IsTypedState w q
    by_code object n run None code_is e = raises_keep w r q t AbstractMethodError typed (may_throw w r t of) e
    by_code object n run (Some code) code_is e =
        let m = some_is (slice_get w.methods n) (λ m. first_frame n code (One (values.Ref object) ∷ []) >>= λ f.
        goes (with_begun r u (first_phase m object) (run_frame m object f)) t a) q e in
        let f = some_is (first_frame n code (One (values.Ref object) ∷ []))
        (λ f. goes (with_begun r u (first_phase m.0 object) (run_frame m.0 object f)) t a) q m.2 in
        goes_on (with_begun r u (first_phase m.0 object) (run_frame m.0 object f.0))
        (begun_keeps w r u object m.0 f.0 typed (run_stands w n object m.0 code f.0 typed_world m.1 code_is (run m.0 m.1) f.1)) f.2

    by_choice : (object class n : ℕ) (choice : Choice) → run_method w ≡ Some n → choice_of w class n ≡ Some choice
        → begun_by w r t a u object choice ≡ Some q → IsTypedState w q
    by_choice object class n Abstract found chosen e = raises_keep w r q t AbstractMethodError typed (may_throw w r t of) e
    by_choice object class n Several found chosen e = raises_keep w r q t IncompatibleClassChangeError typed (may_throw w r t of) e
    by_choice object class n (Method at) found chosen e =
        by_code object (method_number w.program at) (λ m there. runs class n at m found chosen there) (code_at w (method_number w.program at)) refl e

    by : (object : ℕ) (status : Status) → started_in w r t a u object status ≡ Some q → IsTypedState w q
    by object New e =
        let choice = some_is (run_choice w r.memory object) (begun_by w r t a u object) q e in
        let n = some_is (run_method w) (λ n. class_at w r.memory object >>= λ class. choice_of w class n) choice.0 choice.1 in
        let class = some_is (class_at w r.memory object) (λ class. choice_of w class n.0) choice.0 n.2 in
        by_choice object class.0 n.0 choice.0 n.1 class.2 choice.2
    by object (Live phase) e = raises_keep w r q t IllegalThreadStateException typed (may_throw w r t of) e
    by object Done e = raises_keep w r q t IllegalThreadStateException typed (may_throw w r t of) e

-- ---- the run of a linked world

nothing_taken : (signature_of (codes "()V")).args ≡ []
nothing_taken = refl

-- what is selected, and its name
pub record IsNamedRun (m : MethodInfo) : Type 0 where
  pub run : IsRun m
  pub name : m.name ≡ codes "run"

pub named_run : (w : World) → w.methods ≡ methods_of w.program → (class n : ℕ) (at : MemberPlace) (m : MethodInfo) → run_method w ≡ Some n
    → choice_of w class n ≡ Some (Method at) → slice_get w.methods (method_number w.program at) ≡ Some m → IsNamedRun m
named_run w methods class n at m found chosen there =
    let p = w.program in
    let thread = some_is (name_number w (codes "java/lang/Thread")) (λ class. declared_method p run_key class >>= instance_at p) n found in
    let place = some_is (declared_method p run_key thread.0) (instance_at p) n thread.2 in
    let test = not_static p place.0 n place.2 in
    let key = declared_has p run_key thread.0 place.0 place.1 in
    let info = method_info (0 + place.0.class) key.file.pool key.member in
    let here : slice_get w.methods n ≡ Some info =
    ap (λ (ms : List MethodInfo). slice_get ms n) methods ∙ ap (slice_get (methods_of p)) (sym test.1)
    ∙ number_at 0 p.classes place.0.class place.0.index key.file key.member key.file_is key.member_is in
    let named : Named = record { number = n; method = info } in
    let other : Named = record { number = method_number p at; method = m } in
    let numbered : method_numbered w (method_number p at) ≡ Some other =
    bind_is (slice_get w.methods (method_number p at)) (λ x. Some (record { number = method_number p at; method = x })) m (Some other) there refl in
    let runs = chosen_runs w class (method_number p at) named other (Method at) methods here chosen refl numbered in
    record {
      run = record {
        flag = runs.of_objects (flag_is p place.0 key.file key.member key.file_is key.member_is test.0);
        takes = ap (λ (s : Signature). s.args) (runs.signature ∙ ap signature_of key.descriptor) ∙ nothing_taken;
      };
      name = runs.name ∙ key.name;
    }
  where
    not_static : (p : Program) (at : MemberPlace) (n : ℕ) → instance_at p at ≡ Some n → (has_method is_static p at ≡ false) × (method_number p at ≡ n)
    not_static p at n e = by (has_method is_static p at) e
      where
        by : (b : Bool) → (if b then None else Some (method_number p at)) ≡ Some n → (b ≡ false) × (method_number p at ≡ n)
        by true e = absurd cc
        by false e = (refl, cc)

    flag_is : (p : Program) (at : MemberPlace) (f : ClassFile) (m : Member) → slice_get p.classes at.class ≡ Some f
        → slice_get f.methods at.index ≡ Some m → has_method is_static p at ≡ false → is_static m ≡ false
    flag_is p at f m file member e =
        sym (ap (λ o. option_map_or is_static (option_map_or (λ (g : ClassFile). slice_get g.methods at.index) o None) false) file
        ∙ ap (λ o. option_map_or is_static o false) member) ∙ e

pub runs_are_such : (w : World) → w.methods ≡ methods_of w.program → RunsFit w
runs_are_such w methods class n at m found chosen there = (named_run w methods class n at m found chosen there).run
