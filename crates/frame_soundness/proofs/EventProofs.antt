-- Events of frames that keep to the typing.
use Rattle.std.proofs.Common.{◌≡◌, ◌≢◌, ℕ, Bool, true, false, List, [], ◌∷◌, Option, Some, None, Result, Ok, refl, ap, sym, subst, ◌∙◌}
use Rattle.std.specs.Prelude.{not, replicate, if◌then◌else◌}
use Rattle.std.specs.List.{list_any}
use Rattle.items.proofs.Binds.{some_is}
use Rattle.opcodes.specs.declared.op.ValueKind.TheVariants as kinds
use Rattle.stack_maps.specs.declared.types.VType.{VType}
use Rattle.stack_maps.specs.declared.types.VType.TheVariants as types
use Rattle.instruction_rows.specs.declared.row_why.RowWhy.{RowWhy}
use Rattle.instruction_rows.specs.declared.row_why.RowWhy.TheVariants as whys
use Rattle.instruction_rows.specs.declared.value.Slot.{Slot}
use Rattle.instruction_rows.specs.Results.{◌then◌}
use Rattle.instruction_rows.specs.Contents.{Contents}
use Rattle.instruction_rows.specs.Rows.{Event, event, get_static, put_static, get_field, put_field, new, new_array, new_array_of, new_arrays, array_length, array_load, array_store, check_cast, instance_of, throw, monitor_enter, monitor_exit, row_goes_on}
use Rattle.instruction_rows.specs.SlotEffect.{popped}
use Rattle.instruction_rows.specs.TypeEffect.{type_popped, types_popped, type_pushed}
use Rattle.instruction_rows.specs.Soundness.{IsOf, AreOf}
use Rattle.instruction_rows.proofs.StackLaws.{popped_of}
use Rattle.instruction_rows.proofs.Steps.{ok_is, passed}
use Rattle.link_model.specs.declared.sites.Resolution.{Resolution}
use Rattle.link_model.specs.World.{World, class_type}
use Rattle.verify_types.specs.ClassTypes.{base_of_primitive}
use Rattle.verify_types.specs.Objects.{class_of as typed_class, object_taken, stack_after, made_anew, event_state}
use Rattle.verify_types.specs.TypeStates.{TypeState, with_stack, with_types, is_new, replaced}
use Rattle.verify_types.specs.Environment.{Environment}
use Rattle.verify_types.specs.Effects.{row_of, row_state}
use Rattle.state_model.specs.Frames.{Frame}
use Rattle.ref_model.specs.declared.exception.Exception.TheVariants.{NullPointerException}
use Rattle.ref_model.specs.Memory.{Memory}
use Rattle.ref_model.specs.Requests.{Request, enters, exits, calls}
use Rattle.ref_model.specs.Effects.{Effect, done, invokes, throws, throws_object, asks, not_null}
use Rattle.ref_model.specs.RowEffects.{monitor_asked}
use Rattle.ref_model.specs.Instances.{object_thrown}
use Rattle.ref_model.specs.Step.{event_effect}
use Rattle.frame_soundness.specs.Typed.{own_locals, Typed}
use Rattle.frame_soundness.specs.StateKinds.{MemoryFits}
use Rattle.frame_soundness.specs.EventLaws.{IsKept, WithBack, with_back}
use Rattle.frame_soundness.specs.StepKinds.{IsLinkedWorld, IsEventResolution, IsResult, IsAsked}
use Rattle.frame_soundness.proofs.FetchLaws.{parts, fine}
use Rattle.frame_soundness.proofs.Arrivals.{arrived, on_frames}
use Rattle.frame_soundness.proofs.Exceptions.{class_kind}
use Rattle.frame_soundness.proofs.FieldLaws.{kept_is, same_types, static_gets_keep, static_puts_keep, field_gets_keep, field_puts_keep}
use Rattle.frame_soundness.proofs.ArrayLaws.{array_loads_keep, array_stores_keep, lengths_keep}
use Rattle.frame_soundness.proofs.ObjectLaws.{casts_keep, judgements_keep, new_objects_keep, new_arrays_keep}
use Rattle.frame_soundness.proofs.ArrayTrees.{arrays_keep}
use Rattle.frame_soundness.proofs.InstanceCalls.{class_narrow}

-- ---- the operand stack, event by event

pushed_class : (w : World) (class : ℕ) (rest : List VType) → type_pushed (class_type w class) rest ≡ class_type w class ∷ rest
pushed_class w class rest =
    ap (λ b. if b then types.Top ∷ class_type w class ∷ rest else class_type w class ∷ rest) (class_narrow w class)

thrown_keeps : (w : World) (rest : List VType) (xs : List Slot) (effect : Effect) → object_thrown xs ≡ Some effect → IsKept w rest effect
thrown_keeps w rest xs effect e =
    let x = some_is (popped kinds.Reference xs) (λ x. not_null x.0 (λ o. Some (throws_object o))) effect e in by x.0.0 x.2
  where
    by : (reference : Option ℕ) → not_null reference (λ o. Some (throws_object o)) ≡ Some effect → IsKept w rest effect
    by None e = kept_is w rest (throws NullPointerException) effect e tt
    by (Some o) e = kept_is w rest (throws_object o) effect e tt

-- monitorenter and monitorexit
same_operand : (o : Option (Option ℕ × List Slot)) (a b : Option ℕ × List Slot) → o ≡ Some a → o ≡ Some b → a ≡ b
same_operand o a b x y = cc

monitors_keep : (w : World) (q : ℕ → Request) (ts rest : List VType) (xs : List Slot) (effect : Effect)
    → ((o : ℕ) (left : List Slot) → AreOf rest left → IsKept w rest (asks (q o) left)) → AreOf ts xs
    → (type_popped kinds.Reference ts then λ (x : VType × List VType). Ok x.1) ≡ Ok rest → monitor_asked q xs ≡ Some effect → IsKept w rest effect
monitors_keep w q ts rest xs effect keeps of typed e =
    let t = ok_is (type_popped kinds.Reference ts) (λ (x : VType × List VType). Ok x.1) rest typed in
    let pop = popped_of kinds.Reference ts t.0 xs t.1 of in
    let x = some_is (popped kinds.Reference xs) (λ x. not_null x.0 (λ o. Some (asks (q o) x.1))) effect e in
    let same = same_operand (popped kinds.Reference xs) (pop.value, pop.left) x.0 pop.is x.1 in
    let left : AreOf rest x.0.1 =
    subst (λ (y : Option ℕ × List Slot). AreOf rest y.1) same (subst (λ (us : List VType). AreOf us pop.left) (same_types t.0.1 rest t.2) pop.of) in
    by x.0.0 x.0.1 left x.2
  where
    by : (reference : Option ℕ) (left : List Slot) → AreOf rest left → not_null reference (λ o. Some (asks (q o) left)) ≡ Some effect
        → IsKept w rest effect
    by None left of e = kept_is w rest (throws NullPointerException) effect e tt
    by (Some o) left of e = kept_is w rest (asks (q o) left) effect e (keeps o left of)

-- nothing comes back of these
nothing_back : (rest : List VType) (left : List Slot) → AreOf rest left → WithBack None left (λ xs. AreOf rest xs)
nothing_back rest left of None is = of
nothing_back rest left of (Some v) is = absurd is

-- an event but new
stack_keeps : (w : World) (own pc : ℕ) (resolution : Resolution) (e : Event) (r : Memory) (ts rest : List VType) (xs : List Slot) (effect : Effect)
    → IsLinkedWorld w → MemoryFits w r → IsEventResolution w resolution e r xs → AreOf ts xs → stack_after w own pc resolution e ts ≡ Ok rest
    → event_effect w resolution e r xs ≡ Some effect → ((index : ℕ) → e ≢ new index) → IsKept w rest effect
stack_keeps w own pc resolution (get_static index) r ts rest xs effect linked fits names of typed e other =
    static_gets_keep w resolution r ts rest xs effect linked.fields names fits of typed e
stack_keeps w own pc resolution (put_static index) r ts rest xs effect linked fits names of typed e other =
    static_puts_keep w resolution r ts rest xs effect linked.fields names fits of typed e
stack_keeps w own pc resolution (get_field index) r ts rest xs effect linked fits names of typed e other =
    field_gets_keep w resolution r ts rest xs effect linked.fields names fits of typed e
stack_keeps w own pc resolution (put_field index) r ts rest xs effect linked fits names of typed e other =
    field_puts_keep w resolution r own ts rest xs effect linked.fields names fits of typed e
stack_keeps w own pc resolution (new index) r ts rest xs effect linked fits names of typed e other = absurd (other index refl)
stack_keeps w own pc resolution (new_array primitive) r ts rest xs effect linked fits names of typed e other =
    let t = types.Named 1 (base_of_primitive primitive) in
    let x = ok_is (type_popped kinds.Int ts) (λ (x : VType × List VType). Ok (t ∷ x.1)) rest typed in
    subst (λ (us : List VType). IsKept w us effect) (same_types (t ∷ x.0.1) rest x.2)
    (new_arrays_keep w resolution r t ts x.0 xs effect fits of refl x.1 e)
stack_keeps w own pc resolution (new_array_of index) r ts rest xs effect linked fits names of typed e other =
    let class = ok_is (typed_class resolution.site) (λ class. types_popped (replicate 1 kinds.Int) ts then λ (below : List VType).
    Ok (class_type w class ∷ below)) rest typed in
    let below = ok_is (types_popped (replicate 1 kinds.Int) ts) (λ (below : List VType). Ok (class_type w class.0 ∷ below)) rest class.2 in
    let x = ok_is (type_popped kinds.Int ts) (λ (x : VType × List VType). Ok x.1) below.0 below.1 in
    subst (λ (us : List VType). IsKept w us effect)
    (pushed_class w class.0 x.0.1 ∙ ap (λ us. class_type w class.0 ∷ us) (same_types x.0.1 below.0 x.2)
    ∙ same_types (class_type w class.0 ∷ below.0) rest below.2)
    (new_arrays_keep w resolution r (class_type w class.0) ts x.0 xs effect fits of (class_kind w class.0) x.1 e)
stack_keeps w own pc resolution (new_arrays index dimensions) r ts rest xs effect linked fits names of typed e other =
    let class = ok_is (typed_class resolution.site) (λ class. types_popped (replicate dimensions kinds.Int) ts then λ (below : List VType).
    Ok (class_type w class ∷ below)) rest typed in
    let below = ok_is (types_popped (replicate dimensions kinds.Int) ts) (λ (below : List VType). Ok (class_type w class.0 ∷ below)) rest class.2 in
    subst (λ (us : List VType). IsKept w us effect)
    (pushed_class w class.0 below.0 ∙ same_types (class_type w class.0 ∷ below.0) rest below.2)
    (arrays_keep w resolution r dimensions (class_type w class.0) ts below.0 xs effect linked.arrays fits of (class_kind w class.0) below.1 e)
stack_keeps w own pc resolution array_length r ts rest xs effect linked fits names of typed e other = lengths_keep w r ts rest xs effect fits of typed e
stack_keeps w own pc resolution (array_load element) r ts rest xs effect linked fits names of typed e other =
    array_loads_keep w element r ts rest xs effect fits of typed e
stack_keeps w own pc resolution (array_store element) r ts rest xs effect linked fits names of typed e other =
    array_stores_keep w element r ts rest xs effect fits of typed e
stack_keeps w own pc resolution (check_cast index) r ts rest xs effect linked fits names of typed e other =
    let x = ok_is (object_taken w resolution ts) (λ (x : ℕ × List VType). Ok (class_type w x.0 ∷ x.1)) rest typed in
    subst (λ (us : List VType). IsKept w us effect) (same_types (class_type w x.0.0 ∷ x.0.1) rest x.2)
    (casts_keep w resolution r ts x.0.1 x.0.0 xs effect fits of x.1 e)
stack_keeps w own pc resolution (instance_of index) r ts rest xs effect linked fits names of typed e other =
    let x = ok_is (object_taken w resolution ts) (λ (x : ℕ × List VType). Ok (types.Int ∷ x.1)) rest typed in
    subst (λ (us : List VType). IsKept w us effect) (same_types (types.Int ∷ x.0.1) rest x.2)
    (judgements_keep w resolution r ts x.0.1 x.0.0 xs effect fits of x.1 e)
stack_keeps w own pc resolution throw r ts rest xs effect linked fits names of typed e other = thrown_keeps w rest xs effect e
stack_keeps w own pc resolution monitor_enter r ts rest xs effect linked fits names of typed e other =
    monitors_keep w enters ts rest xs effect (λ o left of. nothing_back rest left of) of typed e
stack_keeps w own pc resolution monitor_exit r ts rest xs effect linked fits names of typed e other =
    monitors_keep w exits ts rest xs effect (λ o left of. nothing_back rest left of) of typed e

-- ---- the state after an event

record EventKept (w : World) (after : TypeState) (f : Frame) (effect : Effect) : Type 0 where
  pub kept : IsKept w after.types.stack effect
  pub locals : AreOf after.types.locals (own_locals w f.method f.locals)

same_state : (a b : TypeState) → ◌≡◌ {A = Result TypeState RowWhy} (Ok a) (Ok b) → a ≡ b
same_state a b e = cc

other_kept : (w : World) (own pc : ℕ) (resolution : Resolution) (e : Event) (r : Memory) (f : Frame) (s after : TypeState) (effect : Effect)
    → IsLinkedWorld w → MemoryFits w r → IsEventResolution w resolution e r f.stack → AreOf s.types.locals (own_locals w f.method f.locals) → AreOf s.types.stack f.stack
    → (stack_after w own pc resolution e s.types.stack then λ stack. Ok (with_stack s stack)) ≡ Ok after
    → event_effect w resolution e r f.stack ≡ Some effect → ((index : ℕ) → e ≢ new index) → EventKept w after f effect
other_kept w own pc resolution e r f s after effect linked fits names locals stack typed made other =
    let x = ok_is (stack_after w own pc resolution e s.types.stack) (λ stack. Ok (with_stack s stack)) after typed in
    subst (λ (a : TypeState). EventKept w a f effect) (same_state (with_stack s x.0) after x.2) (record {
      kept = stack_keeps w own pc resolution e r s.types.stack x.0 f.stack effect linked fits names stack x.1 made other;
      locals = locals;
    })

topped : (test : VType → Bool) (ts : List VType) (xs : List Slot) → AreOf ts xs → AreOf (replaced test types.Top ts) xs
topped test [] [] of = tt
topped test [] (x ∷ xs) of = absurd of
topped test (t ∷ ts) [] of = absurd of
topped test (t ∷ ts) (x ∷ xs) of = (by (test t), topped test ts xs of.1)
  where
    by : (b : Bool) → IsOf (if b then types.Top else t) x
    by true = tt
    by false = of.0

new_kept : (w : World) (pc : ℕ) (resolution : Resolution) (index : ℕ) (r : Memory) (f : Frame) (s after : TypeState) (effect : Effect)
    → MemoryFits w r → IsEventResolution w resolution (new index) r f.stack → AreOf s.types.locals (own_locals w f.method f.locals) → AreOf s.types.stack f.stack
    → made_anew pc s ≡ Ok after → event_effect w resolution (new index) r f.stack ≡ Some effect → EventKept w after f effect
new_kept w pc resolution index r f s after effect fits names locals stack typed made =
    let made_state = with_types s (record { locals = replaced (is_new pc) types.Top s.types.locals; stack = types.Uninit pc ∷ s.types.stack }) in
    let p = passed (not (list_any (is_new pc) s.types.stack)) made_state after whys.Init typed in
    subst (λ (a : TypeState). EventKept w a f effect) p.1 (record {
      kept = new_objects_keep w resolution r pc s.types.stack f.stack effect names fits stack made;
      locals = topped (is_new pc) s.types.locals (own_locals w f.method f.locals) locals;
    })

event_kept : (w : World) (own pc : ℕ) (resolution : Resolution) (e : Event) (r : Memory) (f : Frame) (s after : TypeState) (effect : Effect)
    → IsLinkedWorld w → MemoryFits w r → IsEventResolution w resolution e r f.stack → AreOf s.types.locals (own_locals w f.method f.locals) → AreOf s.types.stack f.stack
    → event_state w own pc resolution e s ≡ Ok after → event_effect w resolution e r f.stack ≡ Some effect → EventKept w after f effect
event_kept w own pc resolution (new index) r f s after effect linked fits names locals stack typed made =
    new_kept w pc resolution index r f s after effect fits names locals stack typed made
event_kept w own pc resolution e r f s after effect linked fits names locals stack typed made =
    other_kept w own pc resolution e r f s after effect linked fits names locals stack typed made (λ index same. cc)

-- ---- the frame after it

never_done : (reference : Option ℕ) (q : Memory) (stack : List Slot) → not_null reference (λ o. Some (throws_object o)) ≡ Some (done q stack) → ⊥
never_done None q stack e = cc
never_done (Some o) q stack e = cc

-- what is done goes on after the instruction
goes_on : (w : World) (resolution : Resolution) (e : Event) (r q : Memory) (xs stack : List Slot)
    → event_effect w resolution e r xs ≡ Some (done q stack) → row_goes_on (event e) ≡ true
goes_on w resolution throw r q xs stack made =
    let x = some_is (popped kinds.Reference xs) (λ x. not_null x.0 (λ o. Some (throws_object o))) (done q stack) made in
    absurd (never_done x.0.0 q stack x.2)
goes_on w resolution e r q xs stack made = refl

never_asks : (reference : Option ℕ) (q : Request) (stack : List Slot) → not_null reference (λ o. Some (throws_object o)) ≡ Some (asks q stack) → ⊥
never_asks None q stack e = cc
never_asks (Some o) q stack e = cc

-- so does what asks
asking_goes_on : (w : World) (resolution : Resolution) (e : Event) (r : Memory) (q : Request) (xs stack : List Slot)
    → event_effect w resolution e r xs ≡ Some (asks q stack) → row_goes_on (event e) ≡ true
asking_goes_on w resolution throw r q xs stack made =
    let x = some_is (popped kinds.Reference xs) (λ x. not_null x.0 (λ o. Some (throws_object o))) (asks q stack) made in
    absurd (never_asks x.0.0 q stack x.2)
asking_goes_on w resolution e r q xs stack made = refl

pub events_go_on : (w : World) (f : Frame) (below : List Frame) (e : Event) (r : Memory) (effect : Effect) → IsLinkedWorld w → MemoryFits w r
    → (t : Typed w (f ∷ below)) → row_of t.0.at.place.instruction ≡ event e
    → IsEventResolution w t.0.at.place.instruction.resolution e r f.stack → event_effect w t.0.at.place.instruction.resolution e r f.stack ≡ Some effect
    → IsResult w f below t.0.at.place.instruction.instr.next effect
events_go_on w f below e r effect linked fits t known names made =
    let at = t.0.at in
    let i = at.place.instruction in
    let good = fine w f linked.typed at in
    let p = parts w f.method at.env at.method in
    let here : row_state at.env i.instr.pc i.resolution (event e) at.state ≡ Ok good.after =
    ap (λ x. row_state at.env i.instr.pc i.resolution x at.state) (sym known) ∙ good.is in
    let typed : event_state w at.env.method.class i.instr.pc i.resolution e at.state ≡ Ok good.after =
    subst (λ (v : World). event_state v at.env.method.class i.instr.pc i.resolution e at.state ≡ Ok good.after)
    (sym (ap (λ (env : Environment). env.world) p.is)) here in
    let k = event_kept w at.env.method.class i.instr.pc i.resolution e r f at.state good.after effect linked fits names t.0.kinds.locals
    t.0.kinds.stack typed made in
    by effect k made
  where
    by : (x : Effect) → EventKept w (fine w f linked.typed t.0.at).after f x
        → event_effect w t.0.at.place.instruction.resolution e r f.stack ≡ Some x → IsResult w f below t.0.at.place.instruction.instr.next x
    by (done q stack) k made =
        let good = fine w f linked.typed t.0.at in
        let next = t.0.at.place.instruction.instr.next in
        let goes = ap row_goes_on known ∙ goes_on w t.0.at.place.instruction.resolution e r q f.stack stack made in
        let slots : Contents Slot = record { locals = f.locals; stack = stack } in
        let a = arrived w f t.0.at good.after next slots (good.on goes) (record { locals = k.locals; stack = k.kept.1 }) good.after_shallow in
        record { frame = a.frame; is = a.is; typed = on_frames w f a.frame below a.method a.stands t.1; values = k.kept.0 }
    by (invokes g stack) k made = k.kept
    by (throws x) k made = tt
    by (throws_object o) k made = tt
    by (asks q stack) k made =
        asked q stack k.kept k.locals (ap row_goes_on known ∙ asking_goes_on w t.0.at.place.instruction.resolution e r q f.stack stack made)
      where
        asked : (q : Request) (stack : List Slot) → IsKept w (fine w f linked.typed t.0.at).after.types.stack (asks q stack)
            → AreOf (fine w f linked.typed t.0.at).after.types.locals (own_locals w f.method f.locals)
            → row_goes_on (row_of t.0.at.place.instruction) ≡ true → IsAsked w f below t.0.at.place.instruction.instr.next q stack
        asked (calls o g) stack kept locals goes = absurd kept
        asked q stack kept locals goes = λ back is.
            let good = fine w f linked.typed t.0.at in
            let next = t.0.at.place.instruction.instr.next in
            let slots : Contents Slot = record { locals = f.locals; stack = with_back back stack } in
            let a = arrived w f t.0.at good.after next slots (good.on goes) (record { locals = locals; stack = kept back is }) good.after_shallow in
            record { frame = a.frame; is = a.is; typed = on_frames w f a.frame below a.method a.stands t.1 }
