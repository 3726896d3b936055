-- Methods are entered by frames that keep to the typing.
use Rattle.std.proofs.Common.{◌≡◌, ℕ, suc, Bool, true, false, List, [], ◌∷◌, drop, Option, Some, None, Ok, refl, ap, sym, subst}
use Rattle.std.specs.Prelude.{nat_lt, slice_get, if◌then◌else◌}
use Rattle.instruction_rows.specs.declared.value.Slot.{Slot}
use Rattle.items.specs.Options.{◌>>=◌}
use Rattle.items.proofs.Binds.{some_is}
use Rattle.descriptors.specs.declared.kind.Signature.{Signature}
use Rattle.lib_table.specs.declared.native.Native.{Native}
use Rattle.opcodes.specs.declared.op.ValueKind.{ValueKind}
use Rattle.opcodes.specs.declared.op.ValueKind.TheVariants as kinds
use Rattle.stack_maps.specs.declared.types.VType.{VType}
use Rattle.instruction_rows.specs.Results.{◌then◌}
use Rattle.instruction_rows.specs.Rows.{Invocation, invoke, static, row_goes_on}
use Rattle.instruction_rows.specs.TypeEffect.{type_popped}
use Rattle.instruction_rows.specs.Soundness.{AreOf}
use Rattle.link_model.specs.declared.members.MethodCode.{MethodCode}
use Rattle.link_model.specs.World.{World}
use Rattle.link_model.specs.Decoded.{code_at}
use Rattle.verify_types.specs.Calls.{argument_types}
use Rattle.verify_types.specs.TypeStates.{TypeState}
use Rattle.verify_types.specs.Environment.{Environment}
use Rattle.verify_types.specs.Operands.{all_wanted}
use Rattle.verify_types.specs.Effects.{row_of}
use Rattle.verify_types.specs.Typing.{AreTyped}
use Rattle.state_model.specs.Frames.{Frame}
use Rattle.ref_model.specs.declared.exception.Exception.TheVariants.{AbstractMethodError, StackOverflowError}
use Rattle.ref_model.specs.Kinds.{argument_slots}
use Rattle.link_model.specs.declared.members.MethodInfo.{MethodInfo}
use Rattle.ref_model.specs.Members.{native_at, is_synchronized}
use Rattle.ref_model.specs.Monitors.{method_monitor, with_monitor}
use Rattle.ref_model.specs.Requests.{calls}
use Rattle.ref_model.specs.Memory.{Memory}
use Rattle.ref_model.specs.Fetch.{Named, named_method}
use Rattle.ref_model.specs.Frames.{callee, caller}
use Rattle.ref_model.specs.LocalRows.{most_frames}
use Rattle.ref_model.specs.Effects.{Effect, invokes, throws, asks}
use Rattle.ref_model.specs.NativeRows.{native_acted}
use Rattle.ref_model.specs.Natives.{native_row, native_takes}
use Rattle.ref_model.specs.Calls.{receiver_of, frame_entered, code_entered, native_entered, entered}
use Rattle.frame_soundness.specs.Typed.{Waits, IsUnder, AreUnder, Typed, back_of, initializes}
use Rattle.frame_soundness.specs.StateKinds.{MemoryFits}
use Rattle.frame_soundness.specs.CallLaws.{CallerWaits, StandsAtFirst, takes_receiver}
use Rattle.frame_soundness.specs.NativeKinds.{FitsNative}
use Rattle.frame_soundness.specs.EnterLaws.{IsOfClass, IsChosen, IsCallResult}
use Rattle.frame_soundness.proofs.FetchLaws.{parts, fine}
use Rattle.frame_soundness.proofs.CallLaws.{Called, called_types, object_is_no_initializer, static_begins}
use Rattle.frame_soundness.proofs.CallerLaws.{Took, invocation_took, callers_wait}
use Rattle.frame_soundness.proofs.InstanceCalls.{begins}
use Rattle.frame_soundness.proofs.NativeEnters.{result_of, IsTaken, taken_by, native_goes}

-- ---- a method with code

-- its frame begins, or does when it has its monitor
frame_goes : (w : World) (f : Frame) (below : List Frame) (next : ℕ) (m : MethodInfo) (g : Frame) (rest : List Slot) (effect : Effect)
    → StandsAtFirst w m g → AreUnder w g.method (record f { stack = rest } ∷ below) → (b : Bool) → is_synchronized m ≡ b
    → (if b then (method_monitor m (receiver_of g) >>= λ o. Some (asks (calls o (with_monitor g o)) rest)) else Some (invokes g rest)) ≡ Some effect
    → IsCallResult w f below next effect
frame_goes w f below next m g rest effect stands under true guarded e =
    let o = some_is (method_monitor m (receiver_of g)) (λ o. Some (asks (calls o (with_monitor g o)) rest)) effect e in
    result_of w f below next (asks (calls o.0 (with_monitor g o.0)) rest) effect o.2 (stands.guarded o.0 guarded, under)
frame_goes w f below next m g rest effect stands under false plain e =
    result_of w f below next (invokes g rest) effect e (stands.plain plain, under)

code_begins : (w : World) (f : Frame) (below : List Frame) (next : ℕ) (m chosen : Named) (code : MethodCode) (effect : Effect) → AreTyped w
    → (t : Typed w (f ∷ below)) → (h : CallerWaits w f t.0 m) → (c : IsChosen w m chosen)
    → slice_get w.methods chosen.number ≡ Some chosen.method → code_at w chosen.number ≡ Some code
    → (callee chosen.number code (suc (argument_slots m.method.signature)) f.stack >>= λ g.
    frame_entered chosen.method g (drop (suc (argument_slots m.method.signature)) f.stack)) ≡ Some effect
    → IsCallResult w f below next effect
code_begins w f below next m chosen code effect typed t h c there code_is e =
    let n = suc (argument_slots m.method.signature) in
    let g = some_is (callee chosen.number code n f.stack) (λ g. frame_entered chosen.method g (drop n f.stack)) effect e in
    let made : callee chosen.number code (suc (argument_slots chosen.method.signature)) f.stack ≡ Some g.0 =
    subst (λ (s : Signature). callee chosen.number code (suc (argument_slots s)) f.stack ≡ Some g.0) (sym c.signature) g.1 in
    let taken : all_wanted w (argument_types w chosen.method.signature) t.0.at.state.types.stack ≡ Ok h.rest =
    subst (λ (s : Signature). all_wanted w (argument_types w s) t.0.at.state.types.stack ≡ Ok h.rest) (sym c.signature) h.taken in
    let b = begins w chosen code t.0.at.state.types.stack h.rest h.receiver f.stack g.0 typed there code_is c.method.flag
    t.0.kinds.stack taken h.popped made in
    let left : AreOf h.receiver.1 (drop n f.stack) =
    subst (λ (s : Signature). AreOf h.receiver.1 (drop (suc (argument_slots s)) f.stack)) c.signature b.left in
    let waits : Waits w (back_of w chosen.number) (caller f n) =
    h.waits chosen there (ap (λ (s : Signature). s.result) c.signature) left in
    let under : IsUnder w chosen.number (caller f n) (initializes w chosen.number) =
    subst (IsUnder w chosen.number (caller f n)) (sym (object_is_no_initializer w chosen there c.method.flag)) waits in
    frame_goes w f below next chosen.method g.0 (drop n f.stack) effect b.stands
    (subst (λ (k : ℕ). AreUnder w k (caller f n ∷ below)) (sym b.method) (under, t.1)) (is_synchronized chosen.method) refl g.2

code_goes : (w : World) (f : Frame) (below : List Frame) (next depth : ℕ) (m chosen : Named) (effect : Effect) → AreTyped w
    → (t : Typed w (f ∷ below)) → (h : CallerWaits w f t.0 m) → (c : IsChosen w m chosen)
    → slice_get w.methods chosen.number ≡ Some chosen.method → (o : Option MethodCode) → code_at w chosen.number ≡ o
    → code_entered w depth chosen o (suc (argument_slots m.method.signature)) f.stack ≡ Some effect → IsCallResult w f below next effect
code_goes w f below next depth m chosen effect typed t h c there None code_is e = result_of w f below next (throws AbstractMethodError) effect e tt
code_goes w f below next depth m chosen effect typed t h c there (Some code) code_is e =
    by (nat_lt depth most_frames) e
  where
    by : (b : Bool) → (if b
        then (callee chosen.number code (suc (argument_slots m.method.signature)) f.stack >>= λ g.
        frame_entered chosen.method g (drop (suc (argument_slots m.method.signature)) f.stack))
        else Some (throws StackOverflowError)) ≡ Some effect → IsCallResult w f below next effect
    by true e = code_begins w f below next m chosen code effect typed t h c there code_is e
    by false e = result_of w f below next (throws StackOverflowError) effect e tt

-- ---- a native method

native_at_rest : (w : World) (s : Signature) (n : Native) (takes : List ValueKind) (ts rest : List VType) (x : VType × List VType)
    → FitsNative s (kinds.Reference ∷ []) n → native_takes n ≡ Some takes → all_wanted w (argument_types w s) ts ≡ Ok rest
    → type_popped kinds.Reference rest ≡ Ok x → IsTaken w s n takes ts x.1
native_at_rest w s n takes ts rest x fits e taken popped =
    taken_by w s (kinds.Reference ∷ []) n takes ts rest x.1 fits e taken (ap (λ r. r then λ (y : VType × List VType). Ok y.1) popped)

instance_native : (w : World) (f : Frame) (below : List Frame) (m chosen : Named) (r : Memory) (n : Native) (effect : Effect)
    → (typed : AreTyped w) → MemoryFits w r → (t : Typed w (f ∷ below)) → Took w t.0.at.state (fine w f typed t.0.at).after m
    → row_goes_on (row_of t.0.at.place.instruction) ≡ true → IsChosen w m chosen → native_at w chosen.number ≡ Some n
    → (native_row w r n >>= λ row. native_acted row f.stack) ≡ Some effect
    → IsCallResult w f below t.0.at.place.instruction.instr.next effect
instance_native w f below m chosen r n effect typed fits t k goes c at e =
    let named : FitsNative m.method.signature (kinds.Reference ∷ []) n =
    subst (λ (s : Signature). FitsNative s (kinds.Reference ∷ []) n) c.signature (c.method.natives n at) in
    native_goes w f below m r n effect typed fits t
    (record { left = k.receiver.1; under = k.under; stack = k.stack; kept = k.kept; locals = k.locals }) goes
    (λ takes has. native_at_rest w m.method.signature n takes t.0.at.state.types.stack k.rest k.receiver named has k.taken k.popped) e

-- ---- the method that was selected

pub methods_are_entered : (w : World) (f : Frame) (below : List Frame) (invocation : Invocation) (index depth : ℕ) (m chosen : Named) (r : Memory)
    (effect : Effect) → AreTyped w → MemoryFits w r → (t : Typed w (f ∷ below))
    → row_of t.0.at.place.instruction ≡ invoke invocation index → takes_receiver invocation ≡ true
    → named_method w t.0.at.place.instruction.resolution ≡ Some m → slice_get w.methods chosen.number ≡ Some chosen.method
    → IsChosen w m chosen → entered w r depth chosen (suc (argument_slots m.method.signature)) f.stack ≡ Some effect
    → IsCallResult w f below t.0.at.place.instruction.instr.next effect
methods_are_entered w f below invocation index depth m chosen r effect typed fits t known receiver named there c e =
    let at = t.0.at in
    let good = fine w f typed at in
    let p = parts w f.method at.env at.method in
    let k = invocation_took w at.env at.place.instruction at.state good.after invocation index m
    (ap (λ (env : Environment). env.world) p.is) known receiver named good.is in
    let h = callers_wait w f invocation index m typed t.0 known receiver named in
    by k h (native_at w chosen.number) refl e
  where
    by : Took w t.0.at.state (fine w f typed t.0.at).after m → CallerWaits w f t.0 m → (o : Option Native) → native_at w chosen.number ≡ o
        → native_entered w r depth chosen o (suc (argument_slots m.method.signature)) f.stack ≡ Some effect
        → IsCallResult w f below t.0.at.place.instruction.instr.next effect
    by k h None at e = code_goes w f below t.0.at.place.instruction.instr.next depth m chosen effect typed t h c there (code_at w chosen.number) refl e
    by k h (Some n) at e = instance_native w f below m chosen r n effect typed fits t k (ap row_goes_on known) c at e

-- ---- a static method

static_native : (w : World) (f : Frame) (below : List Frame) (index : ℕ) (m : Named) (r : Memory) (n : Native) (effect : Effect)
    → (typed : AreTyped w) → MemoryFits w r → (t : Typed w (f ∷ below)) → Called w t.0.at.state (fine w f typed t.0.at).after m
    → row_of t.0.at.place.instruction ≡ invoke static index → IsOfClass w m → native_at w m.number ≡ Some n
    → (native_row w r n >>= λ row. native_acted row f.stack) ≡ Some effect
    → IsCallResult w f below t.0.at.place.instruction.instr.next effect
static_native w f below index m r n effect typed fits t k known c at e =
    native_goes w f below m r n effect typed fits t
    (record {
      left = k.rest;
      under = k.rest;
      stack = ap (λ (s : TypeState). s.types.stack) (sym k.is);
      kept = λ xs of. of;
      locals = λ xs of. subst (λ (s : TypeState). AreOf s.types.locals xs) k.is of;
    }) (ap row_goes_on known)
    (λ takes has. taken_by w m.method.signature [] n takes t.0.at.state.types.stack k.rest k.rest (c.natives n at) has k.taken refl) e

static_code : (w : World) (f : Frame) (below : List Frame) (next index depth : ℕ) (m : Named) (effect : Effect) → AreTyped w
    → (t : Typed w (f ∷ below)) → row_of t.0.at.place.instruction ≡ invoke static index
    → named_method w t.0.at.place.instruction.resolution ≡ Some m → IsOfClass w m → (o : Option MethodCode) → code_at w m.number ≡ o
    → code_entered w depth m o (argument_slots m.method.signature) f.stack ≡ Some effect → IsCallResult w f below next effect
static_code w f below next index depth m effect typed t known named c None code_is e =
    result_of w f below next (throws AbstractMethodError) effect e tt
static_code w f below next index depth m effect typed t known named c (Some code) code_is e =
    by (nat_lt depth most_frames) e
  where
    same_frame : (o : Option Frame) (a b : Frame) → o ≡ Some a → o ≡ Some b → a ≡ b
    same_frame o a b x y = cc

    begins_there : (callee m.number code (argument_slots m.method.signature) f.stack >>= λ g.
        frame_entered m.method g (drop (argument_slots m.method.signature) f.stack)) ≡ Some effect → IsCallResult w f below next effect
    begins_there e =
        let b = static_begins w f below index m code typed t known named c.flag code_is in
        let left = drop (argument_slots m.method.signature) f.stack in
        let g = some_is (callee m.number code (argument_slots m.method.signature) f.stack) (λ g. frame_entered m.method g left) effect e in
        let same = same_frame (callee m.number code (argument_slots m.method.signature) f.stack) b.frame g.0 b.is g.1 in
        frame_goes w f below next m.method g.0 left effect (subst (StandsAtFirst w m.method) same b.stands)
        (subst (λ (h : Frame). AreUnder w h.method (caller f (argument_slots m.method.signature) ∷ below)) same b.under)
        (is_synchronized m.method) refl g.2

    by : (b : Bool) → (if b
        then (callee m.number code (argument_slots m.method.signature) f.stack >>= λ g.
        frame_entered m.method g (drop (argument_slots m.method.signature) f.stack))
        else Some (throws StackOverflowError)) ≡ Some effect → IsCallResult w f below next effect
    by true e = begins_there e
    by false e = result_of w f below next (throws StackOverflowError) effect e tt

pub statics_are_entered : (w : World) (f : Frame) (below : List Frame) (index depth : ℕ) (m : Named) (r : Memory) (effect : Effect) → AreTyped w
    → MemoryFits w r → (t : Typed w (f ∷ below)) → row_of t.0.at.place.instruction ≡ invoke static index
    → named_method w t.0.at.place.instruction.resolution ≡ Some m → IsOfClass w m
    → entered w r depth m (argument_slots m.method.signature) f.stack ≡ Some effect
    → IsCallResult w f below t.0.at.place.instruction.instr.next effect
statics_are_entered w f below index depth m r effect typed fits t known named c e =
    let at = t.0.at in
    let good = fine w f typed at in
    let p = parts w f.method at.env at.method in
    let k = called_types w at.env at.place.instruction at.state good.after index m (ap (λ (env : Environment). env.world) p.is) known named
    good.is in
    by k (native_at w m.number) refl e
  where
    by : Called w t.0.at.state (fine w f typed t.0.at).after m → (o : Option Native) → native_at w m.number ≡ o
        → native_entered w r depth m o (argument_slots m.method.signature) f.stack ≡ Some effect
        → IsCallResult w f below t.0.at.place.instruction.instr.next effect
    by k None at e =
        static_code w f below t.0.at.place.instruction.instr.next index depth m effect typed t known named c (code_at w m.number) refl e
    by k (Some n) at e = static_native w f below index m r n effect typed fits t k known c at e
