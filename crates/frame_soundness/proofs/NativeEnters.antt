-- A native method is entered by a frame that keeps to the typing.
use Rattle.std.proofs.Common.{◌≡◌, ℕ, true, List, ◌∷◌, Option, Some, Ok, ap, sym, subst, ◌∙◌}
use Rattle.items.specs.Options.{◌>>=◌}
use Rattle.items.proofs.Binds.{some_is}
use Rattle.descriptors.specs.declared.kind.Signature.{Signature}
use Rattle.lib_table.specs.declared.native.Native.{Native}
use Rattle.opcodes.specs.declared.op.ValueKind.{ValueKind}
use Rattle.stack_maps.specs.declared.types.VType.{VType}
use Rattle.instruction_rows.specs.declared.value.Slot.{Slot}
use Rattle.instruction_rows.specs.Contents.{Contents}
use Rattle.instruction_rows.specs.Rows.{row_goes_on}
use Rattle.instruction_rows.specs.SlotEffect.{applied}
use Rattle.instruction_rows.specs.TypeEffect.{types_popped}
use Rattle.instruction_rows.specs.Soundness.{AreOf}
use Rattle.instruction_rows.proofs.StackLaws.{applied_of}
use Rattle.link_model.specs.World.{World}
use Rattle.verify_types.specs.Calls.{argument_types, result_pushed}
use Rattle.verify_types.specs.Operands.{all_wanted}
use Rattle.verify_types.specs.TypeStates.{TypeState}
use Rattle.verify_types.specs.Effects.{row_of}
use Rattle.verify_types.specs.Typing.{AreTyped}
use Rattle.state_model.specs.Frames.{Frame}
use Rattle.ref_model.specs.Memory.{Memory}
use Rattle.ref_model.specs.Fetch.{Named}
use Rattle.ref_model.specs.Requests.{calls}
use Rattle.ref_model.specs.Effects.{Effect, done, invokes, throws, throws_object, asks}
use Rattle.ref_model.specs.NativeRows.{Answer, NativeRow, native, answered, native_acted}
use Rattle.ref_model.specs.Natives.{native_row, native_takes}
use Rattle.ref_model.specs.Operands.{argument_kinds}
use Rattle.frame_soundness.specs.Typed.{own_locals, Typed, given_back, result_type}
use Rattle.frame_soundness.specs.StateKinds.{MemoryFits}
use Rattle.frame_soundness.specs.EventLaws.{IsKept, with_back}
use Rattle.frame_soundness.specs.NativeLaws.{native_result, IsAnswer}
use Rattle.frame_soundness.specs.NativeKinds.{GivesKind, IsNativeOf, FitsNative}
use Rattle.frame_soundness.specs.EnterLaws.{IsCallResult}
use Rattle.frame_soundness.proofs.FetchLaws.{fine}
use Rattle.frame_soundness.proofs.Arrivals.{arrived, on_frames}
use Rattle.frame_soundness.proofs.FieldLaws.{same_effect}
use Rattle.frame_soundness.proofs.CallLaws.{result_is}
use Rattle.frame_soundness.proofs.NativeLaws.{natives_keep}
use Rattle.frame_soundness.proofs.NativeCalls.{always_applied, answered_keeps, same_pair}
use Rattle.frame_soundness.proofs.NativeKinds.{natives_take, arguments_popped, popped_join, back_kind}

-- what is known of an effect that is known
pub result_of : (w : World) (f : Frame) (below : List Frame) (next : ℕ) (a b : Effect) → ◌≡◌ {A = Option Effect} (Some a) (Some b)
    → IsCallResult w f below next a → IsCallResult w f below next b
result_of w f below next a b e h = subst (IsCallResult w f below next) (same_effect a b e) h

-- ---- what it takes

-- what lies below its operands, and the kind of what it gives back
pub record IsTaken (w : World) (s : Signature) (n : Native) (takes : List ValueKind) (ts left : List VType) : Type 0 where
  pub popped : types_popped takes ts ≡ Ok left
  pub gives : GivesKind s.result (native_result n)

pub taken_by : (w : World) (s : Signature) (receiver : List ValueKind) (n : Native) (takes : List ValueKind) (ts rest left : List VType)
    → FitsNative s receiver n → native_takes n ≡ Some takes → all_wanted w (argument_types w s) ts ≡ Ok rest
    → types_popped receiver rest ≡ Ok left → IsTaken w s n takes ts left
taken_by w s receiver n takes ts rest left fits e taken below =
    let h : IsNativeOf s receiver (Some takes) (native_result n) =
    subst (λ (o : Option (List ValueKind)). IsNativeOf s receiver o (native_result n)) e fits in
    record {
      popped = ap (λ ks. types_popped ks ts) h.0
          ∙ popped_join (argument_kinds s) receiver ts rest left (arguments_popped w s ts rest taken) below;
      gives = h.1;
    }

-- what the typing says of the state after the call, apart from frames
pub record Leaves (w : World) (s after : TypeState) (m : Named) : Type 0 where
  pub left : List VType
  pub under : List VType
  pub stack : after.types.stack ≡ result_pushed w m.method under
  pub kept : (xs : List Slot) → AreOf left xs → AreOf under xs
  pub locals : (xs : List Slot) → AreOf s.types.locals xs → AreOf after.types.locals xs

-- ---- what it does

pub native_goes : (w : World) (f : Frame) (below : List Frame) (m : Named) (r : Memory) (n : Native) (effect : Effect) → (typed : AreTyped w)
    → MemoryFits w r → (t : Typed w (f ∷ below)) → (k : Leaves w t.0.at.state (fine w f typed t.0.at).after m)
    → row_goes_on (row_of t.0.at.place.instruction) ≡ true
    → ((takes : List ValueKind) → native_takes n ≡ Some takes → IsTaken w m.method.signature n takes t.0.at.state.types.stack k.left)
    → (native_row w r n >>= λ row. native_acted row f.stack) ≡ Some effect
    → IsCallResult w f below t.0.at.place.instruction.instr.next effect
native_goes w f below m r n effect typed fits t k goes takes_is e =
    let row = some_is (native_row w r n) (λ row. native_acted row f.stack) effect e in by row.0 row.1 row.2
  where
    kept : (x : Effect) → IsKept w (given_back (result_type w m.method) k.under) x → IsCallResult w f below t.0.at.place.instruction.instr.next x
    kept (done q stack) h =
        let good = fine w f typed t.0.at in
        let slots : Contents Slot = record { locals = f.locals; stack = stack } in
        let types = k.stack ∙ result_is w m.method.signature.result k.under in
        let a = arrived w f t.0.at good.after t.0.at.place.instruction.instr.next slots (good.on goes)
        (record { locals = k.locals (own_locals w f.method f.locals) t.0.kinds.locals; stack = subst (λ (us : List VType). AreOf us stack) (sym types) h.1 })
        good.after_shallow in
        record { frame = a.frame; is = a.is; typed = on_frames w f a.frame below a.method a.stands t.1; values = h.0 }
    kept (invokes g stack) h = absurd h
    kept (throws x) h = tt
    kept (throws_object o) h = tt
    kept (asks (calls o g) stack) h = absurd h
    kept (asks q stack) h = λ back is.
        let good = fine w f typed t.0.at in
        let slots : Contents Slot = record { locals = f.locals; stack = with_back back stack } in
        let types = k.stack ∙ result_is w m.method.signature.result k.under in
        let a = arrived w f t.0.at good.after t.0.at.place.instruction.instr.next slots (good.on goes) (record {
          locals = k.locals (own_locals w f.method f.locals) t.0.kinds.locals;
          stack = subst (λ (us : List VType). AreOf us (with_back back stack)) (sym types) (h back is);
        }) good.after_shallow in
        record { frame = a.frame; is = a.is; typed = on_frames w f a.frame below a.method a.stands t.1 }

    by : (row : NativeRow) → native_row w r n ≡ Some row → native_acted row f.stack ≡ Some effect
        → IsCallResult w f below t.0.at.place.instruction.instr.next effect
    by (native takes act) row_is made =
        let h = takes_is takes (natives_take w r n takes act row_is) in
        let a = applied_of Answer takes act t.0.at.state.types.stack k.left f.stack h.popped t.0.kinds.stack in
        let x = some_is (applied Answer takes act f.stack) (λ x. Some (answered x.1 x.0)) effect made in
        let same = same_pair (applied Answer takes act f.stack) (a.result, a.left) x.0 a.is x.1 in
        let left : AreOf k.under x.0.1 = k.kept x.0.1 (subst (λ (y : Answer × List Slot). AreOf k.left y.1) same a.of) in
        let is = always_applied (IsAnswer w (native_result n)) takes act f.stack x.0 (natives_keep w r n (native takes act) fits row_is) x.1 in
        subst (IsCallResult w f below t.0.at.place.instruction.instr.next) (same_effect (answered x.0.1 x.0.0) effect x.2)
        (kept (answered x.0.1 x.0.0)
        (answered_keeps w (native_result n) (result_type w m.method) x.0.0 k.under x.0.1 is (back_kind w m.method.signature.result (native_result n) h.gives) left))
