-- Operands are there: types that are taken stand for values that are there.
use Rattle.std.proofs.Common.{◌≡◌, ℕ, ◌+◌, true, List, [], ◌∷◌, drop, Option, Some, Ok, refl, ap, sym, subst, ◌∙◌}
use Rattle.std.proofs.lemmas.List.{drop-drop}
use Rattle.items.specs.Options.{◌>>=◌}
use Rattle.items.proofs.Binds.{some_is}
use Rattle.descriptors.specs.declared.kind.Signature.{Signature}
use Rattle.lib_table.specs.declared.native.Native.{Native}
use Rattle.opcodes.specs.declared.op.ValueKind.{ValueKind}
use Rattle.opcodes.specs.declared.op.ValueKind.TheVariants as kinds
use Rattle.stack_maps.specs.declared.types.VType.{VType}
use Rattle.instruction_rows.specs.declared.value.Slot.{Slot}
use Rattle.instruction_rows.specs.Kinds.{Of, held}
use Rattle.instruction_rows.specs.Rows.{Invocation, invoke, static}
use Rattle.instruction_rows.specs.SlotEffect.{popped}
use Rattle.instruction_rows.specs.TypeEffect.{type_popped, types_popped}
use Rattle.instruction_rows.specs.Soundness.{AreOf}
use Rattle.instruction_rows.proofs.StackLaws.{popped_of}
use Rattle.instruction_rows.proofs.Steps.{ok_is}
use Rattle.link_model.specs.World.{World}
use Rattle.verify_types.specs.Calls.{argument_types}
use Rattle.verify_types.specs.Environment.{Environment}
use Rattle.verify_types.specs.Operands.{all_wanted}
use Rattle.verify_types.specs.Effects.{row_of}
use Rattle.verify_types.specs.Typing.{AreTyped}
use Rattle.state_model.specs.Frames.{Frame}
use Rattle.ref_model.specs.Members.{native_at}
use Rattle.ref_model.specs.Fetch.{Named, named_method}
use Rattle.ref_model.specs.Operands.{width, HasOperands, row_takes, FindsOperands, FindsArguments}
use Rattle.frame_soundness.specs.Typed.{Typed}
use Rattle.frame_soundness.specs.CallLaws.{takes_receiver}
use Rattle.frame_soundness.specs.NativeKinds.{FitsNative}
use Rattle.frame_soundness.specs.StepKinds.{IsLinkedWorld}
use Rattle.frame_soundness.specs.EnterLaws.{IsOfClass, IsChosen}
use Rattle.frame_soundness.proofs.FetchLaws.{parts, fine}
use Rattle.frame_soundness.proofs.CallLaws.{called_types}
use Rattle.frame_soundness.proofs.CallerLaws.{invocation_took}
use Rattle.frame_soundness.proofs.NativeKinds.{natives_take}
use Rattle.frame_soundness.proofs.NativeEnters.{taken_by}
use Rattle.frame_soundness.proofs.OperandTypes.{one_popped, instruction_takes}

-- ---- from types to values

-- what lies below a value that is taken
left_by : (k : ValueKind) (o : Option (Of k)) (rest : List Slot) (x : Of k × List Slot) → (o >>= λ v. Some (v, rest)) ≡ Some x → x.1 ≡ rest
left_by k o rest x e =
    let v = some_is o (λ v. Some (v, rest)) x e in sym (ap (λ (y : Of k × List Slot). y.1) (inside (v.0, rest) x v.2))
  where
    inside : (a b : Of k × List Slot) → ◌≡◌ {A = Option (Of k × List Slot)} (Some a) (Some b) → a ≡ b
    inside a b same = cc

left_is : (k : ValueKind) (xs : List Slot) (x : Of k × List Slot) → popped k xs ≡ Some x → x.1 ≡ drop (width k) xs
left_is kinds.Int [] x e = absurd cc
left_is kinds.Int (slot ∷ rest) x e = left_by kinds.Int (held kinds.Int slot) rest x e
left_is kinds.Reference [] x e = absurd cc
left_is kinds.Reference (slot ∷ rest) x e = left_by kinds.Reference (held kinds.Reference slot) rest x e
left_is kinds.Long [] x e = absurd cc
left_is kinds.Long (upper ∷ []) x e = absurd cc
left_is kinds.Long (upper ∷ slot ∷ rest) x e = left_by kinds.Long (held kinds.Long slot) rest x e

pub operands_of : (ks : List ValueKind) (depth : ℕ) (ts rest : List VType) (xs : List Slot) → types_popped ks ts ≡ Ok rest
    → AreOf ts (drop depth xs) → HasOperands ks depth xs
operands_of [] depth ts rest xs e of = tt
operands_of (k ∷ ks) depth ts rest xs e of =
    let first = ok_is (type_popped k ts) (λ (x : VType × List VType). types_popped ks x.1) rest e in
    let top = popped_of k ts first.0 (drop depth xs) first.1 of in
    let left : top.left ≡ drop (depth + width k) xs = left_is k (drop depth xs) (top.value, top.left) top.is ∙ drop-drop (width k) depth xs in (
      record { operand = top.value; is = top.is ∙ ap (λ ys. Some (top.value, ys)) left },
      operands_of ks (depth + width k) first.0.1 rest xs first.2 (subst (λ (ys : List Slot). AreOf first.0.1 ys) left top.of),
    )

-- ---- the instruction at hand

pub operands_are_there : (w : World) (f : Frame) (below : List Frame) → IsLinkedWorld w → (t : Typed w (f ∷ below))
    → FindsOperands w t.0.at.place.instruction.resolution (row_of t.0.at.place.instruction) f.stack
operands_are_there w f below linked t =
    let at = t.0.at in
    let i = at.place.instruction in
    let good = fine w f linked.typed at in
    let p = parts w f.method at.env at.method in
    let h = instruction_takes w at.env i at.state good.after (row_of i) (ap (λ (env : Environment). env.world) p.is) refl good.is in
    operands_of (row_takes w i.resolution (row_of i)) 0 at.state.types.stack h.left f.stack h.is t.0.kinds.stack

-- ---- native methods

found_by : (w : World) (s : Signature) (receiver : List ValueKind) (n : Native) (ts rest left : List VType) (xs : List Slot) → FitsNative s receiver n
    → all_wanted w (argument_types w s) ts ≡ Ok rest → types_popped receiver rest ≡ Ok left → AreOf ts xs → FindsArguments w n xs
found_by w s receiver n ts rest left xs fits taken below of = λ r takes act row.
    operands_of takes 0 ts left xs (taken_by w s receiver n takes ts rest left fits (natives_take w r n takes act row) taken below).popped of

pub arguments_are_there : (w : World) (f : Frame) (below : List Frame) (invocation : Invocation) (index : ℕ) (m chosen : Named) (n : Native)
    → AreTyped w → (t : Typed w (f ∷ below)) → row_of t.0.at.place.instruction ≡ invoke invocation index → takes_receiver invocation ≡ true
    → named_method w t.0.at.place.instruction.resolution ≡ Some m → IsChosen w m chosen → native_at w chosen.number ≡ Some n
    → FindsArguments w n f.stack
arguments_are_there w f below invocation index m chosen n typed t known receiver named c at_native =
    let at = t.0.at in
    let good = fine w f typed at in
    let p = parts w f.method at.env at.method in
    let k = invocation_took w at.env at.place.instruction at.state good.after invocation index m
    (ap (λ (env : Environment). env.world) p.is) known receiver named good.is in
    let fits : FitsNative m.method.signature (kinds.Reference ∷ []) n =
    subst (λ (s : Signature). FitsNative s (kinds.Reference ∷ []) n) c.signature (c.method.natives n at_native) in
    found_by w m.method.signature (kinds.Reference ∷ []) n at.state.types.stack k.rest k.receiver.1 f.stack fits k.taken
    (one_popped kinds.Reference k.rest k.receiver.1 k.receiver k.popped refl) t.0.kinds.stack

pub static_arguments_are_there : (w : World) (f : Frame) (below : List Frame) (index : ℕ) (m : Named) (n : Native) → AreTyped w
    → (t : Typed w (f ∷ below)) → row_of t.0.at.place.instruction ≡ invoke static index
    → named_method w t.0.at.place.instruction.resolution ≡ Some m → IsOfClass w m → native_at w m.number ≡ Some n → FindsArguments w n f.stack
static_arguments_are_there w f below index m n typed t known named c at_native =
    let at = t.0.at in
    let good = fine w f typed at in
    let p = parts w f.method at.env at.method in
    let k = called_types w at.env at.place.instruction at.state good.after index m (ap (λ (env : Environment). env.world) p.is) known named
    good.is in
    found_by w m.method.signature [] n at.state.types.stack k.rest k.rest f.stack (c.natives n at_native) k.taken refl t.0.kinds.stack
