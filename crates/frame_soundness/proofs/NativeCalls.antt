-- Native methods on the operand stack.
use Rattle.std.proofs.Common.{◌≡◌, List, [], ◌∷◌, Option, Some, None, Ok, ap, sym, subst, ◌∙◌}
use Rattle.items.proofs.Binds.{some_is}
use Rattle.lib_table.specs.declared.native.Native.{Native}
use Rattle.opcodes.specs.declared.op.ValueKind.{ValueKind}
use Rattle.stack_maps.specs.declared.types.VType.{VType}
use Rattle.instruction_rows.specs.declared.value.Slot.{Slot}
use Rattle.instruction_rows.specs.Kinds.{Function, kind_of}
use Rattle.instruction_rows.specs.SlotEffect.{popped, applied}
use Rattle.instruction_rows.specs.TypeEffect.{types_popped}
use Rattle.instruction_rows.specs.Soundness.{AreOf}
use Rattle.instruction_rows.proofs.KindLaws.{pushed_kinds}
use Rattle.instruction_rows.proofs.StackLaws.{applied_of}
use Rattle.link_model.specs.World.{World}
use Rattle.ref_model.specs.Memory.{Memory}
use Rattle.ref_model.specs.Effects.{Effect, done, gives}
use Rattle.ref_model.specs.Requests.{request_result, calls}
use Rattle.ref_model.specs.NativeRows.{Answer, returns, returns_value, fails, asks_for, native, answered, native_acted}
use Rattle.ref_model.specs.Natives.{native_row}
use Rattle.frame_soundness.specs.Typed.{given_back}
use Rattle.frame_soundness.specs.StateKinds.{MemoryFits}
use Rattle.frame_soundness.specs.EventLaws.{IsKept, WithBack}
use Rattle.frame_soundness.specs.NativeLaws.{native_result, IsAnswer, Always, IsBack}
use Rattle.frame_soundness.proofs.FieldLaws.{kept_is}
use Rattle.frame_soundness.proofs.NativeLaws.{natives_keep}

-- what always holds, holds of the values that are taken
pub always_applied : (P : Answer → Type 0) (takes : List ValueKind) (f : Function takes Answer) (xs : List Slot) (x : Answer × List Slot)
    → Always P takes f → applied Answer takes f xs ≡ Some x → P x.0
always_applied P [] f xs x always e = subst (λ (y : Answer × List Slot). P y.0) (inside (f, xs) x e) always
  where
    inside : (a b : Answer × List Slot) → ◌≡◌ {A = Option (Answer × List Slot)} (Some a) (Some b) → a ≡ b
    inside a b same = cc
always_applied P (k ∷ ks) f xs x always e =
    let v = some_is (popped k xs) (λ v. applied Answer ks (f v.0) v.1) x e in
    always_applied P ks (f v.0.0) v.0.1 x (always v.0.0) v.2

-- whatever comes back of a request, on what lies below the operands
given_keeps : (back : Option VType) (rest : List VType) (left : List Slot) (result : Option ValueKind) → IsBack back result → AreOf rest left
    → WithBack result left (λ xs. AreOf (given_back back rest) xs)
given_keeps None rest left None fit of None is = of
given_keeps None rest left None fit of (Some v) is = absurd is
given_keeps None rest left (Some k) fit of given is = absurd fit
given_keeps (Some t) rest left None fit of given is = absurd fit
given_keeps (Some t) rest left (Some k) fit of None is = absurd is
given_keeps (Some t) rest left (Some k) fit of (Some v) is = pushed_kinds t v rest left (fit ∙ ap Some (sym is)) of

-- an answer on what lies below the operands
pub answered_keeps : (w : World) (result : Option ValueKind) (back : Option VType) (answer : Answer) (rest : List VType) (left : List Slot)
    → IsAnswer w result answer → IsBack back result → AreOf rest left → IsKept w (given_back back rest) (answered left answer)
answered_keeps w result back (fails x) rest left is fit of = tt
answered_keeps w result back (asks_for (calls o g)) rest left is fit of = absurd is
answered_keeps w result back (asks_for q) rest left is fit of = given_keeps back rest left (request_result q) (subst (IsBack back) is fit) of
answered_keeps w result back (returns q) rest left is fit of = by back (subst (IsBack back) is.0 fit)
  where
    by : (back : Option VType) → IsBack back None → IsKept w (given_back back rest) (done q left)
    by None fit = (is.1, of)
    by (Some t) fit = absurd fit
answered_keeps w result back (returns_value q v) rest left is fit of = by back (subst (IsBack back) is.0 fit)
  where
    by : (back : Option VType) → IsBack back (Some (kind_of v)) → IsKept w (given_back back rest) (gives q v left)
    by None fit = absurd fit
    by (Some t) fit = (is.1, pushed_kinds t v rest left fit of)

pub same_pair : (o : Option (Answer × List Slot)) (a b : Answer × List Slot) → o ≡ Some a → o ≡ Some b → a ≡ b
same_pair o a b x y = cc

pub natives_go_on : (w : World) (r : Memory) (n : Native) (takes : List ValueKind) (act : Function takes Answer) (back : Option VType)
    (ts rest : List VType) (xs : List Slot) (effect : Effect) → MemoryFits w r → native_row w r n ≡ Some (native takes act)
    → types_popped takes ts ≡ Ok rest → AreOf ts xs → IsBack back (native_result n) → native_acted (native takes act) xs ≡ Some effect
    → IsKept w (given_back back rest) effect
natives_go_on w r n takes act back ts rest xs effect fits row types of fit made =
    let always = natives_keep w r n (native takes act) fits row in
    let a = applied_of Answer takes act ts rest xs types of in
    let x = some_is (applied Answer takes act xs) (λ x. Some (answered x.1 x.0)) effect made in
    let same = same_pair (applied Answer takes act xs) (a.result, a.left) x.0 a.is x.1 in
    let left : AreOf rest x.0.1 = subst (λ (y : Answer × List Slot). AreOf rest y.1) same a.of in
    let is = always_applied (IsAnswer w (native_result n)) takes act xs x.0 always x.1 in
    kept_is w (given_back back rest) (answered x.0.1 x.0.0) effect x.2
    (answered_keeps w (native_result n) back x.0.0 rest x.0.1 is fit left)
