-- Exceptions on their way through frames that keep to the typing.
use Rattle.std.proofs.Common.{◌≡◌, ℕ, suc, ◌≤◌, Bool, true, false, cond, List, [], ◌∷◌, length, Option, Some, None, refl, ap, sym, subst, ◌∙◌}
use Rattle.std.specs.Prelude.{find, slice_get, ◌==◌}
use Rattle.std.specs.Option.{option_map_or}
use Rattle.std.proofs.lemmas.Bool.{eqb-true}
use Rattle.items.proofs.Binds.{some_is}
use Rattle.opcodes.specs.declared.op.ValueKind.TheVariants as kinds
use Rattle.instruction_rows.specs.declared.value.Value.TheVariants as values
use Rattle.instruction_rows.specs.declared.value.Slot.{Slot}
use Rattle.instruction_rows.specs.declared.value.Slot.TheVariants.{One}
use Rattle.instruction_rows.specs.Kinds.{kind_of_type}
use Rattle.instruction_rows.specs.Contents.{Contents}
use Rattle.instruction_rows.specs.SlotEffect.{pushed}
use Rattle.instruction_rows.specs.Soundness.{HasKinds}
use Rattle.instruction_rows.proofs.KindLaws.{is_of}
use Rattle.instruction_rows.proofs.ListLaws.{same_length}
use Rattle.link_model.specs.declared.members.MethodCode.{MethodCode}
use Rattle.link_model.specs.declared.sites.ArrayType.{ArrayType}
use Rattle.link_model.specs.World.{World, array_type, class_type}
use Rattle.link_model.specs.Decoded.{code_at}
use Rattle.verify_types.specs.TypeStates.{TypeState}
use Rattle.verify_types.specs.Environment.{Handler, Environment}
use Rattle.verify_types.specs.Calls.{covers}
use Rattle.verify_types.specs.Handlers.{caught_type, caught}
use Rattle.verify_types.specs.Walk.{Placed, walk}
use Rattle.verify_types.specs.Typing.{Leads, AreTyped}
use Rattle.verify_types.proofs.ListLaws.{and_true, found_passes}
use Rattle.state_model.specs.Frames.{Frame}
use Rattle.ref_model.specs.Classes.{is_sub}
use Rattle.ref_model.specs.Fetch.{handlers_of}
use Rattle.ref_model.specs.Frames.{is_root}
use Rattle.ref_model.specs.Throwing.{catches, handler_of}
use Rattle.frame_soundness.specs.Typed.{own_locals, IsAt, Waits, IsUnder, Typed, Thrown, back_of}
use Rattle.frame_soundness.specs.ThrowLaws.{IsHandled}
use Rattle.frame_soundness.proofs.FetchLaws.{parts, typed_method, fine}
use Rattle.frame_soundness.proofs.Arrivals.{arrived, on_frames}

-- ---- frames of a thread that throws

pub thrown : (w : World) (frames : List Frame) → Typed w frames → Thrown w frames
thrown w [] t = t
thrown w (f ∷ below) t = (record { at = t.0.at; locals = t.0.kinds.locals }, t.1)

pub left : (w : World) (f : Frame) (below : List Frame) → Thrown w (f ∷ below) → is_root w f below ≡ false → Thrown w below
left w f [] t root = absurd cc
left w f (g ∷ rest) t root =
    let h : Waits w (back_of w f.method) g = subst (IsUnder w f.method g) root t.1.0 in
    (record { at = h.at; locals = h.before }, t.1.1)

-- ---- a handler

record FoundAt {A : Type 0} (xs : List A) (x : A) : Type 0 where
  pub place : ℕ
  pub is : slice_get xs place ≡ Some x

found_by : {A : Type 0} (test : Bool) (y x : A) (xs : List A) (below : Option A) → cond test (Some y) below ≡ Some x
    → (below ≡ Some x → FoundAt xs x) → FoundAt (y ∷ xs) x
found_by true y x xs below e rest = record { place = 0; is = e }
found_by false y x xs below e rest = let h = rest e in record { place = suc h.place; is = h.is }

found_at : {A : Type 0} (p : A → Bool) (xs : List A) (x : A) → find p xs ≡ Some x → FoundAt xs x
found_at p [] x e = absurd cc
found_at p (y ∷ xs) x e = found_by (p y) y x xs (find p xs) e (found_at p xs x)

-- every class is a reference
pub class_kind : (w : World) (n : ℕ) → kind_of_type (class_type w n) ≡ Some kinds.Reference
class_kind w n = by (array_type w n) refl
  where
    by : (o : Option ArrayType) → array_type w n ≡ o → kind_of_type (class_type w n) ≡ Some kinds.Reference
    by None e = rw e refl
    by (Some a) e = rw e refl

caught_kind : (w : World) (c : Option ℕ) → kind_of_type (caught_type w c) ≡ Some kinds.Reference
caught_kind w None = refl
caught_kind w (Some n) = class_kind w n

-- the pc of the instruction is that of the frame
pc_is : (w : World) (f : Frame) (at : IsAt w f) → f.pc ≡ at.place.instruction.instr.pc
pc_is w f at =
    sym (eqb-true at.place.instruction.instr.pc f.pc
    (found_passes (λ (p : Placed). p.instruction.instr.pc == f.pc) (walk at.env) at.place at.there))

-- the state at a handler has one item, which the method has room for
one_fits : (w : World) (f : Frame) → AreTyped w → (at : IsAt w f) → (s : TypeState) (pc : ℕ) (c : Contents Slot) → Leads at.env s pc
    → HasKinds s.types c → length s.types.stack ≤ at.env.max_stack
one_fits w f typed at s pc c leads kinds =
    let each = (typed_method w f typed at).each pc leads.place leads.there in
    let same : each.0 ≡ leads.state = inside leads.place.state each.0 leads.state each.1 leads.has in
    let shallow : length leads.state.types.stack ≤ at.env.max_stack =
    subst (λ (x : TypeState). length x.types.stack ≤ at.env.max_stack) same each.2.before_shallow in
    let after = leads.keeps c kinds in
    let many : length leads.state.types.stack ≡ length s.types.stack =
    same_length leads.state.types.stack c.stack after.stack ∙ sym (same_length s.types.stack c.stack kinds.stack) in
    subst (λ (n : ℕ). n ≤ at.env.max_stack) many shallow
  where
    inside : (o : Option TypeState) (a b : TypeState) → o ≡ Some a → o ≡ Some b → a ≡ b
    inside o a b x y = cc

pub handled : (w : World) (f : Frame) (below : List Frame) (class o : ℕ) (h : Handler) → AreTyped w → Thrown w (f ∷ below)
    → handler_of w class f ≡ Some h → IsHandled w f below h o
handled w f below class o h typed_world t found =
    let at = t.0.at in
    let p = parts w f.method at.env at.method in
    let test = catches w f.pc class in
    let inner = some_is (code_at w f.method) (λ code. find test (handlers_of w f.method code)) h found in
    let same : p.code ≡ inner.0 = inside (code_at w f.method) p.code inner.0 p.code_is inner.1 in
    let rows : handlers_of w f.method inner.0 ≡ at.env.handlers =
    ap (handlers_of w f.method) (sym same) ∙ ap (λ (env : Environment). env.handlers) p.is in
    let place = found_at test (handlers_of w f.method inner.0) h inner.2 in
    let covered = and_true (covers f.pc h) (option_map_or (is_sub w class) h.catch true)
    (found_passes test (handlers_of w f.method inner.0) h inner.2) in
    let good = fine w f typed_world at in
    let leads = good.handled place.place h (ap (λ hs. slice_get hs place.place) (sym rows) ∙ place.is)
    (ap (λ pc. covers pc h) (sym (pc_is w f at)) ∙ covered.0) in
    let slots : Contents Slot = record { locals = f.locals; stack = pushed (values.Ref o) [] } in
    let type = caught_type at.env.world h.catch in
    let own : Contents Slot = record { locals = own_locals w f.method f.locals; stack = slots.stack } in
    let kinds : HasKinds (caught at.env.world h at.state).types own = record {
      locals = t.0.locals;
      stack = (is_of kinds.Reference type (One (values.Ref o)) (caught_kind at.env.world h.catch) (record { value = Some o; is = refl }), tt);
    } in
    let a = arrived w f at (caught at.env.world h at.state) h.row.handler slots leads kinds
    (one_fits w f typed_world at (caught at.env.world h at.state) h.row.handler own leads kinds) in
    record { frame = a.frame; is = a.is; typed = on_frames w f a.frame below a.method a.stands t.1 }
  where
    inside : (o : Option MethodCode) (a b : MethodCode) → o ≡ Some a → o ≡ Some b → a ≡ b
    inside o a b x y = cc
